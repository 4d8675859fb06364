-- The whole text, line by line: how long a schedule of a shelf is, and what was written so far.
use Rattle.std.proofs.Common.{◌≡◌, refl, sym, ap, subst, ◌∙◌, false, List, [], ◌∷◌, ◌++◌, ℕ, suc, ◌+◌, ◌≤◌, ◌<◌, length, take, drop, length-append, zero-add, arith, Result, Ok, Err, take_at, lt-ltb, le-ltb}
use Rattle.printing.specs.declared.Page.{Page}
use Rattle.printing.specs.Writes.{Writes}
use Rattle.printing.specs.Page.{Wrote}
use Rattle.printing.proofs.Stores.{wrote_none, wrote_more, writes_length, front}
use Rattle.text.specs.declared.wanted.Wanted.{Wanted}
use Rattle.text.specs.declared.wanted.Wanted.TheVariants.{Room}
use Rattle.text.specs.declared.wanted.Bad.{Bad}
use Rattle.text.specs.declared.wanted.Bad.TheVariants.{TooLong, Line}
use Rattle.text.specs.declared.items.Item.{Item}
use Rattle.text.specs.declared.items.Item.TheVariants.{Nothing, Header, Steps, Numbers, Named}
use Rattle.text.specs.Pieces.{lines, bare}
use Rattle.text.specs.Items.{item, name_of, is_named}
use Rattle.text.specs.Meaning.{four, said, said_by, section, text_limit, room_bytes, Meaning, bytes, refused, going, meaning, outcome}
use Rattle.text.specs.Parts.{FirstLine, Filled}
use Rattle.text.proofs.FirstLine.{lines_empty}
use Rattle.text.proofs.Bytes.{room_named}

-- ---- the length that a name says

said_length : (l : List ℕ) (k j : ℕ) (i : Item) → (i ≡ Named → k ≡ j) → said l k i ≡ said l j i
unfolding said
said_length l k j Nothing h = refl
said_length l k j (Header nb ne t) h = refl
said_length l k j (Steps n c a b) h = refl
said_length l k j Numbers h = refl
said_length l k j Named h = ap (λ (x : ℕ). name_of l ++ (10 ∷ four x)) (h refl)

pub said_long : (l : List ℕ) (k : ℕ) (i : Item) → length (said l k i) ≡ length (said l 0 i)
unfolding said
said_long l k Nothing = refl
said_long l k (Header nb ne t) = refl
said_long l k (Steps n c a b) = refl
said_long l k Numbers = refl
said_long l k Named = room_named l k ∙ sym (room_named l 0)

section_line : (x : List ℕ) (ls : List (List ℕ)) (line : List ℕ) (r : Result Item Wanted) → line ≡ bare x → r ≡ item line → is_named r ≡ false
    → section (x ∷ ls) ≡ length (said_by line 0 r) + section ls
unfolding section
section_line x ls line r e f n = rw (← e, ← f, n) refl

section_name : (x : List ℕ) (ls : List (List ℕ)) (line : List ℕ) → line ≡ bare x → Ok Named ≡ item line → section (x ∷ ls) ≡ 0
unfolding section
section_name x ls line e f = rw (← e, ← f) refl

section_none : section [] ≡ 0
unfolding section
section_none = refl

pub section_end : (t : List ℕ) → length t ≡ 0 → section (lines t) ≡ 0
section_end t h = ap section (lines_empty t h) ∙ section_none

not_named : (i : Item) → (i ≡ Named → ⊥) → is_named (Ok i) ≡ false
not_named Nothing n = refl
not_named (Header nb ne t) n = refl
not_named (Steps t c a b) n = refl
not_named Numbers n = refl
not_named Named n = absurd (n refl)

module _ (t line rest : List ℕ) (f : FirstLine t line rest) where
  pub section_named : Ok Named ≡ item line → section (lines t) ≡ 0
  section_named e = ap section f.splits ∙ section_name f.raw (lines rest) line f.is e

  pub section_more : (i : Item) → (i ≡ Named → ⊥) → Ok i ≡ item line → section (lines t) ≡ length (said line 0 i) + section (lines rest)
  section_more i n e = ap section f.splits ∙ section_line f.raw (lines rest) line (Ok i) f.is e (not_named i n)

  pub section_refused : (w : Wanted) → Err w ≡ item line → section (lines t) ≡ section (lines rest)
  section_refused w e = ap section f.splits ∙ section_line f.raw (lines rest) line (Err w) f.is e refl ∙ zero-add (section (lines rest))

-- ---- a line of the whole

going_refuses : (n : ℕ) (done x : List ℕ) (ls : List (List ℕ)) (line : List ℕ) (w : Wanted) → line ≡ bare x → Err w ≡ item line → going n done (x ∷ ls) ≡ refused n w
unfolding going
going_refuses n done x ls line w e f = rw (← e, ← f) refl

going_full : (n : ℕ) (done x : List ℕ) (ls : List (List ℕ)) (line : List ℕ) (i : Item) → line ≡ bare x → Ok i ≡ item line
    → room_bytes < length (done ++ said line (section ls) i) → going n done (x ∷ ls) ≡ refused n Room
unfolding going
going_full n done x ls line i e f h = rw (← e, ← f, lt-ltb room_bytes (length (done ++ said line (section ls) i)) h) refl

going_on : (n : ℕ) (done x : List ℕ) (ls : List (List ℕ)) (line : List ℕ) (i : Item) → line ≡ bare x → Ok i ≡ item line
    → length (done ++ said line (section ls) i) ≤ room_bytes → going n done (x ∷ ls) ≡ going (suc n) (done ++ said line (section ls) i) ls
unfolding going
going_on n done x ls line i e f h = rw (← e, ← f, le-ltb room_bytes (length (done ++ said line (section ls) i)) h) refl

going_none : (n : ℕ) (done : List ℕ) → going n done [] ≡ bytes done
unfolding going
going_none n done = refl

-- the bytes done up to the line of this number, behind which the rest stands
pub record Going (t : List ℕ) (before : Page) (number : ℕ) (rest : List ℕ) (page : Page) : Type 0 where
  pub done : List ℕ
  pub wrote : Wrote done before page
  pub same : going number done (lines rest) ≡ going 1 [] (lines t)

pub going_start : (t : List ℕ) (p : Page) → p.len ≤ length p.room.now → Going t p 1 t p
going_start t p h = record { done = []; wrote = wrote_none p h; same = refl }

module _ (t : List ℕ) (before : Page) (number : ℕ) (rest : List ℕ) (page : Page) (g : Going t before number rest page) where
  pub going_end : length rest ≡ 0 → Filled (going 1 [] (lines t)) before (Ok tt) page
  unfolding Filled
  going_end h =
      let m = sym g.same ∙ ap (going number g.done) (lines_empty rest h) ∙ going_none number g.done in
      subst (λ (x : Meaning). Filled x before (Ok tt) page) (sym m) (refl, g.wrote)

  module _ (line behind : List ℕ) (f : FirstLine rest line behind) where
    now : going number g.done (f.raw ∷ lines behind) ≡ going 1 [] (lines t)
    now = sym (ap (going number g.done) f.splits) ∙ g.same

    pub stop_refused : (w : Wanted) → Err w ≡ item line → Filled (going 1 [] (lines t)) before (Err (Line number w)) page
    unfolding Filled
    stop_refused w e =
        let m = sym now ∙ going_refuses number g.done f.raw (lines behind) line w f.is e in
        subst (λ (x : Meaning). Filled x before (Err (Line number w)) page) (sym m) refl

    module _ (i : Item) (e : Ok i ≡ item line) (none : before.len ≡ 0) where
      abbrev part : List ℕ
      part = said line (section (lines behind)) i

      long : length (g.done ++ part) ≡ page.len + length (said line 0 i)
      long =
          let a = g.wrote.writes.answer in let b = length-append g.done part in
          let d = said_long line (section (lines behind)) i in
          omega arith

      pub stop_full : room_bytes < page.len + length (said line 0 i) → Filled (going 1 [] (lines t)) before (Err (Line number Room)) page
      unfolding Filled
      stop_full h =
          let m = sym now ∙ going_full number g.done f.raw (lines behind) line i f.is e (omega (arith, long)) in
          subst (λ (x : Meaning). Filled x before (Err (Line number Room)) page) (sym m) refl

      pub goes_on : page.len + length (said line 0 i) ≤ room_bytes → (k : ℕ) → (i ≡ Named → k ≡ section (lines behind)) → (next : Page)
          → Wrote (said line k i) page next → Going t before (number + 1) behind next
      goes_on h k l next w =
          let s : said line k i ≡ part = said_length line k (section (lines behind)) i l in
          let n : number + 1 ≡ suc number = omega arith in
          record {
            done = g.done ++ part;
            wrote = wrote_more g.done part before page next g.wrote (subst (λ (x : List ℕ). Wrote x page next) s w);
            same =
                ap (λ (x : ℕ). going x (g.done ++ part) (lines behind)) n
                ∙ sym (going_on number g.done f.raw (lines behind) line i f.is e (omega (arith, long))) ∙ now;
          }

-- ---- the outcome

pub long_text : (t before : List ℕ) → text_limit < length t → (Err TooLong, before) ≡ outcome (meaning t) before
unfolding meaning
long_text t before h = rw (lt-ltb text_limit (length t) h) refl

pub short_text : (t : List ℕ) → length t ≤ text_limit → meaning t ≡ going 1 [] (lines t)
unfolding meaning
short_text t h = rw (le-ltb text_limit (length t) h) refl

-- what a page took, where nothing stood on it
module _ (p q : Page) (none : p.len ≡ 0) where
  pub made_within : (m : Meaning) → Filled m p (Ok tt) q → (q.len ≤ length q.room.now) × (q.len ≤ length p.room.now)
  unfolding Filled
  made_within (Ok bs) f = let w = f.1.writes in let h = w.room in (omega (arith, writes_length _ _ _ _ _ w), h)
  made_within (Err b) f = absurd (cc f)

  pub made_outcome : (m : Meaning) → Filled m p (Ok tt) q → (before after : List ℕ) → after ≡ take q.len q.room.now ++ drop q.len before
      → (Ok q.len, after) ≡ outcome m before
  unfolding Filled
  made_outcome (Ok bs) f before after e =
      let s = front bs p.room.now q.room.now q.len (subst (λ (n : ℕ). Writes n bs p.room.now q.len q.room.now) none f.1.writes) in
      let u : take q.len q.room.now ≡ bs = ap (take q.len) s.1 ∙ take_at bs (drop (length bs) p.room.now) q.len (sym s.0) in
      rw (e, u, s.0) refl
  made_outcome (Err b) f before after e = absurd (cc f)

  pub bad_outcome : (m : Meaning) (b : Bad) → Filled m p (Err b) q → (before : List ℕ) → (Err b, before) ≡ outcome m before
  unfolding Filled
  bad_outcome (Ok bs) b f before = absurd (cc f.0)
  bad_outcome (Err c) b f before = let e : b ≡ c = cc f in ap (λ (x : Bad). (Err x, before)) e

-- for a caller, who writes the front

made_front : (m : Meaning) (n : ℕ) (before after : List ℕ) → (Ok n, after) ≡ outcome m before → n ≤ length after
made_front (Ok bs) n before after e =
    let p : Ok n ≡ Ok (length bs) = ap (λ (x : Result ℕ Bad × List ℕ). x.0) e in let k : n ≡ length bs = cc in
    let f : after ≡ bs ++ drop (length bs) before = ap (λ (x : Result ℕ Bad × List ℕ). x.1) e in
    omega (arith, ap length f, length-append bs (drop (length bs) before))
made_front (Err b) n before after e = absurd (let p : Ok n ≡ Err b = ap (λ (x : Result ℕ Bad × List ℕ). x.0) e in cc)

pub made_room : (t before after : List ℕ) (n : ℕ) (r : Result ℕ Bad) → (r, after) ≡ outcome (meaning t) before → r ≡ Ok n → n ≤ length after
made_room t before after n r e f = made_front (meaning t) n before after (subst (λ (x : Result ℕ Bad). (x, after) ≡ outcome (meaning t) before) f e)

-- ---- any two outcomes that the promise allows are equal

pub bytes_unique : (t before : List ℕ) (r s : Result ℕ Bad) (after behind : List ℕ) → (r, after) ≡ outcome (meaning t) before
    → (s, behind) ≡ outcome (meaning t) before → (r ≡ s) × (after ≡ behind)
bytes_unique t before r s after behind p q = let e = p ∙ sym q in (ap (λ x. x.0) e, ap (λ x. x.1) e)
