-- What the promise allows: one outcome only, and a text that lies within its room.
use Rattle.std.proofs.Common.{◌≡◌, refl, sym, ap, ap₂, subst, ◌∙◌, Bool, true, false, if◌then◌else◌, List, ◌++◌, ℕ, ◌≤◌, ◌<◌, length, drop, arith, length-append, Some, Result, Ok, Err}
use borrow.Author.Tests.{ltb-false}
use Rattle.book.specs.Sizes.{fits}
use Rattle.book.specs.declared.Size.{Size}
use Rattle.schedule.specs.Bytes.{limit, byte_at, is_long, is_header, header, size_in}
use Rattle.printing.specs.declared.Page.{Page}
use Rattle.printing.specs.Page.{Wrote}
use Rattle.printing.proofs.Stores.{front}
use Rattle.shown.specs.declared.Unshown.{Unshown}
use Rattle.shown.specs.declared.Unshown.TheVariants.{Long, Header, Unfit}
use Rattle.shown.specs.Shown.{Shown, text, played, outcome}
use Rattle.shown.proofs.Lengths.{text_short}

-- ---- what is refused, and what is played

module _ (before : List ℕ) (long headed fit : Bool) (size : Size) (shown : Shown × List ℕ) where
  tested : Result Size Unshown
  tested = if long then Err Long else if headed then (if fit then Ok size else Err Unfit) else Err Header

  told : Shown × List ℕ
  told = if long then (Err Long, before) else if headed then (if fit then shown else (Err Unfit, before)) else (Err Header, before)

refused_by : (before : List ℕ) (long headed fit : Bool) (size : Size) (shown : Shown × List ℕ) (w : Unshown) → Err w ≡ tested before long headed fit size shown
    → (Err w, before) ≡ told before long headed fit size shown
unfolding tested told
refused_by before true headed fit size shown w e = cc
refused_by before false true true size shown w e = absurd (cc)
refused_by before false true false size shown w e = cc
refused_by before false false fit size shown w e = cc

record Played (z size : Size) (long headed : Bool) (shown all : Shown × List ℕ) : Type 0 where
  is_size : z ≡ size
  is_short : long ≡ false
  is_headed : headed ≡ true
  is_shown : shown ≡ all

played_by : (before : List ℕ) (long headed fit : Bool) (size : Size) (shown : Shown × List ℕ) (z : Size) → Ok z ≡ tested before long headed fit size shown
    → Played z size long headed shown (told before long headed fit size shown)
unfolding tested told
played_by before true headed fit size shown z e = absurd (cc)
played_by before false true true size shown z e = record { is_size = cc; is_short = refl; is_headed = refl; is_shown = refl }
played_by before false true false size shown z e = absurd (cc)
played_by before false false fit size shown z e = absurd (cc)

module _ (bs before : List ℕ) where
  pub refused_outcome : (w : Unshown) → Err w ≡ played bs → (Err w, before) ≡ outcome bs before
  unfolding played outcome tested told
  refused_outcome w e = refused_by before (is_long bs) (is_header bs) (fits (size_in bs)) (size_in bs) (Ok (length (text bs)), text bs ++ drop (length (text bs)) before) w e

  module _ (z : Size) (e : Ok z ≡ played bs) where
    played_all : Played z (size_in bs) (is_long bs) (is_header bs) (Ok (length (text bs)), text bs ++ drop (length (text bs)) before) (outcome bs before)
    unfolding played outcome tested told
    played_all = played_by before (is_long bs) (is_header bs) (fits (size_in bs)) (size_in bs) (Ok (length (text bs)), text bs ++ drop (length (text bs)) before) z e

    pub played_headed : header bs ≡ Some z
    unfolding header
    played_headed = let p = played_all in rw (p.is_headed, p.is_size) refl

    pub played_room : ((k : ℕ) → byte_at bs k < 256) → length (text bs) ≤ 262144
    played_room h = text_short bs h (let s = played_all.is_short in omega (arith, ltb-false limit (length bs)))

    pub text_outcome : (p q : Page) → p.len ≡ 0 → p.room.now ≡ before → Wrote (text bs) p q → (Ok q.len, q.room.now) ≡ outcome bs before
    text_outcome p q none lent w =
        let v = rw (none, lent) at w.writes in
        let f = front (text bs) before q.room.now q.len v in
        ap₂ (λ (n : ℕ) (l : List ℕ). (Ok n, l)) f.0 f.1 ∙ played_all.is_shown

-- ---- any two outcomes that the promise allows are equal

pub text_unique : (bs before : List ℕ) (r s : Shown) (after behind : List ℕ) → (r, after) ≡ outcome bs before → (s, behind) ≡ outcome bs before → (r ≡ s) × (after ≡ behind)
text_unique bs before r s after behind p q = let e = p ∙ sym q in (ap (λ x. x.0) e, ap (λ x. x.1) e)

-- ---- for a caller, who writes the front

record Within (p : Shown × List ℕ) : Type 0 where
  most : (n : ℕ) → p.0 ≡ Ok n → n ≤ length p.1

either : (b : Bool) {x y : Shown × List ℕ} → Within x → Within y → Within (if b then x else y)
either true h g = h
either false h g = g

front_within : (t rest : List ℕ) → Within (Ok (length t), t ++ rest)
front_within t rest = record { most = λ n e. let k : n ≡ length t = cc in omega (arith, length-append t rest) }

-- no text, and so no length of one
none_within : (before : List ℕ) (w : Unshown) → Within (Err w, before)
none_within before w = record { most = λ n e. absurd (cc) }

outcome_within : (bs before : List ℕ) → Within (outcome bs before)
unfolding outcome
outcome_within bs before =
    either (is_long bs) (none_within before Long)
    (either (is_header bs)
    (either (fits (size_in bs)) (front_within (text bs) (drop (length (text bs)) before)) (none_within before Unfit))
    (none_within before Header))

pub text_room : (bs before after : List ℕ) (n : ℕ) (r : Shown) → (r, after) ≡ outcome bs before → r ≡ Ok n → n ≤ length after
text_room bs before after n r e f = (subst Within (sym e) (outcome_within bs before)).most n f
