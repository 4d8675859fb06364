-- From the engine to the portal. The engine takes the table that was loaded, the portal lends the records themselves.
-- Up to 64 records are the engine's line as they are, and the line that it leaves is stored over them; more fit no
-- line, so both are UNFIT and leave what was lent. So what the engine promises of its outcome the portal promises of
-- its own.
use Rattle.std.proofs.Common.{◌≡◌, ℕ, suc, ◌≤◌, ◌<◌, leb, List, [], ◌∷◌, ◌++◌, length, set, drop, refl, sym, ap, ◌∙◌, arith, leb→le, length-set, length-append, take_at, le-leb}
use Rattle.std.proofs.Math.Dec.{nleb→lt}
use Rattle.std.proofs.lemmas.List.{length-replicate}
use Rattle.std.specs.Fn.{Once}
use Rattle.words.specs.declared.Answer.{Answer}
use Rattle.words.specs.declared.Answer.TheVariants.{Refused}
use Rattle.words.specs.declared.Refusal.TheVariants.{Unfit}
use Rattle.book.specs.Sizes.{Size}
use Rattle.book.specs.Steps.{Step}
use Rattle.book.proofs.Choice.{cases}
use Rattle.line.specs.declared.Block.{Block}
use Rattle.line.specs.declared.Head.{Head}
use Rattle.line.specs.Line.{Line, Outcome, refuse, unused}
use Rattle.line.specs.Check.{Checked, unfit, check}
use Rattle.line.specs.Calls.{Opening, Opened, open·unfit, opens, step, orders}
use Rattle.line.specs.Numbers.{opening_said, check_said, survey_said}
use Rattle.line.specs.Survey.{Surveyed, survey·unfit, survey}
use Rattle.table.specs.Laid.{laid, loaded, stored}
use Rattle.table.proofs.Laws.{stored_loaded, stored_take}
use Rattle.byvalue.specs.declared.Outcome.{Outcome as OutcomeByValue}
use Rattle.byvalue.specs.Lent.{lent_table, line_of}
use Rattle.rules.specs.Promises as C
use Rattle.byvalue.specs.GivenBack.{put_back, Given, given_back, back_of}
use Rattle.engine.specs.Promises as E
use Rattle.byvalue.proofs.Lent.{lent_length}
use Rattle.rules.proofs.Entries.{lent_checked}
use Rattle.byvalue.proofs.GivenBack.{put_lent}
use Rattle.portal.specs.Promises.{lent, told, Opens, Steps, Orders, Checks, Surveys}
use Rattle.portal.specs.Lending.{Lent, Back, Lends}
use Rattle.portal.proofs.Lengths.{step_long, orders_long, opens_long, check_many, survey_many, step_many, orders_many, opens_many}
use Rattle.portal.proofs.Unread.{lent_surveyed}

-- ---- the loaded table

laid_long : (xs : List Block) (i : ℕ) (t : List Block) → length (laid xs i t) ≡ length t
laid_long [] i t = refl
laid_long (x ∷ xs) i t = laid_long xs (suc i) (set t i x) ∙ length-set t i x

loaded_long : (ys : List Block) → length (loaded ys) ≡ 64
loaded_long ys = laid_long ys 0 _ ∙ length-replicate 64 unused

module _ (h : Head) (ys : List Block) (es : List ℕ) where
  -- the line that the engine is given
  abbrev inner : Line
  inner = line_of h (loaded ys) (length ys) es

  inner_long : length inner.table ≡ length ys
  inner_long = lent_length (loaded ys) (length ys) (loaded_long ys)

  module _ (few : length ys ≤ 64) where
    short : length ys ≤ length (loaded ys)
    short = omega (arith, few, loaded_long ys)

    -- up to 64 records it is the line that was lent
    same_line : inner ≡ lent h ys es
    unfolding lent_table
    same_line = rw (le-leb (length ys) 64 few, ← (stored_take ys (loaded ys) short), stored_loaded ys) refl

    -- and as many records, put back, are stored over those that were lent
    stored_back : (u : List Block) → length u ≡ length ys → stored ys (put_back (loaded ys) (length ys) u) ≡ u
    unfolding put_back
    stored_back u e =
        let rest = drop (length ys) (loaded ys) in
        rw (le-leb (length ys) 64 few) (stored_take ys (u ++ rest) (omega (arith, e, length-append u rest)) ∙ take_at u rest (length ys) e)

  -- what any call answers, if it refuses more than 64 records
  module _ {A : Type 0} (answer : Line → A) (refusal : A) (refused : (l : Line) → 64 < length l.table → answer l ≡ refusal) where
    same_answer : answer inner ≡ answer (lent h ys es)
    same_answer =
        cases (leb (length ys) 64) (λ t. ap answer (same_line (leb→le (length ys) 64 t)))
        (λ t. let many = nleb→lt (length ys) 64 t in refused inner (omega (arith, many, inner_long)) ∙ sym (refused (lent h ys es) many))

    -- and what it leaves, if it then leaves the line, and never changes the number of records
    module _ (after : Line → Line) (long : (l : Line) → length (after l).table ≡ length l.table) (left : (l : Line) → 64 < length l.table → after l ≡ l) where
      abbrev put : Line → Line
      put l = lent l.head (stored ys (put_back (loaded ys) (length ys) l.table)) l.entries

      same_after : put (after inner) ≡ after (lent h ys es)
      same_after =
          cases (leb (length ys) 64)
          (λ t. let few = leb→le (length ys) 64 t in
          ap (λ (u : List Block). lent (after inner).head u (after inner).entries) (stored_back few (after inner).table (long inner ∙ inner_long)) ∙ ap after (same_line few))
          (λ t. let many = nleb→lt (length ys) 64 t in
          ap put (left inner (omega (arith, many, inner_long)))
          ∙ ap (λ (u : List Block). lent h (stored ys u) es) (put_lent (loaded ys) (length ys))
          ∙ ap (λ (u : List Block). lent h u es) (stored_loaded ys)
          ∙ sym (left (lent h ys es) many))

      outcome : (r : Given A) → r ≡ record { answer = answer inner; head = (after inner).head; table = put_back (loaded ys) (length ys) (after inner).table; entries = (after inner).entries }
          → (lent r.head (stored ys r.table) r.entries ≡ after (lent h ys es)) × (r.answer ≡ answer (lent h ys es))
      outcome r e = (ap (λ (g : Given A). lent g.head (stored ys g.table) g.entries) e ∙ same_after, ap (λ (g : Given A). g.answer) e ∙ same_answer)

-- ---- the five calls

module _ (h : Head) (ys : List Block) (es : List ℕ) where
  -- a step and an order alike
  went : (call : Line → Outcome) → ((l : Line) → length (call l).line.table ≡ length l.table) → ((l : Line) → 64 < length l.table → call l ≡ refuse l Unfit)
      → (r : OutcomeByValue Answer) (fs : List ℕ) → given_back r fs ≡ back_of (loaded ys) (length ys) (call (inner h ys es))
      → record { line = lent r.head (stored ys r.table) fs; answer = r.answer } ≡ call (lent h ys es)
  went call long many r fs e =
      let o = outcome h ys es (λ l. (call l).answer) (Refused Unfit 0) (λ l m. ap (λ (o : Outcome). o.answer) (many l m))
      (λ l. (call l).line) long (λ l m. ap (λ (o : Outcome). o.line) (many l m)) (given_back r fs) e in
      λ j. record { line = o.0 j; answer = o.1 j }

  pub stepped : (fs : List ℕ) (s : Step) (r : OutcomeByValue Answer) → E.GivesStep h (loaded ys) (length ys) es s r fs
      → Steps (lent h ys es) s r.answer (lent r.head (stored ys r.table) fs)
  stepped fs s r e = ap told (went (λ l. step l s) (λ l. step_long l s) (λ l m. step_many l m s) r fs e)

  pub ordered : (fs : List ℕ) (first last : ℕ) (r : OutcomeByValue Answer) → E.GivesOrder h (loaded ys) (length ys) es first last r fs
      → Orders (lent h ys es) first last r.answer (lent r.head (stored ys r.table) fs)
  ordered fs first last r e = ap told (went (λ l. orders l first last) (λ l. orders_long l first last) (λ l m. orders_many l m first last) r fs e)

  pub begun : (fs : List ℕ) (z : Size) (r : OutcomeByValue Opening) → E.GivesOpening h (loaded ys) (length ys) es z r fs
      → Opens (lent h ys es) z r.answer (lent r.head (stored ys r.table) fs)
  begun fs z r e =
      let o = outcome h ys es (λ l. (opens l z).answer) open·unfit (λ l m. ap (λ (o : Opened). o.answer) (opens_many l m z))
      (λ l. (opens l z).line) (λ l. opens_long l z) (λ l m. ap (λ (o : Opened). o.line) (opens_many l m z)) (given_back r fs) e in
      λ j. record { line = o.0 j; said = opening_said (o.1 j) }

  pub checked : (r : Checked) → C.GivesCheck h (loaded ys) (length ys) (length es) r → Checks (lent h ys es) r
  checked r e = ap check_said (lent_checked h (loaded ys) (length ys) es r e ∙ same_answer h ys es check unfit check_many)

  pub surveyed : (r : Surveyed) → E.GivesSurvey h (loaded ys) (length ys) (length es) r → Surveys (lent h ys es) r
  surveyed r e = ap survey_said (lent_surveyed h (loaded ys) (length ys) es r e ∙ same_answer h ys es survey survey·unfit survey_many)

-- ---- from what a call by value gave to what is told

pub told_of : {F A : Type 0} {call : Once F Lent (Back A)} {f : F} {before after : Line} {answer : A} (P : A → Line → Type 0) → (l : Lends call f before answer after)
    → P l.outcome.answer (lent l.outcome.head (stored before.table l.outcome.table) l.left.now) → P answer after
told_of P l p = rw (l.told, l.leaves) p
