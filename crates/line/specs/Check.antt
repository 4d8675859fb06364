-- The check: do the lengths fit, and which rule is the first broken, by the tests of specs/Tests.antt in the paper's order.
-- Proved to be what specs/Rules.antt says.
use Rattle.std.specs.Prelude.{Bool, List, [], ◌∷◌, ℕ, length, get_or, if◌then◌else◌, Result, Ok, Err}
use Rattle.words.specs.declared.Refusal.{Refusal}
use Rattle.words.specs.declared.Refusal.TheVariants.{Unfit, Damaged}
use Rattle.book.specs.Total.{total}
use Rattle.book.specs.Sizes.{Size, is_used, current_turn}
use Rattle.line.specs.Line.{Line, Block, desk_of, unused, size_in, here}
use Rattle.line.specs.Rules.{held_in, Rule, rule1, rule2, rule3, rule4, rule5, rule6, rule7, rule_number, RuleAt, in_order}
use Rattle.line.specs.Tests.{fitting, obeys1, obeys2, obeys3, obeys4, obeys5, obeys6, obeys7}
pub use Rattle.line.specs.declared.Fault.{Fault}
pub use Rattle.line.specs.declared.Fault.TheVariants.{Unfit as Misfit, Broken}

-- what the check answers: sound, UNFIT, or the place and the rule
abbrev pub Checked : Type 0
Checked = Result Unit Fault

abbrev pub sound : Checked
sound = Ok tt

abbrev pub unfit : Checked
unfit = Err Misfit

abbrev pub broken : ℕ → ℕ → Checked
broken place rule = Err (Broken place rule)

-- with what a step, an order and the survey are refused then
abbrev pub refusal_of : Fault → Refusal
refusal_of Misfit = Unfit
refusal_of (Broken place rule) = Damaged

-- the numbers within their limits, and the lent lengths NB and NB x NE
unfoldable pub fit : Size → List Block → List ℕ → Bool
fit z tb es = fitting z (length tb) (length es)

module _ (l : Line) where
  -- of block i: its record, its current turn, and how many desks hold there
  abbrev record_at : ℕ → Block
  record_at i = get_or l.table i unused

  abbrev turn_at : ℕ → ℕ
  turn_at i = current_turn (size_in l) l.head.p i

  abbrev holders_at : ℕ → ℕ
  holders_at i = total (λ x. held_in (turn_at i) (desk_of x)) l.head.desks

  -- does the rule hold at place i
  unfoldable pub holds : ℕ → Rule → Bool
  holds i rule1 = obeys1 l.head.nb l.head.p l.head.k
  holds i rule2 = obeys2 (here l l.head.k) l.head.reading
  holds i rule3 = obeys3 (size_in l) l.head.p (here l) l.head.desks
  holds i rule4 = obeys4 (is_used (size_in l) l.head.p i) (record_at i) l.head.nb (turn_at i)
  holds i rule5 = obeys5 (is_used (size_in l) l.head.p i) (record_at i) l.head.ne l.head.p (turn_at i)
  holds i rule6 = obeys6 (is_used (size_in l) l.head.p i) (record_at i) (turn_at i)
  holds i rule7 = obeys7 (is_used (size_in l) l.head.p i) (record_at i) (holders_at i)

  -- the first rule broken
  unfoldable pub first_broken : List RuleAt → Checked
  first_broken [] = sound
  first_broken (a ∷ l) = let rest = first_broken l in if holds a.place a.rule then rest else broken a.place (rule_number a.rule)

  unfoldable pub check : Checked
  check = if fit (size_in l) l.table l.entries then first_broken (in_order l.head.nb) else unfit
