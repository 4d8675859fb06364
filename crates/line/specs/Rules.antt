-- The rules of a sound line, as the paper has them. They are asked of any numbers at all.
use Rattle.std.specs.Prelude.{◌≡◌, ◌≢◌, List, [], ◌∷◌, ℕ, zero, suc, ◌+◌, ◌-◌, ◌*◌, ◌≤◌, ◌<◌, get_or, if◌then◌else◌}
use Rattle.book.specs.Choice.{◌≡ᵇ◌}
use Rattle.book.specs.Total.{total}
use Rattle.book.specs.Sizes.{block_of, round_of, current_turn}
use Rattle.book.specs.Steps.{Desk, idle, looked, holding}
use Rattle.line.specs.Line.{Line, Block, Spot, numbers_of, desk_of, desk_at, unused, size_in, here}

-- does this desk hold: in turn t, as a count; spot s
abbrev pub held_in : ℕ → Desk Spot → ℕ
held_in t idle = 0
held_in t (looked s) = 0
held_in t (holding h) = if h.at.turn ≡ᵇ t then 1 else 0

abbrev pub Holds : Desk Spot → Spot → Type 0
Holds idle s = ⊥
Holds (looked x) s = ⊥
Holds (holding h) s = h.at ≡ s

module _ (l : Line) where
  -- t is its block's current turn
  abbrev pub Current : ℕ → Type 0
  Current t = current_turn (size_in l) l.head.p (block_of (size_in l) t) ≡ t

  pub record Rule1 : Type 0 where
    pub below : l.head.k ≤ l.head.p
    pub near : l.head.p - l.head.k ≤ l.head.nb - 1
    pub rounds : l.head.p < 65536 * l.head.nb

  pub record Rule2 : Type 0 where
    pub from : (here l l.head.k).claimed ≤ l.head.reading
    pub to : l.head.reading ≤ (here l l.head.k).written

  abbrev pub DeskRule : Desk Spot → Type 0
  DeskRule idle = Unit {0}
  DeskRule (looked s) = (s.turn ≤ l.head.p) × (s.place < l.head.ne) × (Current s.turn → s.place < (here l s.turn).written)
  DeskRule (holding h) = Current h.at.turn × (h.at.place < (here l h.at.turn).claimed)

  -- a stage above 3 is no stage
  pub record Rule3 : Type 0 where
    pub stages : (d : ℕ) → (get_or l.head.desks d (numbers_of idle)).stage ≤ 3
    pub idles : (d : ℕ) → l.head.t ≤ d → desk_at l.head d ≡ idle
    pub desks : (d : ℕ) → DeskRule (desk_at l.head d)
    pub apart : (d e : ℕ) (s : Spot) → d ≢ e → Holds (desk_at l.head d) s → Holds (desk_at l.head e) s → ⊥

  -- block i, with its record c and its current turn t; a block above P is unused
  module _ (i : ℕ) where
    abbrev c : Block
    c = get_or l.table i unused

    abbrev t : ℕ
    t = current_turn (size_in l) l.head.p i

    pub record Rule4 : Type 0 where
      pub round : i ≤ l.head.p → c.round ≡ round_of (size_in l) t
      pub zeros : l.head.p < i → c ≡ unused

    pub record Rule5 : Type 0 where
      pub fits : i ≤ l.head.p → c.written ≤ l.head.ne
      pub full : i ≤ l.head.p → t < l.head.p → c.written ≡ l.head.ne
      pub some : i ≤ l.head.p → t ≡ l.head.p → l.head.p ≢ 0 → 1 ≤ c.written

    pub record Rule6 : Type 0 where
      pub fits : i ≤ l.head.p → c.claimed ≤ c.written
      pub zeroth : i ≤ l.head.p → t ≡ 0 → c.claimed ≡ 0

    pub record Rule7 : Type 0 where
      pub holders : i ≤ l.head.p → c.claimed ≡ c.finished + total (λ x. held_in t (desk_of x)) l.head.desks

  -- all of them
  pub record Sound : Type 0 where
    pub one : Rule1
    pub two : Rule2
    pub three : Rule3
    pub four : (i : ℕ) → i < l.head.nb → Rule4 i
    pub five : (i : ℕ) → i < l.head.nb → Rule5 i
    pub six : (i : ℕ) → i < l.head.nb → Rule6 i
    pub seven : (i : ℕ) → i < l.head.nb → Rule7 i

-- ---- the rules by number, and the order in which the paper has them

-- a rule by its number, and where it is asked: place 64 is the head, the others are blocks
pub data Rule : Type 0 where
  rule1 rule2 rule3 rule4 rule5 rule6 rule7 : Rule

abbrev pub rule_number : Rule → ℕ
rule_number rule1 = 1
rule_number rule2 = 2
rule_number rule3 = 3
rule_number rule4 = 4
rule_number rule5 = 5
rule_number rule6 = 6
rule_number rule7 = 7

pub record RuleAt : Type 0 where
  pub place : ℕ
  pub rule : Rule

abbrev pub ask : ℕ → Rule → RuleAt
ask i r = record { place = i; rule = r }

-- the order in which they are asked: the head's rules, then the blocks', lowest block first
unfoldable pub of_blocks : ℕ → ℕ → List RuleAt
of_blocks i zero = []
of_blocks i (suc n) = ask i rule4 ∷ ask i rule5 ∷ ask i rule6 ∷ ask i rule7 ∷ of_blocks (suc i) n

unfoldable pub in_order : ℕ → List RuleAt
in_order nb = ask 64 rule1 ∷ ask 64 rule2 ∷ ask 64 rule3 ∷ of_blocks 0 nb

-- what a rule asks at a place
abbrev pub Obeys : Line → RuleAt → Type 0
Obeys l a = obeys a.place a.rule
  where
    obeys : ℕ → Rule → Type 0
    obeys i rule1 = Rule1 l
    obeys i rule2 = Rule2 l
    obeys i rule3 = Rule3 l
    obeys i rule4 = Rule4 l i
    obeys i rule5 = Rule5 l i
    obeys i rule6 = Rule6 l i
    obeys i rule7 = Rule7 l i
