-- When each refusal is given on a sound line: a sentence for each, in the order of the paper's table. A sentence also
-- says that the tests before it passed.
use Rattle.std.specs.Prelude.{◌≡◌, ◌⊎◌, ℕ, zero, suc, ◌+◌, ◌-◌, ◌≤◌, ◌<◌}
use Rattle.words.specs.declared.Refusal.{Refusal}
use Rattle.words.specs.declared.Refusal.TheVariants.{Unfit, Damaged, Badstep, Nodesk, Noblock, Stage, Owned, Nothing, Lost, Notlabel, Range, Worn, Full, Busy, Empty}
use Rattle.book.specs.Sizes.{Size, highest_label, round_of, current_turn}
use Rattle.book.specs.declared.DeskStep.{DeskStep}
use Rattle.book.specs.declared.DeskStep.TheVariants.{Look as look, Claim as claim, Fetch as fetch, Finish as finish}
use Rattle.book.specs.declared.Deed.{Deed}
use Rattle.book.specs.declared.Deed.TheVariants.{Put as put, Get as get, Order as order, Desk as desk, Unlisted as unlisted}
use Rattle.book.specs.Steps.{looked}
use Rattle.book.specs.Verdicts.{takes, refuses, stage, column, at_stage}
use Rattle.line.specs.Line.{Line, Spot, desk_at, with_label, may_put, size_in, here}
use Rattle.line.specs.Rules.{Current}

module _ (l : Line) where
  -- a look names a block of the line
  abbrev pub OnLine : DeskStep → Type 0
  OnLine (look i) = i < l.head.nb
  OnLine claim = Unit {0}
  OnLine fetch = Unit {0}
  OnLine finish = Unit {0}

  -- desk d is there, and its stage takes step s
  pub record Takes (d : ℕ) (s : DeskStep) : Type 0 where
    pub there : d < l.head.t
    pub on : OnLine s
    pub grid : at_stage (stage (desk_at l.head d)) (column s) ≡ takes

  -- a put of label a that has to start turn P + 1
  pub record Starts (a : ℕ) : Type 0 where
    pub label : a ≤ highest_label
    pub full : l.head.ne ≤ (here l l.head.p).written

  abbrev next : ℕ
  next = l.head.p + 1

  abbrev pub When : Refusal → Deed → Type 0
  When Unfit e = ⊥
  When Damaged e = ⊥
  When Badstep e = e ≡ unlisted
  When Nodesk e = (d : ℕ) × (s : DeskStep) × (e ≡ desk d s) × (l.head.t ≤ d)
  When Noblock e = (d : ℕ) × (i : ℕ) × (e ≡ desk d (look i)) × (d < l.head.t) × (l.head.nb ≤ i)
  When Stage e = (d : ℕ) × (s : DeskStep) × (e ≡ desk d s) × (d < l.head.t) × OnLine s × (at_stage (stage (desk_at l.head d)) (column s) ≡ refuses Stage)
  When Owned e = (d : ℕ) × (i : ℕ) × (e ≡ desk d (look i)) × Takes d (look i) × (i ≤ l.head.p) × (current_turn (size_in l) l.head.p i ≤ l.head.k)
  When Nothing e =
      (d : ℕ) × (i : ℕ) × (e ≡ desk d (look i)) × Takes d (look i)
      × ((l.head.p < i) ⊎ ((i ≤ l.head.p) × (l.head.k < current_turn (size_in l) l.head.p i) × ((here l (current_turn (size_in l) l.head.p i)).claimed ≡ (here l (current_turn (size_in l) l.head.p i)).written)))
  When Lost e =
      (d : ℕ) × (s : Spot) × (e ≡ desk d claim) × (d < l.head.t) × (desk_at l.head d ≡ looked s)
      × (Current l s.turn × (l.head.k < s.turn) × ((here l s.turn).claimed ≡ s.place) → ⊥)
  When Notlabel e = (a : ℕ) × (e ≡ put a) × (highest_label < a)
  When Range e = (a : ℕ) × (b : ℕ) × (e ≡ order a b) × ((b < a) ⊎ (highest_label < b))
  When Worn e = (a : ℕ) × (e ≡ put a) × Starts a × (65536 ≤ round_of (size_in l) next)
  When Full e = (a : ℕ) × (e ≡ put a) × Starts a × (round_of (size_in l) next < 65536) × (l.head.nb ≤ next) × (l.head.k ≤ next - l.head.nb)
  When Busy e =
      (a : ℕ) × (e ≡ put a) × Starts a × (round_of (size_in l) next < 65536) × (l.head.nb ≤ next) × (next - l.head.nb < l.head.k)
      × ((here l (next - l.head.nb)).finished < (here l (next - l.head.nb)).claimed)
  When Empty e =
      (e ≡ get) × (l.head.reading ≡ (here l l.head.k).written)
      × ((t : ℕ) → l.head.k < t → t ≤ l.head.p → (here l t).claimed ≡ (here l t).written)

-- the line after n of an order's labels from a on are placed
unfoldable pub after_puts : Size → ℕ → Line → ℕ → Line
after_puts z zero l a = l
after_puts z (suc n) l a = after_puts z n (with_label z l a) (suc a)

-- the first n labels of the order from a on are placed
abbrev pub Places : Size → ℕ → Line → ℕ → Type 0
Places z n l a = (m : ℕ) → m < n → may_put z (after_puts z m l a) (a + m) ≡ takes
