-- When a step is refused: the tests in the order that the paper asks for, over what they read. Line and book share them.
use Rattle.std.specs.Prelude.{Bool, false, not, ◌&&◌, List, [], ◌∷◌, ℕ, ◌+◌, ◌-◌, get_or, if◌then◌else◌, Result, Ok, Err}
use Rattle.words.specs.declared.Refusal.{Refusal}
use Rattle.words.specs.declared.Refusal.TheVariants.{Nodesk, Noblock, Stage, Owned, Nothing, Notlabel, Worn, Full, Busy}
use Rattle.book.specs.Choice.{◌<ᵇ◌, ◌≤ᵇ◌}
use Rattle.book.specs.Sizes.{Size, is_label, round_of, is_used, is_owned}
use Rattle.book.specs.Steps.{DeskStep, look, claim, fetch, finish, Desk, idle, looked, holding, is_fetched}

-- what the tests before a step say: it is taken, or refused
abbrev pub Verdict : Type 0
Verdict = Result Unit Refusal

abbrev pub takes : Verdict
takes = Ok tt

abbrev pub refuses : Refusal → Verdict
refuses w = Err w

abbrev pub judge : {A : Type 0} → Verdict → A → (Refusal → A) → A
judge (Ok u) x f = x
judge (Err w) x f = f w

-- Which stage takes which desk step: a row for each stage, a column for each step.
abbrev pub grid : List (List Verdict)
grid =
    -- look, claim, fetch, finish; by a desk that is idle, looked, claimed, fetched
    (takes ∷ refuses Stage ∷ refuses Stage ∷ refuses Stage ∷ [])
    ∷ (takes ∷ takes ∷ refuses Stage ∷ refuses Stage ∷ [])
    ∷ (refuses Stage ∷ refuses Stage ∷ takes ∷ refuses Stage ∷ [])
    ∷ (refuses Stage ∷ refuses Stage ∷ refuses Stage ∷ takes ∷ [])
    ∷ []

abbrev pub stage : {A : Type 0} → Desk A → ℕ
stage idle = 0
stage (looked x) = 1
stage (holding h) = if is_fetched h then 3 else 2

abbrev pub column : DeskStep → ℕ
column (look i) = 0
column claim = 1
column fetch = 2
column finish = 3

abbrev pub at_stage : ℕ → ℕ → Verdict
at_stage n m = get_or (get_or grid n []) m (refuses Stage)

module _ (z : Size) where
  abbrev pub no_block : DeskStep → Bool
  no_block (look i) = z.nb ≤ᵇ i
  no_block claim = false
  no_block fetch = false
  no_block finish = false

  -- may desk d, which is x, make step s
  unfoldable pub admitted : {A : Type 0} → ℕ → DeskStep → Desk A → Verdict
  admitted d s x =
      if z.t ≤ᵇ d then refuses Nodesk
      else if no_block s then refuses Noblock
      else at_stage (stage x) (column s)

  -- may a desk see something at block i; `waits` says that a row of its current turn waits
  unfoldable pub lookable : ℕ → ℕ → ℕ → Bool → Verdict
  lookable p k i waits =
      if is_owned z p k i then refuses Owned
      else if is_used z p i && waits then takes
      else refuses Nothing

  -- may turn P + 1 be started; `busy` says that a desk has claimed or fetched in turn Q and not finished
  unfoldable pub startable : ℕ → Bool → ℕ → Verdict
  startable k busy next =
      if 65536 ≤ᵇ round_of z next then refuses Worn
      else if next <ᵇ z.nb then takes
      else if k ≤ᵇ next - z.nb then refuses Full
      else if busy then refuses Busy
      else takes

  -- may label a be put, `written` labels standing in turn P
  unfoldable pub placeable : ℕ → ℕ → ℕ → Bool → ℕ → Verdict
  placeable p written k busy a =
      if not (is_label a) then refuses Notlabel
      else if written <ᵇ z.ne then takes
      else startable k busy (p + 1)
