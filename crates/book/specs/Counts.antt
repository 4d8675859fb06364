-- What is counted: from the answers of a run, and in the book after it.
use Rattle.std.specs.Prelude.{List, [], ◌∷◌, ◌++◌, ℕ, ◌+◌, ◌-◌, ◌*◌, ◌/◌, if◌then◌else◌}
use Rattle.words.specs.declared.Answer.{Answer}
use Rattle.words.specs.declared.Answer.TheVariants.{Put, Got, Took, Whole, Seen, Claimed, Done, Refused}
use Rattle.words.specs.Words.{said}
use Rattle.book.specs.Choice.{◌≡ᵇ◌}
use Rattle.book.specs.Total.{total}
use Rattle.book.specs.Sizes.{Size}
use Rattle.book.specs.Steps.{Desk, idle, looked, holding, is_fetched}
use Rattle.book.specs.Book.{Row, Book, row_at}

-- what one answer adds: labels placed, got and fetched, claims won and lost; and the labels that it hands over
pub record Count : Type 0 where
  pub placed : ℕ
  pub got : ℕ
  pub fetched : ℕ
  pub won : ℕ
  pub lost : ℕ
  pub labels : List ℕ

abbrev row : ℕ → ℕ → ℕ → ℕ → ℕ → List ℕ → Count
row p g f w l out = record { placed = p; got = g; fetched = f; won = w; lost = l; labels = out }

-- A refusal's value is an order's count, or 0; LOST is the refusal of number 9.
abbrev pub count : Answer → Count
count (Put label) = row 1 0 0 0 0 []
count (Got label) = row 0 1 0 0 0 (label ∷ [])
count (Took label) = row 0 0 1 0 0 (label ∷ [])
count (Whole n) = row n 0 0 0 0 []
count (Seen place) = row 0 0 0 0 0 []
count (Claimed place) = row 0 0 0 1 0 []
count Done = row 0 0 0 0 0 []
count (Refused w n) = row n 0 0 0 (if (said (Refused w n)).number ≡ᵇ 9 then 1 else 0) []

abbrev pub placed : List Answer → ℕ
placed l = total (λ a. (count a).placed) l

abbrev pub got : List Answer → ℕ
got l = total (λ a. (count a).got) l

abbrev pub took : List Answer → ℕ
took l = total (λ a. (count a).fetched) l

abbrev pub won : List Answer → ℕ
won l = total (λ a. (count a).won) l

abbrev pub lost : List Answer → ℕ
lost l = total (λ a. (count a).lost) l

-- the rows that a desk has claimed and not fetched, row r weighing w r
abbrev pub unfetched_by : (ℕ → ℕ) → Desk ℕ → ℕ
unfetched_by w idle = 0
unfetched_by w (looked r) = 0
unfetched_by w (holding h) = if is_fetched h then 0 else w h.at

-- how many rows desks have claimed and not fetched; and how often row n is among them
abbrev pub unfetched : Book → ℕ
unfetched b = total (unfetched_by (λ r. 1)) b.desks

abbrev pub is_row : ℕ → ℕ → ℕ
is_row n r = if r ≡ᵇ n then 1 else 0

abbrev pub times_held : ℕ → Book → ℕ
times_held n b = total (unfetched_by (is_row n)) b.desks

abbrev pub waits_by : Row → ℕ
waits_by r = if r.gone then 0 else 1

abbrev pub waiting : Book → ℕ
waiting b = total waits_by b.rows

-- the labels that the answers hand over, in order
unfoldable pub handed : List Answer → List ℕ
handed [] = []
handed (a ∷ l) = (count a).labels ++ handed l

-- how often row n stands in a list of rows, or label n in a list of labels
abbrev pub times : ℕ → List ℕ → ℕ
times n l = total (is_row n) l

-- how often label a is among those that desks have claimed and not fetched, and among those that wait
abbrev pub times_unfetched : ℕ → Book → ℕ
times_unfetched a b = total (unfetched_by (λ r. is_row a (row_at b.rows r).label)) b.desks

abbrev pub times_waiting : ℕ → Book → ℕ
times_waiting a b = total (λ r. if r.gone then 0 else is_row a r.label) b.rows

-- demand 3: so many claims may be lost; the last part is 0 when none is placed
unfoldable pub bound : Size → ℕ → ℕ → ℕ
bound z won placed = (z.t - 1) * won + z.t * ((placed - 1) / z.ne)
