-- What the functions behind `play` promise and ask for: the room for a text, the entries that are lent, and what the
-- line is played with.
use Rattle.std.specs.Prelude.{◌≡◌, List, ℕ, ◌*◌, ◌≤◌, min, length, replicate}
use Rattle.line.specs.Line.{Line, size_of}
use Rattle.line.specs.Agrees.{Lawful}
use Rattle.schedule.specs.Bytes.{limit, header_bytes, most_steps}
use Rattle.printing.specs.Writes.{line_most}
use Rattle.printing.specs.declared.Page.{Page}
use Rattle.printing.specs.Page.{HasRoom}

-- room for every text: a line for each step of the longest schedule
abbrev pub text_bytes : ℕ
text_bytes = most_steps * line_most

-- the store
abbrev pub store_entries : ℕ
store_entries = 4096

-- of the store's entries NB x NE are lent, where there are so many
abbrev pub entries_lent : ℕ → ℕ → ℕ
entries_lent nb ne = min (nb * ne) store_entries

-- a schedule with its header, not too long, room for its text, and the store, all zero
pub record Ready (bs : List ℕ) (page : Page) (store : List ℕ) : Type 0 where
  pub header : header_bytes ≤ length bs
  pub few : length bs ≤ limit
  pub room : HasRoom text_bytes page
  pub zeros : store ≡ replicate store_entries 0

-- the same with a sound line, lent with its n records
pub record Playable (bs : List ℕ) (page : Page) (l : Line) (n : ℕ) : Type 0 where
  pub header : header_bytes ≤ length bs
  pub few : length bs ≤ limit
  pub room : HasRoom text_bytes page
  pub sound : Lawful (size_of l.head) l
  pub blocks : n ≡ l.head.nb
