-- The numbers of a line that are still to be written: the next one, and those behind it; or the newline.
use Rattle.std.proofs.Common.{subst, List, [], ◌∷◌, ◌++◌, ℕ, ◌+◌, ◌≤◌, ◌<◌, length, get_or, drop, arith, length-append}
use Rattle.std.proofs.lemmas.List.{drop_more}
use Rattle.std.proofs.Math.ListN.{drop_of_length-le}
use Rattle.printing.specs.Text.{space, newline, decimal}
use Rattle.printing.specs.declared.Page.{Page}
use Rattle.printing.specs.Page.{HasRoom, Wrote}
use Rattle.shown.specs.Shown.{line_of, numbers_text}
use Rattle.shown.proofs.Ahead.{Ahead, ahead_start, ahead_next}

pub word_room : (word ns : List ℕ) (page : Page) → HasRoom (length (line_of word ns)) page → HasRoom (length word) page
word_room word ns page h = omega (arith, length-append word (numbers_text ns))

pub word_written : (word ns : List ℕ) (start page : Page) → HasRoom (length (line_of word ns)) start → Wrote word start page → Ahead (numbers_text ns) (line_of word ns) start page
word_written word ns start page h w = ahead_next word (numbers_text ns) (line_of word ns) start start page (ahead_start (line_of word ns) start h) w

module _ (ns all : List ℕ) (start page : Page) (i : ℕ) (a : Ahead (numbers_text (drop i ns)) all start page) where
  one_ahead : i < length ns → Ahead ((space ∷ decimal (get_or ns i 0)) ++ numbers_text (drop (i + 1) ns)) all start page
  unfolding numbers_text
  one_ahead h = subst (λ (l : List ℕ). Ahead (numbers_text l) all start page) (drop_more ns i 0 h) a

  pub number_room : i < length ns → HasRoom (length (space ∷ decimal (get_or ns i 0))) page
  number_room h = let b = (one_ahead h).room in omega (arith, length-append (space ∷ decimal (get_or ns i 0)) (numbers_text (drop (i + 1) ns)))

  pub number_written : i < length ns → (next : Page) → Wrote (space ∷ decimal (get_or ns i 0)) page next → Ahead (numbers_text (drop (i + 1) ns)) all start next
  number_written h next w = ahead_next (space ∷ decimal (get_or ns i 0)) (numbers_text (drop (i + 1) ns)) all start page next (one_ahead h) w

  end_ahead : length ns ≤ i → Ahead (newline ∷ []) all start page
  unfolding numbers_text
  end_ahead h = subst (λ (l : List ℕ). Ahead (numbers_text l) all start page) (drop_of_length-le ns h) a

  pub newline_room : length ns ≤ i → HasRoom 1 page
  newline_room h = (end_ahead h).room

  pub line_written : length ns ≤ i → (end : Page) → Wrote (newline ∷ []) page end → Wrote all start end
  line_written h = (end_ahead h).whole
