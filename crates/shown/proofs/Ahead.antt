-- What is still to be written of a text: there is room for it, and who writes it has written the text.
use Rattle.std.proofs.Common.{List, [], ◌++◌, ℕ, length, arith, length-append}
use Rattle.printing.specs.declared.Page.{Page}
use Rattle.printing.specs.Page.{HasRoom, Wrote}
use Rattle.printing.proofs.Stores.{wrote_none, wrote_more, wrote_left}

pub record Ahead (rest all : List ℕ) (start page : Page) : Type 0 where
  pub room : HasRoom (length rest) page
  pub whole : (end : Page) → Wrote rest page end → Wrote all start end

pub ahead_start : (all : List ℕ) (page : Page) → HasRoom (length all) page → Ahead all all page page
ahead_start all page h = record { room = h; whole = λ end w. w }

pub ahead_next : (xs rest all : List ℕ) (start page next : Page) → Ahead (xs ++ rest) all start page → Wrote xs page next → Ahead rest all start next
ahead_next xs rest all start page next a w = record {
  room = let h = a.room in wrote_left (length xs) (length rest) xs page next (omega arith) (omega (arith, length-append xs rest)) w;
  whole = λ end v. a.whole end (wrote_more xs rest page next end w v);
}

pub ahead_end : (all : List ℕ) (start page : Page) → Ahead [] all start page → Wrote all start page
ahead_end all start page a = let h = a.room in a.whole page (wrote_none page (omega arith))
