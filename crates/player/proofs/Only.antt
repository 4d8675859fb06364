-- The only line of a schedule that is refused whole, written as the word's line.
use Prim.Native.String.{String}
use Rattle.std.proofs.Common.{append-nil}
use Rattle.words.specs.Words.{letters}
use Rattle.printing.specs.Text.{line_text}
use Rattle.printing.specs.declared.Page.{Page}
use Rattle.printing.specs.Page.{Wrote}
use Rattle.player.specs.Spoken.{only}
use Rattle.player.specs.Printed.{printed}

pub wrote_only : (w : String) (p q : Page) → Wrote (line_text 0 (letters w) 0) p q → Wrote (printed (only w)) p q
unfolding printed
wrote_only w p q h = rw (append-nil (line_text 0 (letters w) 0)) h
