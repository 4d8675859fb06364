-- What a person is told was wanted.
use Rattle.std.specs.Prelude.{List, ◌++◌, ℕ}
use Rattle.std.specs.Fmt.{decimal}
use Prim.Native.String.{String}
use Rattle.words.specs.Words.{letters}
use Rattle.text.specs.declared.wanted.Bad.{Bad}
use Rattle.text.specs.declared.wanted.Bad.TheVariants.{TooLong, Line as line}
use Rattle.text.specs.declared.wanted.Wanted.{Wanted}
use Rattle.text.specs.declared.wanted.Wanted.TheVariants.{Size, Put, Get, Order, Look, Claim, Fetch, Finish, Step, Bytes, Times, Name, Line, Room}

abbrev pub told : Wanted → String
told Size = "size NB NE T, each of 0 to 255"
told Put = "put A"
told Get = "get, and nothing behind it"
told Order = "order A B"
told Look = "look DESK BLOCK, with a desk of 0 to 15"
told Claim = "claim DESK, with a desk of 0 to 15"
told Fetch = "fetch DESK, with a desk of 0 to 15"
told Finish = "finish DESK, with a desk of 0 to 15"
told Step = "step CODE A B, with a code of 0 to 255"
told Bytes = "bytes X Y .., each of 0 to 255"
told Times = "times N and a step"
told Name = "= NAME"
told Line = "a step, size, bytes, times, = or #"
told Room = "at most 262144 bytes in all"

-- with the line that is refused; the whole text is told as line 0
abbrev pub told_of : Bad → List ℕ
told_of TooLong = letters "line 0: wanted a text of at most 262144 bytes"
told_of (line n w) = letters "line " ++ (decimal n ++ (letters ": wanted " ++ letters (told w)))
