-- Texts, and what they mean. proofs/Cases.antt computes them.
use Rattle.std.specs.Prelude.{◌≡◌, List, [], ◌∷◌, map}
use Prim.Native.String.{String}
use Rattle.words.specs.Words.{letters}
use Rattle.text.specs.declared.wanted.Wanted.TheVariants.{Size, Put, Get, Look, Claim, Step, Bytes, Times, Name, Line}
use Rattle.text.specs.Meaning.{Meaning, bytes, refused, meaning}

pub record Case : Type 0 where
  pub text : String
  pub means : Meaning

abbrev pub case : String → Meaning → Case
case t m = record { text = t; means = m }

abbrev pub Means : List Case → Type 0
Means cs = map (λ c. meaning (letters c.text)) cs ≡ map (λ c. c.means) cs

-- each form, with blanks, a comment, and both ends of a line
unfoldable pub TakenCases : Type 0
TakenCases =
    Means
    (case "" (bytes [])
    ∷ case "size 2 1 255\r\n" (bytes (76 ∷ 66 ∷ 81 ∷ 0 ∷ 1 ∷ 2 ∷ 1 ∷ 255 ∷ []))
    ∷ case "# put x\n\n\tput  258 \r\n #" (bytes (0 ∷ 0 ∷ 0 ∷ 1 ∷ 2 ∷ 0 ∷ 0 ∷ 0 ∷ 0 ∷ []))
    ∷ case "get" (bytes (1 ∷ 0 ∷ 0 ∷ 0 ∷ 0 ∷ 0 ∷ 0 ∷ 0 ∷ 0 ∷ []))
    ∷ case "order 1 5" (bytes (2 ∷ 0 ∷ 0 ∷ 0 ∷ 1 ∷ 0 ∷ 0 ∷ 0 ∷ 5 ∷ []))
    ∷ case "claim 15\nfetch 0\n" (bytes (31 ∷ 0 ∷ 0 ∷ 0 ∷ 0 ∷ 0 ∷ 0 ∷ 0 ∷ 0 ∷ 32 ∷ 0 ∷ 0 ∷ 0 ∷ 0 ∷ 0 ∷ 0 ∷ 0 ∷ 0 ∷ []))
    ∷ case "finish 1\nlook 2 3" (bytes (49 ∷ 0 ∷ 0 ∷ 0 ∷ 0 ∷ 0 ∷ 0 ∷ 0 ∷ 0 ∷ 66 ∷ 0 ∷ 0 ∷ 0 ∷ 3 ∷ 0 ∷ 0 ∷ 0 ∷ 0 ∷ []))
    ∷ case "step 1 2 4294967295" (bytes (1 ∷ 0 ∷ 0 ∷ 0 ∷ 2 ∷ 255 ∷ 255 ∷ 255 ∷ 255 ∷ []))
    ∷ case "times 2 put 7" (bytes (0 ∷ 0 ∷ 0 ∷ 0 ∷ 7 ∷ 0 ∷ 0 ∷ 0 ∷ 0 ∷ 0 ∷ 0 ∷ 0 ∷ 0 ∷ 7 ∷ 0 ∷ 0 ∷ 0 ∷ 0 ∷ []))
    ∷ case "times 0 get" (bytes [])
    ∷ case "bytes 0 255 7" (bytes (0 ∷ 255 ∷ 7 ∷ []))
    ∷ case "= a b\nbytes 9\n# no\nbytes 8\n= c" (bytes (97 ∷ 32 ∷ 98 ∷ 10 ∷ 0 ∷ 0 ∷ 0 ∷ 2 ∷ 9 ∷ 8 ∷ 99 ∷ 10 ∷ 0 ∷ 0 ∷ 0 ∷ 0 ∷ []))
    ∷ [])

unfoldable pub RefusedCases : Type 0
RefusedCases =
    Means
    (case "put" (refused 1 Put)
    ∷ case "put abc" (refused 1 Put)
    ∷ case "put 4294967296" (refused 1 Put)
    ∷ case "put 1 2" (refused 1 Put)
    ∷ case "put 1\r2" (refused 1 Put)
    ∷ case "get\nget 1" (refused 2 Get)
    ∷ case "claim 16" (refused 1 Claim)
    ∷ case "look 16 0" (refused 1 Look)
    ∷ case "step 256 0 0" (refused 1 Step)
    ∷ case "size 300 2 2" (refused 1 Size)
    ∷ case "size 2 2" (refused 1 Size)
    ∷ case "bytes" (refused 1 Bytes)
    ∷ case "bytes 1 256" (refused 1 Bytes)
    ∷ case "times x put 1" (refused 1 Times)
    ∷ case "times 2 size 2 2 2" (refused 1 Times)
    ∷ case "times 2 claim 16" (refused 1 Claim)
    ∷ case "\n\n= " (refused 3 Name)
    ∷ case "% put 1" (refused 1 Line)
    ∷ case "Put 1" (refused 1 Line)
    ∷ [])
