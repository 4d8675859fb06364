-- The text of a schedule: a line for the header, a line for each step, and the bytes of a step that is cut short. A step
-- whose ignored numbers are not 0 is shown by its code, so that nothing is lost.
use Rattle.std.specs.Prelude.{◌&&◌, List, [], ◌∷◌, ◌++◌, ℕ, ◌+◌, ◌-◌, ◌*◌, length, drop, codes, Result, Ok, Err, if◌then◌else◌}
use Prim.Native.String.{String}
use Rattle.book.specs.Choice.{◌≡ᵇ◌}
use Rattle.book.specs.Sizes.{within, fits}
use Rattle.book.specs.declared.Size.{Size}
use Rattle.book.specs.Steps.{Step}
use Rattle.schedule.specs.Bytes.{header_bytes, step_bytes, is_long, is_header, size_in, whole_steps, steps_of, is_cut}
use Rattle.printing.specs.Text.{space, newline, decimal}
use Rattle.shown.specs.declared.Unshown.{Unshown}
use Rattle.shown.specs.declared.Unshown.TheVariants.{Long, Header, Unfit}

-- ---- a line: a word, and numbers behind it

unfoldable pub numbers_text : List ℕ → List ℕ
numbers_text [] = newline ∷ []
numbers_text (n ∷ ns) = space ∷ (decimal n ++ numbers_text ns)

abbrev pub line_of : List ℕ → List ℕ → List ℕ
line_of word ns = word ++ numbers_text ns

abbrev pub line_text : String → List ℕ → List ℕ
line_text w ns = line_of (codes w) ns

unfoldable pub step_text : Step → List ℕ
step_text s =
    let none = s.a ≡ᵇ 0 && s.b ≡ᵇ 0 in
    if s.code ≡ᵇ 0 && s.b ≡ᵇ 0 then line_text "put" (s.a ∷ [])
    else if s.code ≡ᵇ 1 && none then line_text "get" []
    else if s.code ≡ᵇ 2 then line_text "order" (s.a ∷ s.b ∷ [])
    else if within 16 31 s.code && none then line_text "claim" ((s.code - 16) ∷ [])
    else if within 32 47 s.code && none then line_text "fetch" ((s.code - 32) ∷ [])
    else if within 48 63 s.code && none then line_text "finish" ((s.code - 48) ∷ [])
    else if within 64 79 s.code && s.b ≡ᵇ 0 then line_text "look" ((s.code - 64) ∷ s.a ∷ [])
    else line_text "step" (s.code ∷ s.a ∷ s.b ∷ [])

unfoldable pub steps_text : List Step → List ℕ
steps_text [] = []
steps_text (s ∷ rest) = step_text s ++ steps_text rest

-- ---- a schedule

module _ (bs : List ℕ) where
  -- the bytes behind the whole steps
  abbrev pub cut_bytes : List ℕ
  cut_bytes = drop (header_bytes + step_bytes * whole_steps bs) bs

  unfoldable pub cut_text : List ℕ
  cut_text = if is_cut bs then line_text "bytes" cut_bytes else []

  unfoldable pub size_text : List ℕ
  size_text = let z = size_in bs in line_text "size" (z.nb ∷ z.ne ∷ z.t ∷ [])

  unfoldable pub text : List ℕ
  text = size_text ++ (steps_text (steps_of bs) ++ cut_text)

-- ---- the promise

-- the text's length; or why the player refuses the schedule
abbrev pub Shown : Type 0
Shown = Result ℕ Unshown

-- the player's word for it
abbrev pub word_of : Unshown → String
word_of Long = "LONG"
word_of Header = "HEADER"
word_of Unfit = "UNFIT"

-- the numbers of a schedule that is played
unfoldable pub played : List ℕ → Result Size Unshown
played bs =
    if is_long bs then Err Long
    else if is_header bs then (if fits (size_in bs) then Ok (size_in bs) else Err Unfit)
    else Err Header

-- the text and what stood behind it; or why the player refuses it, and all as it was
unfoldable pub outcome : List ℕ → List ℕ → Shown × List ℕ
outcome bs before =
    if is_long bs then (Err Long, before)
    else if is_header bs then
    (if fits (size_in bs) then (Ok (length (text bs)), text bs ++ drop (length (text bs)) before) else (Err Unfit, before))
    else (Err Header, before)
