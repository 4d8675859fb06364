-- The parts of a text, one behind the other: the header's line, the steps that are left, and the bytes of a cut step.
use Rattle.std.proofs.Common.{◌≡◌, refl, subst, true, false, List, [], ◌∷◌, ◌++◌, append_assoc, ℕ, ◌+◌, ◌-◌, ◌*◌, ◌%◌, ◌<◌, length, drop, arith, length-append, length-drop}
use Rattle.std.specs.Prelude.{◌==◌, not, Some}
use Rattle.book.specs.Steps.{Step}
use Rattle.book.specs.declared.Size.{Size}
use Rattle.schedule.specs.Bytes.{header_bytes, step_bytes, header, step_at, whole_steps, steps_of, is_cut}
use Rattle.schedule.proofs.Bytes.{headed_size, headed_long}
use Rattle.schedule.proofs.Chunks.{steps_in, steps_next, steps_none, steps_all}
use Rattle.printing.specs.declared.Page.{Page}
use Rattle.printing.specs.Page.{HasRoom, Wrote}
use Rattle.shown.specs.Shown.{line_text, step_text, steps_text, cut_bytes, cut_text, size_text, text}
use Rattle.shown.proofs.Ahead.{Ahead, ahead_start, ahead_next, ahead_end}

-- ---- the header

module _ (bs : List ℕ) (z : Size) (told : header bs ≡ Some z) (nb ne t : ℕ) (e : nb ≡ z.nb) (f : ne ≡ z.ne) (g : t ≡ z.t) where
  size_told : size_text bs ≡ line_text "size" (nb ∷ ne ∷ t ∷ [])
  unfolding size_text
  size_told = rw (e, f, g, headed_size bs z told)

  size_ahead : (page : Page) → HasRoom (length (text bs)) page
      → Ahead (line_text "size" (nb ∷ ne ∷ t ∷ []) ++ (steps_text (steps_of bs) ++ cut_text bs)) (text bs) page page
  unfolding text
  size_ahead page h = subst (λ (l : List ℕ). Ahead (l ++ (steps_text (steps_of bs) ++ cut_text bs)) (text bs) page page) size_told (ahead_start (text bs) page h)

  pub size_room : (page : Page) → HasRoom (length (text bs)) page → HasRoom (length (line_text "size" (nb ∷ ne ∷ t ∷ []))) page
  size_room page h =
      let a = (size_ahead page h).room in
      omega (arith, length-append (line_text "size" (nb ∷ ne ∷ t ∷ [])) (steps_text (steps_of bs) ++ cut_text bs))

  pub size_written : (start page : Page) (left : List ℕ) → HasRoom (length (text bs)) start → Wrote (line_text "size" (nb ∷ ne ∷ t ∷ [])) start page
      → left ≡ drop header_bytes bs → Ahead (steps_text (steps_in left) ++ cut_text bs) (text bs) start page
  size_written start page left h w l =
      rw (l, steps_all bs (headed_long bs z told))
      (ahead_next (line_text "size" (nb ∷ ne ∷ t ∷ [])) (steps_text (steps_of bs) ++ cut_text bs) (text bs) start start page (size_ahead start h) w)

-- ---- the steps, and what is cut

module _ (bs : List ℕ) (start page : Page) (left : List ℕ) (a : Ahead (steps_text (steps_in left) ++ cut_text bs) (text bs) start page) where
  module _ (bytes rest : List ℕ) (s : Step) (e : left ≡ bytes ++ rest) (nine : length bytes ≡ step_bytes) (f : s ≡ step_at bytes 0) where
    step_ahead : Ahead (step_text s ++ (steps_text (steps_in rest) ++ cut_text bs)) (text bs) start page
    unfolding steps_text
    step_ahead =
        let next : steps_in left ≡ s ∷ steps_in rest = rw (e, f) (steps_next bytes rest nine) in
        let b = subst (λ (l : List Step). Ahead (steps_text l ++ cut_text bs) (text bs) start page) next a in
        subst (λ (l : List ℕ). Ahead l (text bs) start page) (append_assoc (step_text s) (steps_text (steps_in rest)) (cut_text bs)) b

    pub step_room : HasRoom (length (step_text s)) page
    step_room = let b = step_ahead.room in omega (arith, length-append (step_text s) (steps_text (steps_in rest) ++ cut_text bs))

    pub step_written : (next : Page) → Wrote (step_text s) page next → Ahead (steps_text (steps_in rest) ++ cut_text bs) (text bs) start next
    step_written next w = ahead_next (step_text s) (steps_text (steps_in rest) ++ cut_text bs) (text bs) start page next step_ahead w

  module _ (few : length left < step_bytes) where
    cut_ahead : Ahead (cut_text bs) (text bs) start page
    unfolding steps_text
    cut_ahead = subst (λ (l : List Step). Ahead (steps_text l ++ cut_text bs) (text bs) start page) (steps_none left few) a

    module _ (cut : List ℕ) (e : cut ≡ cut_bytes bs) where
      is_cut_told : is_cut bs ≡ not (length cut == 0)
      is_cut_told = let n : (length bs - header_bytes) % step_bytes ≡ length cut = rw e (omega (arith, length-drop (header_bytes + step_bytes * whole_steps bs) bs)) in rw n refl

      some_ahead : (length cut == 0) ≡ false → Ahead (line_text "bytes" cut) (text bs) start page
      unfolding cut_text
      some_ahead h = rw (e) (subst (λ (l : List ℕ). Ahead l (text bs) start page) (rw (is_cut_told, h) refl) cut_ahead)

      pub cut_room : (length cut == 0) ≡ false → HasRoom (length (line_text "bytes" cut)) page
      cut_room h = (some_ahead h).room

      pub cut_written : (length cut == 0) ≡ false → (end : Page) → Wrote (line_text "bytes" cut) page end → Wrote (text bs) start end
      cut_written h = (some_ahead h).whole

      pub none_written : (length cut == 0) ≡ true → Wrote (text bs) start page
      unfolding cut_text
      none_written h = ahead_end (text bs) start page (subst (λ (l : List ℕ). Ahead l (text bs) start page) (rw (is_cut_told, h) refl) cut_ahead)
