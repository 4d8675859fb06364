-- The steps as an iterator gives them, nine bytes at a time of those that the header leaves.
use Rattle.std.proofs.Common.{◌≡◌, refl, sym, ap₂, subst, List, [], ◌∷◌, ◌++◌, ℕ, suc, ◌+◌, ◌-◌, ◌*◌, ◌/◌, ◌%◌, ◌<◌, ◌≤◌, length, take, drop, arith, length-append, length-drop}
use Rattle.std.proofs.lemmas.List.{take-append-drop, length-take-le, drop-drop}
use Rattle.std.proofs.Math.Seq.{take-length}
use Rattle.book.specs.Steps.{Step}
use Rattle.schedule.specs.Bytes.{header_bytes, step_bytes, step_at, steps_from, whole_steps, steps_of}
use Rattle.schedule.proofs.Behind.{step_within, steps_behind}

-- the steps of bytes that have no header before them
unfoldable pub steps_in : List ℕ → List Step
steps_in left = steps_from left (length left / step_bytes) 0

pub steps_next : (bytes left : List ℕ) → length bytes ≡ step_bytes → steps_in (bytes ++ left) ≡ step_at bytes 0 ∷ steps_in left
unfolding steps_in steps_from
steps_next bytes left h =
    let n = length left / step_bytes in
    let one_more : length (bytes ++ left) / step_bytes ≡ suc n = omega (arith, length-append bytes left) in
    rw one_more (ap₂ (λ (s : Step) (l : List Step). s ∷ l) (step_within bytes left 0 (omega arith)) (steps_behind bytes left n step_bytes 0 (omega arith)))

pub steps_none : (left : List ℕ) → length left < step_bytes → steps_in left ≡ []
unfolding steps_in steps_from
steps_none left h = let none : length left / step_bytes ≡ 0 = omega arith in rw none refl

pub steps_all : (bs : List ℕ) → header_bytes ≤ length bs → steps_in (drop header_bytes bs) ≡ steps_of bs
unfolding steps_in steps_of
steps_all bs h =
    let front = take header_bytes bs in let left = drop header_bytes bs in
    let eight : length front ≡ header_bytes = length-take-le header_bytes bs h in
    let count : length left / step_bytes ≡ whole_steps bs = omega (arith, length-drop header_bytes bs) in
    let here = steps_behind front left (whole_steps bs) header_bytes 0 (omega arith) in
    rw count (sym (subst (λ (l : List ℕ). steps_from l (whole_steps bs) header_bytes ≡ steps_from left (whole_steps bs) 0) (take-append-drop header_bytes bs) here))

-- ---- what the iterator over the bytes behind the header has left, and what it leaves

pub all_left : (bs : List ℕ) → take (length bs - header_bytes) (drop header_bytes bs) ≡ drop header_bytes bs
all_left bs = rw (← length-drop header_bytes bs) (take-length (drop header_bytes bs))

pub cut_left : (bs rest : List ℕ) → header_bytes ≤ length bs → rest ≡ drop header_bytes bs
    → drop (length rest - length rest % step_bytes) rest ≡ drop (header_bytes + step_bytes * whole_steps bs) bs
cut_left bs rest h e =
    let n : length rest - length rest % step_bytes ≡ step_bytes * whole_steps bs = rw e (omega (arith, length-drop header_bytes bs)) in
    rw (n, e) (drop-drop (step_bytes * whole_steps bs) header_bytes bs)
