-- A schedule that is written is read back: its header, its numbers, its steps, and none of them cut short.
use Rattle.std.proofs.Common.{◌≡◌, refl, ap₂, subst, ◌∙◌, true, false, List, [], ◌∷◌, ◌++◌, append_assoc, ℕ, ◌+◌, ◌-◌, ◌*◌, ◌%◌, arith, length, length-append, le-leb}
use Rattle.schedule.proofs.Behind.{step_behind}
use Rattle.book.specs.declared.Size.{Size}
use Rattle.book.specs.Steps.{Step}
use Rattle.schedule.specs.Bytes.{header_bytes, step_bytes, number_at, is_header, size_in, step_at, steps_from, whole_steps, steps_of, is_cut, bytes_in, bytes_of, header_of, bytes_of_all, schedule_of}

-- ---- a step

-- the four bytes of a number are the number
number_back : (n : ℕ) → number_at (bytes_in n) 0 ≡ n
number_back n = omega arith

step_back : (front : List ℕ) (s : Step) (rest : List ℕ) → step_at (front ++ (bytes_of s ++ rest)) (length front) ≡ s
step_back front s rest = step_behind front (bytes_of s ++ rest) (length front) 0 (omega arith) ∙ rw (number_back s.a, number_back s.b) refl

steps_back : (front : List ℕ) (ss : List Step) → steps_from (front ++ bytes_of_all ss) (length ss) (length front) ≡ ss
unfolding steps_from bytes_of_all
steps_back front [] = refl
steps_back front (s ∷ ss) =
    let more = steps_back (front ++ bytes_of s) ss in
    let e : length (front ++ bytes_of s) ≡ length front + step_bytes = length-append front (bytes_of s) in
    let f : (front ++ bytes_of s) ++ bytes_of_all ss ≡ front ++ bytes_of_all (s ∷ ss) = append_assoc front (bytes_of s) (bytes_of_all ss) in
    let rest = subst (λ (bs : List ℕ). steps_from bs (length ss) (length (front ++ bytes_of s)) ≡ ss) f more in
    ap₂ (λ (t : Step) (l : List Step). t ∷ l) (step_back front s (bytes_of_all ss)) (rw e at rest)

-- ---- a schedule

steps_bytes : (ss : List Step) → length (bytes_of_all ss) ≡ step_bytes * length ss
unfolding bytes_of_all
steps_bytes [] = refl
steps_bytes (s ∷ ss) = let e = length-append (bytes_of s) (bytes_of_all ss) in let h = steps_bytes ss in omega arith

module _ (z : Size) (ss : List Step) where
  pub header_read : is_header (schedule_of z ss) ≡ true
  unfolding is_header
  header_read = rw (le-leb header_bytes (length (schedule_of z ss)) (omega arith)) refl

  pub size_read : size_in (schedule_of z ss) ≡ z
  size_read = refl

  pub count_read : whole_steps (schedule_of z ss) ≡ length ss
  count_read = let h = steps_bytes ss in omega arith

  pub steps_read : steps_of (schedule_of z ss) ≡ ss
  unfolding steps_of
  steps_read = rw count_read (steps_back (header_of z) ss)

  pub none_cut : is_cut (schedule_of z ss) ≡ false
  none_cut = let h = steps_bytes ss in let e : (length (schedule_of z ss) - header_bytes) % step_bytes ≡ 0 = omega arith in rw e refl
