-- The first line of a text, and those behind it.
use Rattle.std.proofs.Common.{◌≡◌, refl, sym, ap, ◌∙◌, Bool, true, false, List, [], ◌∷◌, ℕ, suc, ◌-◌, ◌≤◌, ◌<◌, length, take, drop, length-drop, length-append, add-one, arith, eqb, take-append-drop, drop_of_length-le, length-take-le, drop-drop}
use Rattle.std.proofs.lemmas.List.{take_rest}
use Rattle.std.specs.List.{position_or_len}
use Rattle.std.proofs.lemmas.List.Sums.{prefix_len-le-length}
use Rattle.book.proofs.Choice.{cases, T→true, not→false}
use Rattle.text.specs.Pieces.{onto, lines, bare_length, bare}
use Rattle.text.specs.Parts.{FirstLine}

abbrev pub is_end : ℕ → Bool
is_end b = eqb b 10

lines_none : lines [] ≡ []
unfolding lines
lines_none = refl

pub lines_empty : (t : List ℕ) → length t ≡ 0 → lines t ≡ []
lines_empty [] h = lines_none
lines_empty (b ∷ t) h = absurd (omega arith)

lines_end : (b : ℕ) (t : List ℕ) → is_end b ≡ true → lines (b ∷ t) ≡ [] ∷ lines t
unfolding lines
lines_end b t e = rw e refl

lines_more : (b : ℕ) (t : List ℕ) → is_end b ≡ false → lines (b ∷ t) ≡ onto b (lines t)
unfolding lines
lines_more b t e = rw e refl

abbrev end_of : List ℕ → ℕ
end_of t = position_or_len is_end t

end_here : (b : ℕ) (t : List ℕ) → is_end b ≡ true → end_of (b ∷ t) ≡ 0
end_here b t e = rw e refl

end_later : (b : ℕ) (t : List ℕ) → is_end b ≡ false → end_of (b ∷ t) ≡ suc (end_of t)
end_later b t e = rw e (omega arith)

abbrev split : List ℕ → ℕ → List (List ℕ)
split l k = take k l ∷ lines (drop (suc k) l)

longer : (b : ℕ) (t : List ℕ) → (1 ≤ length t → lines t ≡ split t (end_of t)) → onto b (lines t) ≡ split (b ∷ t) (suc (end_of t))
longer b [] more = rw lines_none refl
longer b (c ∷ t) more = rw (more (omega arith)) refl

lines_first : (l : List ℕ) → 1 ≤ length l → lines l ≡ split l (end_of l)
lines_first [] h = absurd (omega arith)
lines_first (b ∷ t) h =
    let more = lines_first t in
    cases (is_end b)
    (λ y. let e = T→true (is_end b) y in lines_end b t e ∙ ap (split (b ∷ t)) (sym (end_here b t e)))
    (λ y. let e = not→false (is_end b) y in lines_more b t e ∙ longer b t more ∙ ap (split (b ∷ t)) (sym (end_later b t e)))

-- what stands behind a newline; and behind the last line, where there is none
pub behind_end : (k : ℕ) (t r : List ℕ) → r ≡ drop k t → length r < 1 → r ≡ drop (suc k) t
behind_end k t r e h =
    let n : length t ≤ k = omega (arith, ap length e, length-drop k t) in
    let m : length t ≤ suc k = omega arith in
    e ∙ drop_of_length-le t n ∙ sym (drop_of_length-le t m)

pub behind_more : (k : ℕ) (t r : List ℕ) → r ≡ drop k t → take (length r - 1) (drop 1 r) ≡ drop (suc k) t
behind_more k t r e = take_rest r 1 ∙ ap (drop 1) e ∙ drop-drop 1 k t ∙ rw (add-one k) refl

bare_short : (l : List ℕ) → length (bare l) ≤ length l
bare_short l = let e = ap length (take-append-drop (bare_length l) l) in omega (arith, length-append (take (bare_length l) l) (drop (bare_length l) l))

pub line_found : (t line behind : List ℕ) (k : ℕ) → 0 < length t → k ≡ end_of t → line ≡ bare (take k t) → behind ≡ drop (suc k) t
    → FirstLine t line behind
line_found t line behind k h e f g =
    let n = end_of t in
    let small : n ≤ length t = prefix_len-le-length _ t in
    let d = length-drop (suc k) t in let w = length-take-le k t (omega arith) in
    let shorter = bare_short (take k t) in
    record {
      raw = take k t;
      is = f;
      splits = lines_first t (omega arith) ∙ rw (← e, ← g) refl;
      shorter = omega (arith, ap length f, ap length g);
      less = omega (arith, ap length g);
    }
