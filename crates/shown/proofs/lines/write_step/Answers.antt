-- A step that has no line of its own.
use Rattle.std.proofs.Common.{◌≡◌, ◌≤◌, [], ◌∷◌, arith, refl, false, ◌&&◌}
use Rattle.book.specs.Choice.{◌≡ᵇ◌}
use Rattle.book.specs.Sizes.{within}
use Rattle.book.specs.Steps.{Step}
use Rattle.schedule.specs.Messages.{step_of}
use Rattle.shown.specs.Shown.{step_text, line_text}
use Rattle.shown.proofs.lines.write_step.Goals as goal

other_step : (s : Step) → (s.code ≡ 0 → s.b ≡ 0 → ⊥) → (s.code ≡ 1 → s.a ≡ 0 → s.b ≡ 0 → ⊥) → (s.code ≡ 2 → ⊥) → (16 ≤ s.code → s.code ≤ 63 → s.a ≡ 0 → s.b ≡ 0 → ⊥)
    → (64 ≤ s.code → s.code ≤ 79 → s.b ≡ 0 → ⊥) → step_text s ≡ line_text "step" (s.code ∷ s.a ∷ s.b ∷ [])
unfolding step_text
other_step s put get order owned look =
    let none = s.a ≡ᵇ 0 && s.b ≡ᵇ 0 in
    let p : (s.code ≡ᵇ 0 && s.b ≡ᵇ 0) ≡ false = grind (arith, put) in
    let g : (s.code ≡ᵇ 1 && none) ≡ false = grind (arith, get) in
    let o : (s.code ≡ᵇ 2) ≡ false = grind (arith, order) in
    let claim : (within 16 31 s.code && none) ≡ false = grind (arith, owned) in
    let fetch : (within 32 47 s.code && none) ≡ false = grind (arith, owned) in
    let finish : (within 48 63 s.code && none) ≡ false = grind (arith, owned) in
    let l : (within 64 79 s.code && s.b ≡ᵇ 0) ≡ false = grind (arith, look) in
    rw (p, g, o, claim, fetch, finish, l) refl

pub returns-in_default : goal.returns-in_default
returns-in_default c =
    let s = step_of c.args.step in
    let put : s.code ≡ 0 → s.b ≡ 0 → ⊥ = λ e f. grind arith in
    let get : s.code ≡ 1 → s.a ≡ 0 → s.b ≡ 0 → ⊥ = λ e f g. grind arith in
    let order : s.code ≡ 2 → ⊥ = λ e. grind arith in
    let owned : 16 ≤ s.code → s.code ≤ 63 → s.a ≡ 0 → s.b ≡ 0 → ⊥ = λ h k f g. grind arith in
    let look : 64 ≤ s.code → s.code ≤ 79 → s.b ≡ 0 → ⊥ = λ h k f. grind arith in
    rw (other_step s put get order owned look, ← c.from-n.ensures) c.write_line-in_default.ensures
