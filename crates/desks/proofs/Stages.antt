-- What a desk is by the number of its stage, and what it carries where the grid lets it claim, fetch or finish.
use Rattle.std.proofs.Common.{◌≡◌, ℕ, zero, suc, ◌<◌, sym, refl, ◌∙◌}
use Rattle.words.specs.declared.Refusal.TheVariants.{Stage}
use Rattle.book.specs.Steps.{Desk, holding, claimed_at, hold_of}
use Rattle.book.specs.Verdicts.{takes, refuses, stage, at_stage}
use Rattle.line.specs.declared.Desk.{Desk as LentDesk}
use Rattle.line.specs.Line.{Spot, nowhere, spot_of, desk_of}
use Rattle.line.proofs.Verdicts.{refuses_not}
use Rattle.desks.proofs.Cells.{four}

-- an idle desk takes a look alone
idle_looks : (m : ℕ) → at_stage 0 (suc m) ≡ refuses Stage
idle_looks zero = refl
idle_looks (suc zero) = refl
idle_looks (suc (suc zero)) = refl
idle_looks (suc (suc (suc m))) = refl

module _ (x : LentDesk) (h : x.stage < 4) where
  abbrev at : ℕ → Desk Spot
  at n = desk_of (record { stage = n; place = x.place; turn = x.turn })

  pub stage_of : stage (desk_of x) ≡ x.stage
  unfolding desk_of
  stage_of = four (λ n. stage (at n) ≡ n) refl refl refl refl x.stage h

  pub carries : (m : ℕ) → at_stage x.stage (suc m) ≡ takes → (hold_of nowhere (desk_of x)).at ≡ spot_of x
  unfolding desk_of
  carries m =
      four (λ n. at_stage n (suc m) ≡ takes → (hold_of nowhere (at n)).at ≡ spot_of x)
      (λ e. absurd (refuses_not Stage (sym (idle_looks m) ∙ e))) (λ e. refl) (λ e. refl) (λ e. refl) x.stage h

  -- a fetch is taken by a desk that has claimed
  pub fetch_claimed : at_stage x.stage 2 ≡ takes → desk_of x ≡ holding (claimed_at (spot_of x))
  unfolding desk_of
  fetch_claimed =
      four (λ n. at_stage n 2 ≡ takes → at n ≡ holding (claimed_at (spot_of x)))
      (λ e. absurd (refuses_not Stage e)) (λ e. absurd (refuses_not Stage e)) (λ e. refl) (λ e. absurd (refuses_not Stage e)) x.stage h
