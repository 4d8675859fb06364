-- One step played: the line stays sound, and what is left to say and to write is one step less.
use Rattle.std.proofs.Common.{◌≡◌, sym, ap, subst, ◌∙◌, List, ◌++◌, ℕ, suc, ◌+◌, length}
use Rattle.words.specs.declared.Answer.{Answer}
use Rattle.book.specs.Sizes.{Size}
use Rattle.book.specs.Steps.{Step}
use Rattle.line.specs.declared.Block.{Block}
use Rattle.line.specs.declared.Head.{Head}
use Rattle.line.specs.Line.{Outcome, says}
use Rattle.line.specs.Calls.{step}
use Rattle.line.specs.Agrees.{Lawful}
use Rattle.byvalue.specs.declared.Outcome.{Outcome as OutcomeByValue}
use Rattle.byvalue.specs.Lent.{line_of}
use Rattle.engine.specs.Promises.{GivesStep}
use Rattle.schedule.specs.Bytes.{step_bytes, step_at}
use Rattle.printing.specs.declared.Page.{Page}
use Rattle.printing.specs.Page.{Wrote}
use Rattle.player.specs.Spoken.{spoken}
use Rattle.player.specs.Printed.{line}
use Rattle.player.proofs.Rest.{Continues, one_played}
use Rattle.player.proofs.Opened.{step_sound, step_line}

module _ (z : Size) (h : Head) (t : List Block) (n : ℕ) (es : List ℕ) (sound : Lawful z (line_of h t n es)) (blocks : n ≡ z.nb)
    (bs xs : List ℕ) (o : Page) (i : ℕ) (left : List ℕ) (p : Page) (rest : Continues bs xs o i left (line_of h t n es) p) where
  pub step_played : (bytes behind : List ℕ) (s : Step) (r : OutcomeByValue Answer) (fs : List ℕ) (m : ℕ) (q : Page) → left ≡ bytes ++ behind → length bytes ≡ step_bytes
      → s ≡ step_at bytes 0 → GivesStep h t n es s r fs → m ≡ suc i → Wrote (line (spoken m r.answer)) p q
      → Lawful z (line_of r.head r.table n fs) × Continues bs xs o (i + 1) behind (line_of r.head r.table n fs) q
  step_played bytes behind s r fs m q f nine e steps k w =
      let l = line_of r.head r.table n fs in
      let went : says l r.answer ≡ step (line_of h t n es) s = step_line z h t n es sound s r fs blocks steps in
      let there : says l r.answer ≡ step (line_of h t n es) (step_at bytes 0) = went ∙ ap (step (line_of h t n es)) e in (
        subst (λ (u : Outcome). Lawful z u.line) (sym went) (step_sound z h t n es sound s),
        one_played bs xs o i left (line_of h t n es) p rest bytes behind (says l r.answer) m q f nine there k w,
      )
