-- A call on what was lent goes by what the check says: it is refused, or the line is sound and was lent with its NB
-- records.
use Rattle.std.proofs.Common.{◌≡◌, ℕ, List, length, Ok, Err, sym, refl, ◌∙◌, subst}
use Rattle.std.proofs.Math.Path.{subst⁻¹}
use Rattle.words.specs.declared.Answer.{Answer}
use Rattle.words.specs.declared.Answer.TheVariants.{Refused}
use Rattle.book.specs.Sizes.{Size}
use Rattle.book.specs.declared.Deed.{Deed}
use Rattle.book.specs.Verdicts.{judge}
use Rattle.line.specs.declared.Block.{Block}
use Rattle.line.specs.declared.Fault.{Fault}
use Rattle.line.specs.declared.Head.{Head}
use Rattle.line.specs.Line.{Line, size_of, refuse, does}
use Rattle.line.specs.Check.{Checked, refusal_of, check}
use Rattle.line.specs.Calls.{passes}
use Rattle.line.specs.Agrees.{Lawful}
use Rattle.line.proofs.Check.{Says, checked}
use Rattle.line.proofs.Cells.{blocks_of}
use Rattle.byvalue.specs.Lent.{line_of}
use Rattle.rules.specs.Promises.{GivesCheck}
use Rattle.byvalue.proofs.Lent.{lent_length}
use Rattle.rules.proofs.Entries.{lent_checked}
use Rattle.byvalue.specs.GivenBack.{Given, given, back_of}
use Rattle.byvalue.specs.Ready.{Ready}
use Rattle.byvalue.proofs.GivenBack.{refused}

-- c is what the check said, of as many entries as there are
module _ (h : Head) (t : List Block) (n : ℕ) (es : List ℕ) (c : Checked) (q : GivesCheck h t n (length es) c) where
  abbrev z : Size
  z = size_of h

  abbrev l : Line
  l = line_of h t n es

  same : check l ≡ c
  same = sym (lent_checked h t n es c q)

  -- what the deed gives back
  abbrev called : Deed → Given Answer
  called d = back_of t n (judge (passes (check l)) (does z l d) (refuse l))

  pub stops : (f : Fault) (d : Deed) → c ≡ Err f → given (Refused (refusal_of f) 0) h t es ≡ called d
  stops f d e = rw (same, e) (refused h t n es (refusal_of f))

  module _ (long : length t ≡ 64) (many : length h.desks ≡ 16) (e : c ≡ Ok tt) where
    lawful : Lawful z l
    lawful = let f = subst (Says l) (same ∙ e) (checked l) in record { size = refl; fits = f.0; many = many; sound = f.1 }

    all_lent : n ≡ h.nb
    all_lent = sym (lent_length t n long) ∙ blocks_of z l lawful

    pub ready : Ready h t es
    ready = subst (λ (k : ℕ). Lawful z (line_of h t k es)) all_lent lawful

    pub goes : (d b : Deed) (o : Given Answer) → d ≡ b → o ≡ back_of t h.nb (does z (line_of h t h.nb es) b) → o ≡ called d
    goes d b o f p = rw (same, e, f) (subst⁻¹ (λ (k : ℕ). o ≡ back_of t k (does z (line_of h t k es) b)) all_lent p)
