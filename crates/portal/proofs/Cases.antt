-- The cases of specs/Cases.antt. What is allowed is computed; a wrong outcome differs from it in a number, so it is not
-- allowed.
use Rattle.std.proofs.Common.{◌≡◌, ℕ, not, T, eqb, get_or, refl, sym, ap, subst, ◌∙◌, T_not}
use Rattle.std.proofs.Math.Dec.{eqb_refl}
use Rattle.words.specs.declared.Answer.TheVariants.{Put, Refused}
use Rattle.words.specs.declared.Refusal.TheVariants.{Full}
use Rattle.line.specs.Line.{Line, unused}
use Rattle.line.specs.Check.{broken}
use Rattle.line.specs.Calls.{open·line}
use Rattle.line.specs.Numbers.{CheckSaid, SurveySaid}
use Rattle.line.specs.Samples.{fresh, started}
use Rattle.line.proofs.Cases.{calls}
use Rattle.portal.specs.Promises.{Told, ToldOpening, Opens, Steps, Orders, Checks, Surveys}
use Rattle.portal.specs.Cases.{put7, placed, StepCase, filled, OrderCase, three, anew, OpeningCase, torn, CheckCase, seen, SurveyCase}

-- ---- the numbers in which two outcomes differ: where one of them is allowed, the other is not

differs : {S : Type 0} (f : S → ℕ) {a b c : S} → a ≡ c → T (not (eqb (f a) (f b))) → b ≡ c → ⊥
differs f {a} {b} p t q = T_not (eqb (f a) (f b)) t (subst (λ (n : ℕ). T (eqb (f a) n)) (ap f (p ∙ sym q)) (eqb_refl (f a)))

abbrev written : Line → ℕ
written l = (get_or l.table 0 unused).written

abbrev entry : Line → ℕ
entry l = get_or l.entries 0 0

-- ---- the cases

allowed : Steps fresh put7 (Put 7) placed × Orders fresh 1 5 (Refused Full 4) filled × Opens started three open·line anew × Checks torn (broken 1 4) × Surveys started seen
unfolding calls
allowed = (refl, refl, refl, refl, refl)

pub step_case : StepCase
step_case = record {
  allowed = allowed.0;
  not_refused = differs (λ (t : Told). t.said.number) allowed.0 tt;
  not_alike = differs (λ (t : Told). t.said.number) allowed.0 tt;
  not_the_first_only = differs (λ (t : Told). written t.line) allowed.0 tt;
  not_without_a_record = differs (λ (t : Told). written t.line) allowed.0 tt;
}

pub order_case : OrderCase
order_case = record {
  allowed = allowed.1;
  not_invented = differs (λ (t : Told). t.said.number) allowed.1 tt;
  not_forgotten = differs (λ (t : Told). written t.line) allowed.1 tt;
}

pub opening_case : OpeningCase
opening_case = record {
  allowed = allowed.2;
  not_refused = differs (λ (t : ToldOpening). t.said.number) allowed.2 tt;
  not_an_entry_left = differs (λ (t : ToldOpening). entry t.line) allowed.2 tt;
}

pub check_case : CheckCase
check_case = record {
  allowed = allowed.3;
  not_sound = differs (λ (s : CheckSaid). s.number) allowed.3 tt;
  not_the_last = differs (λ (s : CheckSaid). s.place) allowed.3 tt;
}

pub survey_case : SurveyCase
survey_case = record {
  allowed = allowed.4;
  not_invented = differs (λ (s : SurveySaid). s.count) allowed.4 tt;
  not_refused = differs (λ (s : SurveySaid). s.number) allowed.4 tt;
}
