-- The first broken rule is one only, so the check names it: where a rule is the first that is broken, its place and its
-- number are what the check answers.
use Rattle.std.proofs.Common.{◌≡◌, ℕ, T, List, [], ◌∷◌, ◌++◌, Ok, Err, refl, sym, ap, ap₂, subst, ◌∙◌}
use Rattle.line.specs.declared.Fault.TheVariants.{Unfit as Misfit, Broken}
use Rattle.line.specs.Line.{Line, size_of}
use Rattle.line.specs.Rules.{RuleAt, rule_number, Obeys}
use Rattle.line.specs.Check.{Checked, broken, fit, check}
use Rattle.line.specs.Demands.{FirstBroken, CheckUnfit, CheckSound, CheckBroken}
use Rattle.line.proofs.Check.{check_unfit, check_sound, check_broken, broken_unsound}

-- a list that is not empty: its first, and those behind it
abbrev first : RuleAt → List RuleAt → RuleAt
first d [] = d
first d (a ∷ xs) = a

abbrev behind : List RuleAt → List RuleAt
behind [] = []
behind (a ∷ xs) = xs

module _ (l : Line) where
  abbrev AllObeyed : List RuleAt → Type 0
  AllObeyed xs = (x y : List RuleAt) (a : RuleAt) → xs ≡ x ++ (a ∷ y) → Obeys l a

  less_obeyed : (a : RuleAt) (xs : List RuleAt) → AllObeyed (a ∷ xs) → AllObeyed xs
  less_obeyed a xs h x y b e = h (a ∷ x) y b (ap (λ (bs : List RuleAt). a ∷ bs) e)

  -- one list, with x behind some that are obeyed, and y behind some that are: if neither x nor y is, they are the same
  same : (xs bs us vs : List RuleAt) (x y : RuleAt) → xs ++ (x ∷ us) ≡ bs ++ (y ∷ vs) → AllObeyed xs → AllObeyed bs → (Obeys l x → ⊥) → (Obeys l y → ⊥) → x ≡ y
  same [] [] us vs x y e h k no-x no-y = ap (first x) e
  same [] (b ∷ bs) us vs x y e h k no-x no-y = absurd (no-x (subst (Obeys l) (sym (ap (first x) e)) (k [] bs b refl)))
  same (a ∷ xs) [] us vs x y e h k no-x no-y = absurd (no-y (subst (Obeys l) (ap (first a) e) (h [] xs a refl)))
  same (a ∷ xs) (b ∷ bs) us vs x y e h k no-x no-y = same xs bs us vs x y (ap behind e) (less_obeyed a xs h) (less_obeyed b bs k) no-x no-y

  one : (i j n m : ℕ) → FirstBroken l i n → FirstBroken l j m → broken i n ≡ broken j m
  one i j n m f g =
      let e = same f.before g.before f.behind g.behind f.named g.named (sym f.order ∙ g.order) f.none_before g.none_before
      f.is_broken g.is_broken in
      ap₂ broken (sym f.there ∙ ap (λ (a : RuleAt). a.place) e ∙ g.there) (sym f.number ∙ ap (λ (a : RuleAt). rule_number a.rule) e ∙ g.number)

  module _ (place rule : ℕ) (fits : T (fit (size_of l.head) l.table l.entries)) (f : FirstBroken l place rule) where
    named : (c : Checked) → check l ≡ c → c ≡ broken place rule
    unfolding CheckUnfit CheckSound CheckBroken
    named (Ok tt) e = absurd (broken_unsound l place rule f ((check_sound l).0 e).1)
    named (Err Misfit) e = absurd ((check_unfit l).0 e fits)
    named (Err (Broken i n)) e = one i place n rule (check_broken l i n e).1 f

    pub first_named : check l ≡ broken place rule
    first_named = named (check l) refl
