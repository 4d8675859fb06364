-- The numbers of a line, gathered word by word.
use Rattle.std.proofs.Common.{◌≡◌, refl, sym, ap, ◌∙◌, List, [], ◌∷◌, ◌++◌, append-nil, append_assoc, ℕ, ◌+◌, ◌≤◌, length, length-append, arith, Option, Some, None, ne_eqb}
use Rattle.std.specs.Option.{option_map}
use Rattle.text.specs.declared.items.Args.{Args}
use Rattle.text.specs.Pieces.{number, numbers_of}
use Rattle.text.specs.Items.{args_of}
use Rattle.text.specs.Parts.{more}

args_more : (ns : List ℕ) (n : ℕ) → more (args_of ns) n ≡ args_of (ns ++ (n ∷ []))
unfolding args_of
args_more [] n = refl
args_more (a ∷ []) n = refl
args_more (a ∷ b ∷ []) n = refl
args_more (a ∷ b ∷ c ∷ ns) n =
    let m = length (a ∷ b ∷ c ∷ ns) in
    let e : m + 1 ≡ length ((a ∷ b ∷ c ∷ ns) ++ (n ∷ [])) = sym (length-append (a ∷ b ∷ c ∷ ns) (n ∷ [])) in
    rw (ne_eqb m 0 (λ f. omega arith), ne_eqb m 1 (λ f. omega arith), ne_eqb m 2 (λ f. omega arith), e) refl

-- the words up to those that are left are numbers, and gathered
pub record Gathered (all left : List (List ℕ)) (r : Args) : Type 0 where
  pub ns : List ℕ
  pub is : r ≡ args_of ns
  pub few : length ns + length left ≤ length all
  pub splits : numbers_of all ≡ option_map (λ x. ns ++ x) (numbers_of left)

front_none : (o : Option (List ℕ)) → o ≡ option_map (λ x. [] ++ x) o
front_none None = refl
front_none (Some x) = refl

front_more : (ns : List ℕ) (n : ℕ) (o : Option (List ℕ)) → option_map (λ x. ns ++ x) (option_map (λ x. n ∷ x) o) ≡ option_map (λ x. (ns ++ (n ∷ [])) ++ x) o
front_more ns n None = refl
front_more ns n (Some x) = ap Some (sym (append_assoc ns (n ∷ []) x))

numbers_next : (w : List ℕ) (ws : List (List ℕ)) (n : ℕ) → Some n ≡ number w → numbers_of (w ∷ ws) ≡ option_map (λ x. n ∷ x) (numbers_of ws)
unfolding numbers_of
numbers_next w ws n e = rw (← e) refl

numbers_bad : (w : List ℕ) (ws : List (List ℕ)) → None ≡ number w → numbers_of (w ∷ ws) ≡ None
unfolding numbers_of
numbers_bad w ws e = rw (← e) refl

numbers_end : numbers_of [] ≡ Some []
unfolding numbers_of
numbers_end = refl

pub gathered_none : (ws : List (List ℕ)) → Gathered ws ws (record { count = 0; a = 0; b = 0; c = 0 })
unfolding args_of
gathered_none ws = record { ns = []; is = refl; few = omega arith; splits = front_none (numbers_of ws) }

module _ (all left : List (List ℕ)) (r : Args) (g : Gathered all left r) where
  pub gathered_count : r.count + length left ≤ length all
  unfolding args_of
  gathered_count = let e = ap (λ (x : Args). x.count) g.is in let h = g.few in omega arith

  pub gathered_end : left ≡ [] → Some r ≡ option_map args_of (numbers_of all)
  gathered_end e =
      ap Some (g.is ∙ ap args_of (sym (append-nil g.ns)))
      ∙ sym (ap (option_map args_of) (g.splits ∙ ap (λ (x : List (List ℕ)). option_map (λ y. g.ns ++ y) (numbers_of x)) e ∙ ap (option_map (λ y. g.ns ++ y)) numbers_end))

  module _ (w : List ℕ) (ws : List (List ℕ)) (l : left ≡ w ∷ ws) where
    pub gathered_bad : None ≡ number w → None ≡ option_map args_of (numbers_of all)
    gathered_bad e =
        sym (ap (option_map args_of) (g.splits ∙ ap (λ (x : List (List ℕ)). option_map (λ y. g.ns ++ y) (numbers_of x)) l ∙ ap (option_map (λ y. g.ns ++ y)) (numbers_bad w ws e)))

    pub gathered_more : (n : ℕ) → Some n ≡ number w → Gathered all ws (more r n)
    gathered_more n e = record {
      ns = g.ns ++ (n ∷ []);
      is = ap (λ (x : Args). more x n) g.is ∙ args_more g.ns n;
      few = let h = g.few in let k = ap length l in omega (arith, length-append g.ns (n ∷ []));
      splits =
          g.splits ∙ ap (λ (x : List (List ℕ)). option_map (λ y. g.ns ++ y) (numbers_of x)) l
          ∙ ap (option_map (λ y. g.ns ++ y)) (numbers_next w ws n e) ∙ front_more g.ns n (numbers_of ws);
    }
