-- The survey: refused as the check is, and on a sound line the mask of the blocks' bits.
use Rattle.std.proofs.Common.{◌≡◌, ℕ, zero, suc, ◌+◌, ◌<◌, ◌≤◌, Bool, List, ◌∷◌, length, get_or, take, replicate, sym, refl, ap, ◌∙◌, subst, ap₂, arith, le-leb}
use Rattle.std.proofs.lemmas.List.{length-take-le}
use Rattle.book.specs.declared.DeskStep.TheVariants.{Look as look}
use Rattle.book.specs.Steps.{idle}
use Rattle.book.proofs.Choice.{T→true}
use Rattle.line.specs.declared.Block.{Block}
use Rattle.line.specs.declared.Head.{Head}
use Rattle.line.specs.Line.{Line, size_of, unused, desk_step}
use Rattle.line.specs.Check.{Checked, sound, fit, check}
use Rattle.line.specs.Survey.{surveyed, is_seen, seen_from, views, surveys, survey}
use Rattle.line.proofs.Check.{Says, checked}
use Rattle.byvalue.specs.Lent.{lent_table, line_of}
use Rattle.rules.proofs.Lengths.{Sized, sized, fit_by}
use Rattle.engine.proofs.Mask.{told, told_views, bits_from, bits_length, mask_below}
use Rattle.engine.proofs.Looks.{seen, sees, verdict_at, seen_is}

pub survey_by : (l : Line) (c : Checked) → c ≡ check l → surveys l c ≡ survey l
unfolding survey
survey_by l c e = rw e refl

seen_bits : (l : Line) (f : ℕ → Bool) (n i : ℕ) → ((j : ℕ) → j < i + n → is_seen (desk_step (size_of l.head) l 0 (look j) idle).answer ≡ f j) → seen_from l i n ≡ bits_from f i n
unfolding seen_from bits_from
seen_bits l f zero i h = refl
seen_bits l f (suc n) i h = ap₂ (λ (b : Bool) (bs : List Bool). b ∷ bs) (h i (omega arith)) (seen_bits l f n (suc i) (λ j k. h j (omega arith)))

-- the bit of block i
abbrev pub bit_at : ℕ → ℕ → ℕ → List Block → ℕ → Bool
bit_at nb p k t i = seen (verdict_at nb p k i (get_or t i unused))

module _ (h : Head) (t : List Block) (n m : ℕ) (long : length t ≡ 64) (is_sound : sound ≡ check (line_of h t n (replicate m 0))) where
  abbrev l : Line
  l = line_of h t n (replicate m 0)

  abbrev at : ℕ → Bool
  at = bit_at h.nb h.p h.k (take n t)

  pub sound_sized : Sized (size_of h) n (length l.entries)
  sound_sized =
      let b = fit (size_of h) (lent_table t n) l.entries in
      sized (size_of h) n (length l.entries) b (fit_by (size_of h) t n l.entries long) (T→true b (subst (Says l) (sym is_sound) (checked l)).0)

  -- the lent records are all there
  pub lent_few : n ≤ length t
  lent_few = let s = sound_sized in let v = s.limits in omega (arith, s.blocks)

  pub lent_all : n ≡ length (take n t)
  lent_all = sym (length-take-le n t lent_few)

  pub some_blocks : (1 ≤ h.nb) × (h.nb ≤ 64)
  some_blocks = let v = sound_sized.limits in (omega arith, v.nb_most)

  pub lent_in : (i : ℕ) → i < length (take n t) → i < h.nb
  lent_in i k = let s = sound_sized in omega (arith, lent_all, s.blocks)

  lent_is : lent_table t n ≡ take n t
  unfolding lent_table
  lent_is = rw (le-leb n 64 (omega (arith, lent_few))) refl

  seen_at : (i : ℕ) (k : i < h.nb) → sees l i k ≡ at i
  seen_at i k =
      let v = sound_sized.limits in
      seen_is l i k (omega arith) ∙ ap (λ (u : List Block). seen (verdict_at h.nb h.p h.k i (get_or u i unused))) lent_is

  -- the mask of all of them
  pub survey_sound : (i : ℕ) → i ≡ length (take n t) → surveyed (told (mask_below at i)) ≡ survey l
  unfolding surveys
  survey_sound i e =
      let s = sound_sized in let v = s.limits in
      let all : i ≡ h.nb = e ∙ sym lent_all ∙ s.blocks in
      let same : seen_from l 0 i ≡ bits_from at 0 i = seen_bits l at i 0 (λ j k. seen_at j (omega arith)) in
      ap surveyed (told_views (bits_from at 0 i) (omega (arith, bits_length at 0 i)) ∙ ap views (sym same ∙ ap (seen_from l 0) all)) ∙ survey_by l sound is_sound
