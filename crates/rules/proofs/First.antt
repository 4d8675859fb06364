-- The check: UNFIT, or what the head's rules say, and then those of one block after another, each asked over plain numbers.
use Rattle.std.proofs.Common.{◌≡◌, ℕ, suc, ◌+◌, ◌-◌, ◌*◌, ◌<◌, ◌≤◌, Bool, true, false, ltb, List, [], map, length, get_or, take, replicate, if◌then◌else◌, Ok, Err, sym, refl, ap, ◌∙◌, add-one, arith, ltb→lt, get_or-take}
use Rattle.std.proofs.Math.ListN.{length-replicate}
use Rattle.std.proofs.Math.Nat.{sub-zero}
use Rattle.book.proofs.Choice.{and_second}
use Rattle.line.specs.declared.Block.{Block}
use Rattle.line.specs.declared.Fault.{Fault}
use Rattle.line.specs.declared.Head.{Head}
use Rattle.line.specs.Line.{size_of, unused}
use Rattle.line.specs.Rules.{of_blocks, in_order}
use Rattle.line.specs.Check.{Checked, sound, unfit, fit, first_broken, check}
use Rattle.line.specs.Tests.{fitting, is_recent, obeys1}
use Rattle.line.proofs.Cells.{Valid}
use Rattle.line.proofs.Unread.{broken_unread}
use Rattle.byvalue.specs.Lent.{lent_table, line_of}
use Rattle.ring.specs.declared.Ring.{Ring}
use Rattle.rules.specs.Asked.{head_asked, block_asked}
use Rattle.rules.specs.Holders.{held_turn}
use Rattle.rules.proofs.Lengths.{fit_by, sized}
use Rattle.rules.proofs.Plain as P
use Rattle.rules.proofs.Plain.{bare}

-- ---- UNFIT, or the rules in order

module _ (h : Head) (tb : List Block) (n m : ℕ) where
  abbrev answer : Checked
  answer = check (line_of h tb n (replicate m 0))

  -- what is known once the numbers fit
  pub record Fitted : Type 0 where
    pub limits : Valid (size_of h)
    pub same : n ≡ h.nb
    pub order : answer ≡ first_broken (bare h tb) (in_order h.nb)

  module _ (full : length tb ≡ 64) (r : Bool) (said : r ≡ fitting (size_of h) n m) where
    fits_by : fit (size_of h) (lent_table tb n) (replicate m 0) ≡ r
    fits_by = rw (fit_by (size_of h) tb n (replicate m 0) full, length-replicate {A = ℕ} m 0) (sym said)

    pub is_unfit : r ≡ false → unfit ≡ answer
    unfolding check
    is_unfit e = rw (fits_by, e)

    pub is_fit : r ≡ true → Fitted
    unfolding check
    is_fit e =
        let s = sized (size_of h) n m r said e in
        record {
          limits = s.limits;
          same = s.blocks;
          order = rw (fits_by, e)
              (broken_unread (line_of h tb n []) (replicate m 0) (in_order h.nb) ∙ ap (λ (k : ℕ). first_broken (line_of h tb k []) (in_order h.nb)) s.blocks);
        }

-- ---- one answer, and then another

abbrev pub after : Checked → Checked → Checked
after (Ok u) later = later
after (Err f) later = Err f

three : (a b c : Bool) (x y z : Fault) (later : Checked)
    → (if a then (if b then (if c then later else Err z) else Err y) else Err x) ≡ after (if a then (if b then (if c then sound else Err z) else Err y) else Err x) later
three false b c x y z later = refl
three true false c x y z later = refl
three true true false x y z later = refl
three true true true x y z later = refl

four : (a b c d : Bool) (w x y z : Fault) (later : Checked)
    → (if a then (if b then (if c then (if d then later else Err z) else Err y) else Err x) else Err w)
    ≡ after (if a then (if b then (if c then (if d then sound else Err z) else Err y) else Err x) else Err w) later
four false b c d w x y z later = refl
four true b c d w x y z later = three b c d x y z later

-- what the rules of block i and of those above it say
abbrev pub blocks_from : Head → List Block → ℕ → Checked
blocks_from h tb i = first_broken (bare h tb) (of_blocks i (h.nb - i))

module _ (h : Head) (tb : List Block) (v : Valid (size_of h)) where
  some : 0 < h.nb
  some = omega arith

  -- the head's rules, then the blocks'
  pub head_first : first_broken (bare h tb) (in_order h.nb) ≡ after (head_asked h tb) (blocks_from h tb 0)
  unfolding in_order first_broken
  head_first =
      rw (sub-zero h.nb, P.rule1 h tb some v.nb_most, P.rule2 h tb some v.nb_most, P.rule3 h tb some v.nb_most) (search three)

  -- the rules of block i, then those of the blocks above it
  pub block_first : (i : ℕ) → i < h.nb → h.p < 65536 * h.nb
      → blocks_from h tb i ≡ after (block_asked h.nb h.ne h.p (map held_turn h.desks) i (get_or tb i unused)) (blocks_from h tb (i + 1))
  unfolding of_blocks first_broken
  block_first i b k =
      let e : h.nb - i ≡ suc (h.nb - (i + 1)) = omega arith in
      rw (e, add-one, P.rule4 h tb some v.nb_most i b, P.rule5 h tb some v.nb_most i b, P.rule6 h tb some v.nb_most i b, P.rule7 h tb some v.nb_most i b k)
      (search four)

  -- and what the code said of them, over a ring and turns made of the head
  pub block_said : (ring : Ring) (turns : List ℕ) (n i : ℕ) (r : Checked) → ring.nb ≡ h.nb → ring.p ≡ h.p → turns ≡ map held_turn h.desks → n ≡ h.nb → i < n
      → h.p < 65536 * h.nb → r ≡ block_asked ring.nb h.ne ring.p turns i (get_or (take n tb) i unused)
      → blocks_from h tb i ≡ after r (blocks_from h tb (i + 1))
  block_said ring turns n i r blocks p made same b k said =
      let e : r ≡ block_asked h.nb h.ne h.p (map held_turn h.desks) i (get_or tb i unused) =
      said ∙ rw (blocks, p, made, get_or-take n tb i unused b) refl in
      rw e (block_first i (omega arith) k)

-- where the head's rules hold, P has a round
first_kept : (a b c : Bool) (x y z : Fault) → sound ≡ (if a then (if b then (if c then sound else Err z) else Err y) else Err x) → a ≡ true
first_kept true b c x y z e = refl
first_kept false b c x y z e = cc

pub head_sound : (h : Head) (tb : List Block) → sound ≡ head_asked h tb → h.p < 65536 * h.nb
head_sound h tb e =
    let one : obeys1 h.nb h.p h.k ≡ true = first_kept _ _ _ _ _ _ e in
    ltb→lt h.p (65536 * h.nb) (and_second (is_recent h.nb h.p h.k) (ltb h.p (65536 * h.nb)) (rw one tt))

-- past the last block
pub no_more : (h : Head) (tb : List Block) (i : ℕ) → h.nb ≤ i → blocks_from h tb i ≡ sound
unfolding of_blocks first_broken
no_more h tb i k = let e : h.nb - i ≡ 0 = omega arith in rw e
