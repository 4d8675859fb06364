-- The rules over plain numbers are those of the line that was lent, whatever its entries.
use Rattle.std.proofs.Common.{◌≡◌, ℕ, ◌-◌, ◌*◌, ◌%◌, ◌<◌, ◌≤◌, Bool, true, false, not, ◌&&◌, eqb, leb, List, [], map, get_or, drop, count_by, sym, refl, ap, ◌∙◌, ap₂, mod-lt}
use Rattle.book.specs.Total.{all}
use Rattle.book.specs.Sizes.{Size, current_turn}
use Rattle.book.proofs.Choice.{cases, T→true, not→false}
use Rattle.line.specs.declared.Block.{Block}
use Rattle.line.specs.declared.Desk.{Desk as LentDesk}
use Rattle.line.specs.declared.Head.{Head}
use Rattle.line.specs.Line.{Line, desk_of, unused, size_of, record_of}
use Rattle.line.specs.Rules as R
use Rattle.byvalue.specs.Lent.{lent_table, line_of}
use Rattle.line.specs.Tests.{desk_obeys, obeys1, is_idle, is_recent, no_clash, obeys2, obeys3, obeys4, obeys5, obeys6, obeys7}
use Rattle.line.specs.Check.{holds}
use Rattle.byvalue.proofs.Lent.{lent_at}
use Rattle.rules.proofs.Stages.{of_desk, idle_of}
use Rattle.rules.specs.Holders.{held_turn}
use Rattle.rules.proofs.Walks.{rest, all_cong, held_by_turn, turn_few}

-- rule 3 of a desk over the table, but for the last test
abbrev pub obeyed : ℕ → ℕ → ℕ → (ℕ → Block) → LentDesk → Bool
obeyed nb ne p here x = leb x.stage 3 && desk_obeys nb ne p (here x.turn) (desk_of x)

abbrev pub free : LentDesk → Bool
free x = is_idle (desk_of x)

module _ (nb ne p : ℕ) (here : ℕ → Block) (x : LentDesk) where
  -- the record of a desk's turn is read only if the turn is current
  same_record : (b c : Block) → (is_recent nb p x.turn ≡ true → b ≡ c) → desk_obeys nb ne p b (desk_of x) ≡ desk_obeys nb ne p c (desk_of x)
  same_record b c k =
      cases (is_recent nb p x.turn)
      (λ s. ap (λ (r : Block). desk_obeys nb ne p r (desk_of x)) (k (T→true (is_recent nb p x.turn) s)))
      (λ s. let e = not→false (is_recent nb p x.turn) s in of_desk (λ y. desk_obeys nb ne p b y ≡ desk_obeys nb ne p c y) x refl (rw e) (λ h q. rw (q, e)))

  pub obeyed_at : (c : Block) (r : Bool) → (is_recent nb p x.turn ≡ true → c ≡ here x.turn) → r ≡ (leb x.stage 3 && desk_obeys nb ne p c (desk_of x)) → obeyed nb ne p here x ≡ r
  obeyed_at c r k e = ap (λ (b : Bool). leb x.stage 3 && b) (same_record (here x.turn) c (λ s. sym (k s))) ∙ sym e

  -- an idle desk passes both tests
  pub obeyed_idle : x.stage ≡ 0 → obeyed nb ne p here x ≡ true
  obeyed_idle e = rw (idle_of x e, e)

pub free_idle : (x : LentDesk) → x.stage ≡ 0 → free x ≡ true
free_idle x e = rw (idle_of x e)

-- what the walk over the desks found is rule 3
module _ (z : Size) (p : ℕ) (here : ℕ → Block) (xs : List LentDesk) where
  abbrev pub one_by_one : Bool
  one_by_one = rest (obeyed z.nb z.ne p here) free z.t xs

  pub rule3_broken : one_by_one ≡ false → false ≡ obeys3 z p here xs
  unfolding obeys3
  rule3_broken e = sym (ap (λ (b : Bool). b && no_clash xs) e)

  pub rule3_pairs : (r : Bool) → one_by_one ≡ true → no_clash xs ≡ not r → not r ≡ obeys3 z p here xs
  unfolding obeys3
  rule3_pairs r e k = sym (ap₂ ◌&&◌ e k)

  -- it reads the records of turns only
  pub rule3_same : (there : ℕ → Block) → ((t : ℕ) → there t ≡ here t) → obeys3 z p there xs ≡ obeys3 z p here xs
  unfolding obeys3
  rule3_same there e =
      ap (λ (b : Bool). b && all free (drop z.t xs) && no_clash xs)
      (all_cong (obeyed z.nb z.ne p there) (obeyed z.nb z.ne p here) (λ x. ap (λ (c : Block). leb x.stage 3 && desk_obeys z.nb z.ne p c (desk_of x)) (e x.turn)) xs)

-- the lent line; no rule reads its entries
abbrev pub bare : Head → List Block → Line
bare h tb = line_of h tb h.nb []

-- the records of the blocks stand in the lent table as in the table of 64
module _ (h : Head) (tb : List Block) (some : 0 < h.nb) (few : h.nb ≤ 64) where
  record_at_lem : (i : ℕ) → i < h.nb → get_or (lent_table tb h.nb) i unused ≡ get_or tb i unused
  record_at_lem i b = lent_at h.nb few tb i unused b

  record_of_lem : (u : ℕ) → record_of (size_of h) (lent_table tb h.nb) u ≡ record_of (size_of h) tb u
  unfolding record_of
  record_of_lem u = record_at_lem (u % h.nb) (mod-lt u some)

  -- ---- the head

  pub rule1 : holds (bare h tb) 64 R.rule1 ≡ obeys1 h.nb h.p h.k
  unfolding holds
  rule1 = refl

  pub rule2 : holds (bare h tb) 64 R.rule2 ≡ obeys2 (record_of (size_of h) tb h.k) h.reading
  unfolding holds
  rule2 = ap (λ (c : Block). obeys2 c h.reading) (record_of_lem h.k)

  pub rule3 : holds (bare h tb) 64 R.rule3 ≡ obeys3 (size_of h) h.p (record_of (size_of h) tb) h.desks
  unfolding holds
  rule3 = rule3_same (size_of h) h.p (record_of (size_of h) tb) h.desks (record_of (size_of h) (lent_table tb h.nb)) record_of_lem

  -- ---- block i

  module _ (i : ℕ) (b : i < h.nb) where
    abbrev used : Bool
    used = leb i h.p

    abbrev turn : ℕ
    turn = h.p - (h.p - i) % h.nb

    abbrev c : Block
    c = get_or tb i unused

    pub rule4 : holds (bare h tb) i R.rule4 ≡ obeys4 used c h.nb turn
    unfolding holds current_turn
    rule4 = ap (λ (c : Block). obeys4 used c h.nb turn) (record_at_lem i b)

    pub rule5 : holds (bare h tb) i R.rule5 ≡ obeys5 used c h.ne h.p turn
    unfolding holds current_turn
    rule5 = ap (λ (c : Block). obeys5 used c h.ne h.p turn) (record_at_lem i b)

    pub rule6 : holds (bare h tb) i R.rule6 ≡ obeys6 used c turn
    unfolding holds current_turn
    rule6 = ap (λ (c : Block). obeys6 used c turn) (record_at_lem i b)

    -- as many turns are held as there are desks that hold in it
    pub rule7 : h.p < 65536 * h.nb → holds (bare h tb) i R.rule7 ≡ obeys7 used c (count_by (λ x. eqb x turn) (map held_turn h.desks))
    unfolding holds current_turn
    rule7 k = ap₂ (obeys7 used) (record_at_lem i b) (sym (held_by_turn turn h.desks (turn_few h.nb h.p i few k)))
