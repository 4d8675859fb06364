-- The line follows the book: claim. The line asks whether the turn seen is still its block's current one, is not owned,
-- and claimed is still the place seen; the book, whether the row still waits and its turn is above K. The first two are
-- "above K", and above K the rows gone are those below claimed, which the place seen has never passed. A claim that is
-- won marks that row, and claimed, which is the front, grows by one.
use Rattle.std.proofs.Common.{◌≡◌, ℕ, suc, ◌<◌, ◌≤◌, Bool, true, false, not, ◌&&◌, T, eqb, ltb, leb, ◌≢◌, List, length, set, sym, refl, ap, ◌∙◌, le_refl, arith, eqb→eq, ltb→lt, lt→ltb, nltb→le, le-leb}
use Rattle.std.proofs.Math.Arith.{lt→nleb, le→nltb, digits_mod}
use Rattle.std.proofs.Math.Bool.{and-true, and-false}
use Rattle.std.proofs.Math.Dec.{nleb→lt, eqb_refl}
use Rattle.std.proofs.Math.Nat.{mod-le}
use Rattle.words.specs.declared.Answer.TheVariants.{Claimed}
use Rattle.book.specs.Sizes.{block_of, current_turn, is_owned}
use Rattle.book.specs.Steps.{idle, looked, holding, claimed_at}
use Rattle.book.specs.Book.{Book, row_at, row_of, mark_gone}
use Rattle.book.specs.Book as B
use Rattle.book.proofs.Choice.{by_test₂, same_test, eq→eqb, and_first, and_second, and_in}
use Rattle.book.proofs.Rows.{written_is, row_turn, mark_length, mark_label}
use Rattle.line.specs.Line.{Line, Block, Spot, desk_at, size_of, one_claimed, record_of, size_in}
use Rattle.line.specs.Line as L
use Rattle.line.specs.Agrees.{front, Agrees}
use Rattle.line.proofs.DeskMoves.{winnable, claim_step}
use Rattle.line.proofs.Current.{Window, record_same, record_apart, window→current, each_turn}
use Rattle.line.proofs.Cells.{blocks_of}
use Rattle.line.proofs.Front.{Matches, Follows, front_above, front_same, mark_front, pos, near, written_same}
use Rattle.line.proofs.Desks.{rule, sees_not, changed, desk_matches, alone_matches}

-- two tests in the other order, where the second counts only if the first holds
and_swap : (a b c : Bool) → (T a → b ≡ c) → (a && b) ≡ (c && a)
and_swap true b c e = e tt ∙ sym (and-true c)
and_swap false b c e = sym (and-false c)

module _ (l : Line) (b : Book) (g : Agrees (size_of l.head) l b) (d : ℕ) (h : d < l.head.t) (s : Spot) (e : desk_at l.head d ≡ looked s) where
  abbrev p : ℕ
  p = l.head.p

  abbrev t : ℕ
  t = s.turn

  abbrev c : Block
  c = record_of (size_in l) l.table t

  abbrev row : ℕ
  row = row_of (size_in l) t s.place

  low : t ≤ p
  low = (rule l b g d (looked s) e).0

  fits : s.place < l.head.ne
  fits = (rule l b g d (looked s) e).1

  -- ---- the line's test is the book's

  abbrev is_current : Bool
  is_current = eqb (current_turn (size_in l) p (block_of (size_in l) t)) t

  abbrev is_free : Bool
  is_free = not (is_owned (size_in l) p l.head.k (block_of (size_in l) t))

  abbrev is_still : Bool
  is_still = eqb c.claimed s.place

  -- the turn seen is current and not owned exactly above K
  above_test : (is_current && is_free) ≡ ltb l.head.k t
  unfolding is_owned
  above_test =
      let u = current_turn (size_in l) p (block_of (size_in l) t) in
      rw (le-leb (block_of (size_in l) t) p (omega (arith, low, mod-le t l.head.nb)))
      (same_test (is_current && not (leb u l.head.k)) (ltb l.head.k t)
      (λ x. let i = eqb→eq u t (and_first is_current (not (leb u l.head.k)) x) in
      lt→ltb l.head.k t (omega (arith, nleb→lt u l.head.k (and_second is_current (not (leb u l.head.k)) x))))
      (λ x. let i = ltb→lt l.head.k t x in
      rw (window→current (size_in l) p t (pos l b g) (near l b g t (omega arith) low)) (and_in (eqb t t) (not (leb t l.head.k)) (eqb_refl t) (lt→nleb t l.head.k i))))

  -- and there the row waits exactly if claimed is still the place
  still_test : l.head.k < t → is_still ≡ not (row_at b.rows row).gone
  still_test i =
      rw (g.marks t s.place fits, front_above (size_in l) l t i low)
      (same_test is_still (not (ltb s.place c.claimed))
      (λ x. le→nltb s.place c.claimed (omega (arith, eqb→eq c.claimed s.place x)))
      (λ x. eq→eqb c.claimed s.place (omega (arith, g.looks d s e i, nltb→le s.place c.claimed x))))

  win_test : winnable (size_in l) l s ≡ B.winnable (size_in l) b.rows b.k row
  unfolding winnable L.wins B.winnable
  win_test =
      rw (above_test, row_turn (size_in l) t s.place fits, g.turn)
      (and_swap (ltb l.head.k t) is_still (not (row_at b.rows row).gone) (λ i. still_test (ltb→lt l.head.k t i)))

  -- ---- a claim that is won

  module _ (w : T (winnable (size_in l) l s)) where
    above : l.head.k < t
    unfolding winnable L.wins
    above = ltb→lt l.head.k t (rw above_test at (and_first (is_current && is_free) is_still w))

    still : c.claimed ≡ s.place
    unfolding winnable L.wins
    still = eqb→eq c.claimed s.place (and_second (is_current && is_free) is_still w)

    window : Window (size_in l) p t
    window = near l b g t (omega (arith, above)) low

    on_list : row < length b.rows
    on_list =
        let i = (rule l b g d (looked s) e).2 (window→current (size_in l) p t (pos l b g) window) in
        omega (arith, i, written_same l b g t window, written_is (size_in l) b.rows t)

    abbrev tb : List Block
    tb = set l.table (block_of (size_in l) t) (one_claimed c)

    abbrev m : Line
    m = changed l b g d h (holding (claimed_at s)) tb

    kept : (u : ℕ) → Window (size_in l) p u
        → ((record_of (size_in l) tb u).written ≡ (record_of (size_in l) l.table u).written) × ((record_of (size_in l) l.table u).claimed ≤ (record_of (size_in l) tb u).claimed)
    kept =
        each_turn (size_in l) l.table p t (one_claimed c) (pos l b g) (blocks_of (size_in l) l g.lawful) window
        (λ u x. (x.written ≡ (record_of (size_in l) l.table u).written) × ((record_of (size_in l) l.table u).claimed ≤ x.claimed)) (refl, omega arith) (λ u _ _. (refl, le_refl (record_of (size_in l) l.table u).claimed))

    front_won : front (size_in l) m t ≡ suc s.place
    front_won =
        front_above (size_in l) m t above low
        ∙ ap (λ (x : Block). x.claimed) (record_same (size_in l) l.table t (one_claimed c) (pos l b g) (blocks_of (size_in l) l g.lawful)) ∙ ap suc still

    front_other : (u : ℕ) → u ≢ t → front (size_in l) m u ≡ front (size_in l) l u
    front_other u n =
        front_same (size_in l) l m u refl refl refl
        (λ a i. ap (λ (x : Block). x.claimed) (record_apart (size_in l) l.table t (one_claimed c) p u window (near l b g u (omega arith) i) n))

    won_matches : Matches (size_in l) m (record b { rows = mark_gone b.rows row; desks = set b.desks d (holding (claimed_at row)) })
    won_matches =
        desk_matches l b g d h (holding (claimed_at s)) tb (mark_gone b.rows row) kept (sees_not l b g tb (holding (claimed_at s)) (λ x. x))
        (mark_length b.rows row) (λ n. mark_label b.rows row n on_list)
        (mark_front (size_in l) b.rows (front (size_in l) l) (front (size_in l) m) t s.place fits on_list (front_above (size_in l) l t above low ∙ still) front_won front_other g.marks)

  pub claim_follows : Follows (size_in l) (claim_step (size_in l) l d s) (B.claim_step (size_in l) b d row)
  unfolding claim_step B.claim_step
  claim_follows =
      by_test₂ (Follows (size_in l)) (winnable (size_in l) l s) (B.winnable (size_in l) b.rows b.k row) win_test
      (λ w. record { same = ap Claimed (sym (digits_mod t fits)); matches = won_matches w })
      (λ _. record { same = refl; matches = alone_matches l b g d h idle (sees_not l b g l.table idle (λ x. x)) })
