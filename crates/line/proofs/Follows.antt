-- The line follows the book: each deed gives the same answer on both, and leaves them agreed; and a line is opened in
-- agreement with the book. The deeds stand in FollowsPut, FollowsGet and FollowsDesks, and that a step keeps a line
-- sound in Sound; what the line says of the book's turns, rows, labels and desks is carried on here.
use Rattle.std.proofs.Common.{◌≡◌, ℕ, zero, suc, ◌*◌, ◌≤◌, T, List, ◌∷◌, map, take, replicate, sym, refl, ap, ◌∙◌, arith, le-ltb}
use Rattle.words.specs.declared.Answer.TheVariants.{Refused}
use Rattle.words.specs.declared.Refusal.TheVariants.{Badstep}
use Rattle.book.specs.Sizes.{Size, block_of, fits}
use Rattle.book.specs.declared.Deed.{Deed}
use Rattle.book.specs.declared.Deed.TheVariants.{Put as put, Get as get, Order as order, Desk as desk, Unlisted as unlisted}
use Rattle.book.specs.Steps.{Desk, idle}
use Rattle.book.specs.Book.{Book}
use Rattle.book.specs.Book as B
use Rattle.book.proofs.Total.{replicate_at}
use Rattle.line.specs.Line.{Line, desk_of, numbers_of, desk_at, unused, record_of, entry_of, label_at, does, opened}
use Rattle.line.specs.Agrees.{as_row, front, Agrees}
use Rattle.line.proofs.Cells.{valid}
use Rattle.line.proofs.Sound.{does_lawful, opened_lawful}
use Rattle.line.proofs.Front.{Follows, agrees_of, stays, at_size, front_is}
use Rattle.line.proofs.Desks.{looked_not}
use Rattle.line.proofs.FollowsPut.{put_follows, order_follows}
use Rattle.line.proofs.FollowsGet.{get_follows}
use Rattle.line.proofs.FollowsDesks.{desk_follows}

-- ---- every deed

module _ (z : Size) (l : Line) (b : Book) where
  deed_follows : (e : Deed) → Agrees z l b → Follows z (does z l e) (B.does z b e)
  unfolding does B.does
  deed_follows (put a) g = put_follows z l b g a
  deed_follows get g = at_size z l b (λ y. Follows y (does y l get) (B.does y b get)) (get_follows l b) g
  deed_follows (order a e) g = order_follows z l b g a e
  deed_follows (desk d s) g = at_size z l b (λ y. Follows y (does y l (desk d s)) (B.does y b (desk d s))) (λ o. desk_follows l b o d s) g
  deed_follows unlisted g = stays z l b g (Refused Badstep 0)

  pub does_follows : (e : Deed) → Agrees z l b → ((does z l e).answer ≡ (B.does z b e).answer) × Agrees z (does z l e).line (B.does z b e).book
  does_follows e g =
      let f = deed_follows e g in
      (f.same, agrees_of z (does z l e).line (B.does z b e).book (does_lawful z l e g.lawful) f.matches)

-- ---- opening

module _ (z : Size) where
  desks_opened : (n m : ℕ) → n ≤ m → replicate n idle ≡ map (λ x. as_row z (desk_of x)) (take n (replicate m (numbers_of idle)))
  unfolding desk_of
  desks_opened zero m h = refl
  desks_opened (suc n) zero h = absurd (omega arith)
  desks_opened (suc n) (suc m) h = ap (λ (r : List (Desk ℕ)). idle ∷ r) (desks_opened n m (omega arith))

  record_opened : (t : ℕ) → record_of z (replicate z.nb unused) t ≡ unused
  unfolding record_of
  record_opened t = replicate_at z.nb (block_of z t) unused

  desk_opened : (d : ℕ) → desk_at (opened z).head d ≡ idle
  unfolding opened desk_of
  desk_opened d = ap desk_of (replicate_at 16 d (numbers_of idle))

  front_opened : (t : ℕ) → front z (opened z) t ≡ 0
  unfolding opened
  front_opened t = front_is z (opened z) t 0 (λ s. absurd (omega arith)) (λ _. refl) (λ s i. absurd (omega arith)) (λ _ _. refl)

  pub opened_agrees : T (fits z) → Agrees z (opened z) (B.opened z)
  unfolding opened B.opened label_at
  opened_agrees f = agrees_of z (opened z) (B.opened z) (opened_lawful z f) (record {
    turn = refl;
    desks = desks_opened z.t 16 (valid z f).t_most;
    rows = rw (record_opened 0) (omega arith);
    labels = λ s low high i. replicate_at (z.nb * z.ne) (entry_of z s.turn s.place) 0;
    marks = λ t q h. rw (front_opened t) (sym (le-ltb q 0 (omega arith)));
    looks = λ d s e h. absurd (looked_not idle (λ x. x) s (sym (desk_opened d) ∙ e));
  })
