-- What holds of a put, a get, an order, a desk's step and of BADSTEP holds of every deed.
use Rattle.std.proofs.Common.{ℕ}
use Rattle.words.specs.declared.Refusal.TheVariants.{Badstep}
use Rattle.book.specs.Sizes.{Size}
use Rattle.book.specs.Steps.{DeskStep, Deed, put, get, order, desk, unlisted}
use Rattle.book.specs.Book.{Book, Outcome, refuse, desk_at, put_step, order_step, get_step, desk_step, does}

module _ (z : Size) (b : Book) (P : Outcome → Type 0) where
  pub record Deeds : Type 0 where
    pub puts : (a : ℕ) → P (put_step z b a)
    pub gets : P (get_step z b)
    pub orders : (a e : ℕ) → P (order_step z b a e)
    pub desks : (d : ℕ) (s : DeskStep) → P (desk_step z b d s (desk_at b d))
    pub unlists : P (refuse b Badstep)

  pub by_deed : Deeds → (s : Deed) → P (does z b s)
  unfolding does
  by_deed h (put a) = h.puts a
  by_deed h get = h.gets
  by_deed h (order a e) = h.orders a e
  by_deed h (desk d s) = h.desks d s
  by_deed h unlisted = h.unlists
