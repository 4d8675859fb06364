-- The call is made on the table that was loaded, and what it gives back is stored.
use Rattle.std.proofs.Common.{refl, ap}
use Rattle.portal.specs.Promises.{lent}
use Rattle.portal.proofs.lend.Goals as goal

pub returns : goal.returns
returns g c = record {
  outcome = c.call-after.result;
  entries = _;
  left = _;
  same = refl;
  met = rw c.load.ensures at c.call-after.ensures;
  told = refl;
  leaves = ap (λ t. lent c.call-after.result.head t c.call-after.new.arg5) c.store.ensures;
}
