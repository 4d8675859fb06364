-- Any two numbers that the promise of lbq_version allows are equal.
use Rattle.std.proofs.Common.{◌≡◌, ℕ, sym, ◌∙◌}
use Rattle.lbq.specs.Version.{version}

pub version_unique : (r s : ℕ) → r ≡ version → s ≡ version → r ≡ s
version_unique r s p q = p ∙ sym q
