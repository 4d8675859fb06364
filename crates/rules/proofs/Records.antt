-- A bound of a product.
use Rattle.std.proofs.Common.{ℕ, ◌*◌, ◌≤◌, mul-le-mul}

pub product : (a b m n : ℕ) → a ≤ m → b ≤ n → a * b ≤ m * n
product a b m n h k = mul-le-mul h k
