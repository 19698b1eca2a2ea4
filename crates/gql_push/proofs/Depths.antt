-- How deep one item more nests.
use Rattle.std.proofs.Common.{ℕ, ◌≡◌, true, false, ◌&&◌, ◌≤◌, ◌<◌, arith}
use Rattle.std.specs.Prelude.{max, nat_le}

-- the greater of two numbers is within a bound where both are
pub both_within : (a b n : ℕ) → nat_le (max a b) n ≡ nat_le a n && nat_le b n
both_within a b n = grind arith

-- what is not within a bound is past it
pub past : (a n : ℕ) → nat_le a n ≡ false → n < a
past a n is = grind (arith, is)

pub within : (a n : ℕ) → nat_le a n ≡ true → a ≤ n
within a n is = grind (arith, is)
