-- Sums of nodes, which stay at 2^64 − 1.
use Prim.Native.Nat.{ℕ, ◌+◌, ◌-◌, ◌^◌, ◌≤◌, ◌<◌, min}
use mathlib.Core.Path.{◌≡◌}
use native.Mathlib.Omega.{arith}
use borrow.Author.Rules.{rules}
use Rattle.calls.specs.Nodes.{capped}

pub plus_most : (a n : ℕ) → a < 2 ^ 64 → 18446744073709551615 - a < n → 18446744073709551615 ≡ capped (a + n)
unfolding capped
plus_most a n h k = omega arith

pub plus_fits : (a n : ℕ) → n ≤ 18446744073709551615 - a → a < 2 ^ 64 → a + n ≡ capped (a + n)
unfolding capped
plus_fits a n h k = omega arith

-- capping at each sum is capping at the end
pub cap_cap : (a n m : ℕ) → capped (capped (a + n) + m) ≡ capped (a + (n + m))
unfolding capped
cap_cap a n m = omega arith

pub capped_twice : (n : ℕ) → capped (capped n) ≡ capped n
unfolding capped
capped_twice n = omega arith

-- no node more
pub plus_none : (a : ℕ) → a < 2 ^ 64 → a ≡ capped (a + 0)
unfolding capped
plus_none a h = omega arith

pub ruleset sums = (rules, plus_most, plus_fits)
