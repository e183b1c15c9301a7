-- The number whose bit pattern a 32-bit number is, as the library gives it.
use Prim.Native.Nat.{ℕ, ◌^◌, ◌<◌}
use mathlib.Core.Path.{◌≡◌, refl}
use borrow.Author.Tests.{lt-ltb, le-ltb}
use lib.IntN.{ℤ}
use mir.Syntax.{w32}
use mir.Val.{to_z, of_z}
use Rattle.std.specs.Int.{cast_signed}
use Rattle.std.proofs.lemmas.Int.{of_z-to_z}
use Rattle.error.proofs.Laws.{le_cases}
use Rattle.inode_record.specs.Inode.{signed_of}

pub cast_is_signed : (x : ℕ) → x < 2 ^ 32 → cast_signed w32 x ≡ signed_of x
unfolding signed_of
cast_is_signed x h = le_cases (λ (z : ℤ). cast_signed w32 x ≡ z) (λ k. rw (lt-ltb x 4294967296 h, le-ltb) refl) (λ k. rw (lt-ltb x 2147483648 k))

pub links_read : (x : ℕ) (z : ℤ) → x < 2 ^ 32 → z ≡ cast_signed w32 x → to_z w32 (of_z w32 z) ≡ signed_of x
links_read x z h e = rw (e, of_z-to_z w32 x h) (cast_is_signed x h)
