-- The earliest of a number among n blocks from the k-th on, by induction on n.
use Prim.Native.Nat.{ℕ, zero, suc, ◌+◌, ◌≤◌, ◌<◌}
use mathlib.Core.Path.{◌≡◌, refl, sym, ap, ◌∙◌}
use mathlib.Core.List.{List}
use Rattle.std.specs.Prelude.{Option, None, Some}
use native.Mathlib.Omega.{arith}
use Rattle.error.proofs.Laws.{eq_cases}
use Rattle.obj.specs.declared.reader.Reader.{Reader}
use Rattle.checkpoints.specs.Checkpoint.{accepted_at, block_place}
use Rattle.checkpoints.specs.Numbers.{of_number, earlier, numbered_in}
use Rattle.checkpoints.specs.declared.superblock.Superblock.{Superblock}
use Rattle.checkpoints.proofs.Asked.{nothing, same_some}
use Rattle.checkpoints.proofs.Latest.{Accepted, split}

module _ (r : Reader) (image : List ℕ) (start ring x : ℕ) where
  -- sb is that of the earliest accepted block of the number x among n blocks from the k-th on
  pub record NumberedOf (n k : ℕ) (sb : Superblock) : Type 0 where
    pub own : ℕ
    pub from : k ≤ own
    pub before : own < k + n
    pub accepted : Accepted r image start ring own sb
    pub number : sb.xid ≡ x
    pub earliest : (j : ℕ) (o : Superblock) → k ≤ j → j < k + n → Accepted r image start ring j o → o.xid ≡ x → own ≤ j

  -- no accepted one of n blocks from the k-th on has it
  abbrev pub NoneOf : ℕ → ℕ → Type 0
  NoneOf n k = (j : ℕ) (o : Superblock) → k ≤ j → j < k + n → Accepted r image start ring j o → o.xid ≡ x → ⊥

  Says : ℕ → ℕ → Option Superblock → Type 0
  Says n k (Some sb) = NumberedOf n k sb
  Says n k None = NoneOf n k

  module _ (n k : ℕ) where
    -- the first block is none of the number's
    later : (b : Option Superblock) → ((o : Superblock) → Accepted r image start ring k o → o.xid ≡ x → ⊥) → Says n (k + 1) b → Says (suc n) k b
    unfolding Says
    later (Some sb) f l = record {
      own = l.own;
      from = omega (arith, l.from);
      before = omega (arith, l.before);
      accepted = l.accepted;
      number = l.number;
      earliest = λ j o h t a e. split r image start ring n k j o h t a (λ y q. absurd (f o y e)) (λ u v. l.earliest j o u v a e);
    }
    later None f l = λ j o h t a e. split r image start ring n k j o h t a (λ y q. f o y e) (λ u v. l j o u v a e)

    says_first : (a b : Option Superblock) → accepted_at r image ring (block_place r start k) ≡ a → Says n (k + 1) b → Says (suc n) k (earlier (of_number x a) b)
    unfolding Says
    says_first (Some own) b p l =
        eq_cases (λ (o : Option Superblock). Says (suc n) k (earlier o b))
        (λ h. record { own = k; from = omega arith; before = omega arith; accepted = p; number = h; earliest = λ j o u v a e. u })
        (λ h. later b (λ o a e. h (ap (λ (s : Superblock). s.xid) (same_some (sym p ∙ a)) ∙ e)) l)
    says_first None b p l = later b (λ o a e. nothing (sym p ∙ a)) l

  says : (n k : ℕ) → Says n k (numbered_in r image start ring x n k)
  unfolding numbered_in Says
  says zero k = λ j o h t a e. omega arith
  says (suc n) k = says_first n k (accepted_at r image ring (block_place r start k)) (numbered_in r image start ring x n (k + 1)) refl (says n (k + 1))

  pub numbered_of_lem : (n k : ℕ) (sb : Superblock) → numbered_in r image start ring x n k ≡ Some sb → NumberedOf n k sb
  unfolding Says
  numbered_of_lem n k sb e = rw e at (says n k)

  pub unnumbered_of : (n k : ℕ) → numbered_in r image start ring x n k ≡ None → NoneOf n k
  unfolding Says
  unnumbered_of n k e = rw e at (says n k)
