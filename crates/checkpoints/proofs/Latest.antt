-- The latest of n blocks from the k-th on, by induction on n.
use Prim.Native.Nat.{ℕ, zero, suc, ◌+◌, ◌≤◌, ◌<◌}
use mathlib.Core.Path.{◌≡◌, refl, sym, ◌∙◌}
use mathlib.Core.List.{List}
use Rattle.std.specs.Prelude.{Option, None, Some}
use native.Mathlib.Decide.{ℕ_discrete}
use native.Mathlib.Omega.{arith}
use Rattle.error.proofs.Laws.{le_cases}
use Rattle.obj.specs.declared.reader.Reader.{Reader}
use Rattle.checkpoints.specs.Checkpoint.{accepted_at, block_place, prefer, latest_in}
use Rattle.checkpoints.specs.declared.superblock.Superblock.{Superblock}
use Rattle.checkpoints.proofs.Asked.{nothing, same_some}

module _ (r : Reader) (image : List ℕ) (start ring : ℕ) where
  abbrev pub Accepted : ℕ → Superblock → Type 0
  Accepted i sb = accepted_at r image ring (block_place r start i) ≡ Some sb

  -- sb is that of the earliest block of the greatest transaction number among the accepted ones of n blocks from the k-th on
  pub record LatestOf (n k : ℕ) (sb : Superblock) : Type 0 where
    pub own : ℕ
    pub from : k ≤ own
    pub before : own < k + n
    pub accepted : Accepted own sb
    pub greatest : (j : ℕ) (o : Superblock) → k ≤ j → j < k + n → Accepted j o → o.xid ≤ sb.xid
    pub earliest : (j : ℕ) (o : Superblock) → k ≤ j → j < k + n → Accepted j o → o.xid ≡ sb.xid → own ≤ j

  -- none of n blocks from the k-th on is accepted
  abbrev pub NoneOf : ℕ → ℕ → Type 0
  NoneOf n k = (j : ℕ) (o : Superblock) → k ≤ j → j < k + n → Accepted j o → ⊥

  -- what latestIn's answer says
  Says : ℕ → ℕ → Option Superblock → Type 0
  Says n k (Some sb) = LatestOf n k sb
  Says n k None = NoneOf n k

  -- the block first, and what was taken of those after it
  module _ (n k : ℕ) where
    -- an accepted block of suc n is the first or one of the n after it
    pub split : {P : Type 0} (j : ℕ) (o : Superblock) → k ≤ j → j < k + suc n → Accepted j o → (Accepted k o → j ≡ k → P) → (k + 1 ≤ j → j < k + 1 + n → P) → P
    split {P} j o h t a f g = of (ℕ_discrete j k)
      where
        of : Dec (j ≡ k) → P
        of (Dec.yes e) = f (rw e at a) e
        of (Dec.no e) = g (omega arith) (omega arith)

    own_first : (own : Superblock) → Accepted k own →
        ((j : ℕ) (o : Superblock) → k + 1 ≤ j → j < k + 1 + n → Accepted j o → o.xid ≤ own.xid) →
        LatestOf (suc n) k own
    own_first own a f = record {
      own = k;
      from = omega arith;
      before = omega arith;
      accepted = a;
      greatest = λ j o h t x. split j o h t x (λ y e. rw (same_some (sym y ∙ a)) (omega arith)) (λ u v. f j o u v x);
      earliest = λ j o h t x e. h;
    }

    later : (sb : Superblock) → LatestOf n (k + 1) sb → ((o : Superblock) → Accepted k o → o.xid < sb.xid) → LatestOf (suc n) k sb
    later sb l f = record {
      own = l.own;
      from = omega (arith, l.from);
      before = omega (arith, l.before);
      accepted = l.accepted;
      greatest = λ j o h t x. split j o h t x (λ y e. omega (arith, f o y)) (λ u v. l.greatest j o u v x);
      earliest = λ j o h t x e. split j o h t x (λ y q. absurd (omega (arith, f o y))) (λ u v. l.earliest j o u v x e);
    }

    says_first : (a b : Option Superblock) → accepted_at r image ring (block_place r start k) ≡ a → Says n (k + 1) b → Says (suc n) k (prefer a b)
    unfolding Says
    says_first (Some own) (Some other) p l =
        le_cases (Says (suc n) k)
        (λ h. own_first own p (λ j o u v x. omega (arith, l.greatest j o u v x)))
        (λ h. later other l (λ o x. rw (same_some (sym x ∙ p)) h))
    says_first (Some own) None p l = own_first own p (λ j o u v x. absurd (l j o u v x))
    says_first None (Some other) p l = later other l (λ o x. nothing (sym p ∙ x))
    says_first None None p l = λ j o h t x. split j o h t x (λ y q. nothing (sym p ∙ y)) (λ u v. l j o u v x)

  says : (n k : ℕ) → Says n k (latest_in r image start ring n k)
  unfolding latest_in Says
  says zero k = λ j o h t x. omega arith
  says (suc n) k = says_first n k (accepted_at r image ring (block_place r start k)) (latest_in r image start ring n (k + 1)) refl (says n (k + 1))

  pub latest_of : (n k : ℕ) (sb : Superblock) → latest_in r image start ring n k ≡ Some sb → LatestOf n k sb
  unfolding Says
  latest_of n k sb e = rw e at (says n k)

  pub none_of : (n k : ℕ) → latest_in r image start ring n k ≡ None → NoneOf n k
  unfolding Says
  none_of n k p = rw p at (says n k)
