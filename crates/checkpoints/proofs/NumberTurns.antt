-- The turns of the search for a number.
use Prim.Native.Nat.{ℕ, suc, ◌+◌, ◌-◌, ◌≤◌, ◌<◌}
use mathlib.Core.Path.{◌≡◌, refl, ◌∙◌}
use mathlib.Core.Bool.{Bool, true, false}
use mathlib.Core.List.{List}
use Rattle.std.specs.Prelude.{Option}
use native.Mathlib.Nat.{sub-zero}
use native.Mathlib.Omega.{arith}
use borrow.Author.Rules.{rules}
use borrow.Author.Tests.{eqb-true, eqb-false}
use lib.Dec.{eqb}
use Rattle.error.specs.Answer.{Answer, Ok, Err}
use Rattle.error.specs.declared.Refusal.{Refusal}
use Rattle.error.specs.declared.Refusal.TheVariants.{NoCheckpoint}
use Rattle.error.proofs.Laws.{same, other}
use Rattle.byte_fields.specs.Number.{number_at}
use Rattle.byte_fields.specs.Part.{part_of}
use Rattle.byte_fields.specs.declared.Span.{Span}
use Rattle.obj.specs.declared.reader.Reader.{Reader}
use Rattle.geometry.specs.declared.Geometry.{Geometry}
use Rattle.checkpoints.specs.Checkpoint.{accepted_at, block_place, checkpoint_of}
use Rattle.checkpoints.specs.Numbers.{of_number, earlier, numbered_in, or_no_checkpoint, numbered_of, checkpoint_by}
use Rattle.checkpoints.specs.Inner.{is_number}
use Rattle.checkpoints.specs.declared.superblock.Superblock.{Superblock}
use Rattle.checkpoints.specs.declared.by_number.Choice.{Choice}
use Rattle.checkpoints.specs.declared.by_number.Choice.TheVariants as choice
use Rattle.checkpoints.proofs.Candidate.{accepted_number}
use Rattle.std.specs.Prelude.{None, Some}

module _ (r : Answer ℕ) (a : Answer ℕ) (xid : ℕ) (p : r ≡ a) where
  pub number_is : (x : ℕ) → r ≡ Ok x → eqb x xid ≡ is_number a xid
  number_is x q = rw (← p, q)

  pub number_is_not : (e : Refusal) → r ≡ Err e → false ≡ is_number a xid
  number_is_not e q = rw (← p, q)

-- a block by its number
module _ (r : Reader) (image : List ℕ) (ring xid : ℕ) (place : Span) (b : List ℕ) (d : Bool) (p : b ≡ part_of image place) (n : d ≡ is_number (number_at 8 b 16) xid) where
  is_own : (sb : Superblock) → accepted_at r image ring place ≡ Some sb → eqb sb.xid xid ≡ d
  is_own sb e = rw (n, p, accepted_number r image ring place sb e)

  of_number_lem : (z : Bool) → d ≡ z → (a : Option Superblock) → accepted_at r image ring place ≡ a → (z ≡ true → a ≡ of_number xid a) × (z ≡ false → None ≡ of_number xid a)
  of_number_lem z e (Some sb) q = (
    λ t. same _ _ _ _ _ (eqb-true sb.xid xid (is_own sb q ∙ (e ∙ t))) refl,
    λ f. other _ _ _ _ _ (eqb-false sb.xid xid (is_own sb q ∙ (e ∙ f))) refl,
  )
  of_number_lem z e None q = (λ t. refl, λ f. refl)

  pub has_it : (z : Option Superblock) → d ≡ true → z ≡ accepted_at r image ring place → z ≡ of_number xid (accepted_at r image ring place)
  has_it z t h = h ∙ (of_number_lem d refl (accepted_at r image ring place) refl).0 t

  pub has_it_not : d ≡ false → None ≡ of_number xid (accepted_at r image ring place)
  has_it_not f = (of_number_lem d refl (accepted_at r image ring place) refl).1 f

pub ruleset numbering = (rules, number_is, number_is_not, has_it, has_it_not)

-- a turn of the loop
module _ (r : Reader) (image : List ℕ) (start ring xid i : ℕ) (whole : Option Superblock) (p : numbered_in r image start ring xid (ring - i) i ≡ whole) where
  pub numbered_done : ring ≤ i → None ≡ whole
  unfolding numbered_in
  numbered_done h = let q : ring - i ≡ 0 = omega arith in rw q at p

  module _ (h : i < ring) (s : Span) (x : Option Superblock) (l : s ≡ block_place r start i) (e : x ≡ of_number xid (accepted_at r image ring s)) where
    turn : earlier x (numbered_in r image start ring xid (ring - (i + 1)) (i + 1)) ≡ whole
    unfolding numbered_in
    turn = let q : ring - i ≡ suc (ring - (i + 1)) = omega arith in rw (e, l) (rw q at p)

    pub numbered_here : (sb : Superblock) → x ≡ Some sb → Some sb ≡ whole
    numbered_here sb q = rw q at turn

    pub numbered_on : x ≡ None → numbered_in r image start ring xid (ring - (i + 1)) (i + 1) ≡ whole
    numbered_on q = rw q at turn

pub numbered_start : (r : Reader) (image : List ℕ) (start ring xid : ℕ) → numbered_in r image start ring xid (ring - 0) 0 ≡ numbered_in r image start ring xid ring 0
numbered_start r image start ring xid = rw sub-zero

pub ruleset numbered = (rules, numbered_start, numbered_done, numbered_here, numbered_on)

-- what it gives as an answer
module _ (r : Option Superblock) (a : Option Superblock) (p : r ≡ a) where
  pub by_number_got : (x : Superblock) → r ≡ Some x → Ok x ≡ or_no_checkpoint a
  by_number_got x q = rw (← p, q)

  pub by_number_no : r ≡ None → Err NoCheckpoint ≡ or_no_checkpoint a
  by_number_no q = rw (← p, q)

module _ (k : Choice) (image : List ℕ) (g : Geometry) (z : Answer Superblock) where
  pub at_latest_lem : k ≡ choice.Latest → z ≡ checkpoint_of image g → z ≡ checkpoint_by k image g
  at_latest_lem e h = rw e h

  pub at_number_lem : (x : ℕ) → k ≡ choice.Number x → z ≡ numbered_of x image g → z ≡ checkpoint_by k image g
  at_number_lem x e h = rw e h

pub ruleset chosen = (rules, by_number_got, by_number_no, at_latest_lem, at_number_lem)
