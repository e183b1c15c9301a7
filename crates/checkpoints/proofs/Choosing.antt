-- The turns of the choice of a checkpoint: what was taken of the blocks from i on is the latest of them.
use Prim.Native.Nat.{ℕ, suc, ◌+◌, ◌-◌, ◌*◌, ◌^◌, ◌≤◌, ◌<◌}
use mathlib.Core.Path.{◌≡◌, refl, sym, ap, ◌∙◌}
use mathlib.Core.Bool.{Bool, true, false}
use mathlib.Core.List.{List}
use Rattle.std.specs.Prelude.{Option}
use native.Mathlib.Nat.{mul-le-mul_right, sub-zero}
use native.Mathlib.Omega.{arith}
use borrow.Author.Rules.{rules}
use borrow.Author.Tests.{ltb-true}
use lib.Dec.{ltb}
use mir.Syntax.{w64}
use mir.Val.{Fits}
use Rattle.error.specs.Answer.{Ok, Answer}
use Rattle.error.proofs.Laws.{at_most_lem, above}
use Rattle.byte_fields.specs.Number.{number_at}
use Rattle.byte_fields.specs.Part.{part_of}
use Rattle.byte_fields.specs.declared.Span.{Span}
use Rattle.obj.specs.declared.reader.Reader.{Reader}
use Rattle.checkpoints.specs.Checkpoint.{accepted_at, block_place, prefer, latest_in}
use Rattle.checkpoints.specs.Inner.{Older}
use Rattle.checkpoints.specs.declared.superblock.Superblock.{Superblock}
use Rattle.checkpoints.proofs.Candidate.{accepted_number}
use Rattle.std.specs.Prelude.{None, Some}

pub older_not : (b : List ℕ) (best : Option Superblock) → Older b best false
older_not b best = record { known = λ e. absurd (let z : ◌≡◌ {A = ℕ} 0 1 = cc in omega arith) }

pub older_by : (b : List ℕ) (best : Option Superblock) (sb : Superblock) (r : Answer ℕ) (xid : ℕ) → best ≡ Some sb → r ≡ number_at 8 b 16 → r ≡ Ok xid → Older b best (ltb xid sb.xid)
older_by b best sb r xid p q e = record { known = λ t. (sb, (xid, (p, sym q ∙ e, ltb-true xid sb.xid t))) }

-- a block older than what was taken changes nothing
module _ (r : Reader) (image : List ℕ) (ring : ℕ) (place : Span) where
  accepted_xid : (xid : ℕ) (own : Superblock) → number_at 8 (part_of image place) 16 ≡ Ok xid → accepted_at r image ring place ≡ Some own → own.xid ≡ xid
  accepted_xid xid own n e = let q = sym (accepted_number r image ring place own e) ∙ n in cc

  passed_over : (sb : Superblock) (xid : ℕ) → number_at 8 (part_of image place) 16 ≡ Ok xid → xid < sb.xid → (a : Option Superblock) → accepted_at r image ring place ≡ a → Some sb ≡ prefer a (Some sb)
  passed_over sb xid n h (Some own) e = above _ _ _ _ _ (omega (arith, accepted_xid xid own n e)) refl
  passed_over sb xid n h None e = refl

  pub take_older : (b : List ℕ) (best : Option Superblock) (d : Bool) → b ≡ part_of image place → Older b best d → d ≡ true → best ≡ prefer (accepted_at r image ring place) best
  take_older b best d p o t =
      let k = o.known t in
      let n : number_at 8 (part_of image place) 16 ≡ Ok k.1.0 = rw p at k.1.1.1 in
      rw k.1.1.0 (passed_over k.0 k.1.0 n k.1.1.2 (accepted_at r image ring place) refl)

-- the better of two
module _ (x best : Option Superblock) (a : Option Superblock) (p : x ≡ a) where
  pub take_own : (own other : Superblock) → x ≡ Some own → best ≡ Some other → other.xid ≤ own.xid → Some own ≡ prefer a best
  take_own own other q s h = rw (← p, q, s) (at_most_lem _ _ _ _ _ h refl)

  pub take_other : (own other : Superblock) → x ≡ Some own → best ≡ Some other → own.xid < other.xid → Some other ≡ prefer a best
  take_other own other q s h = rw (← p, q, s) (above _ _ _ _ _ h refl)

  pub take_first : (own : Superblock) → x ≡ Some own → best ≡ None → Some own ≡ prefer a best
  take_first own q s = rw (← p, q, s)

  pub take_none : x ≡ None → best ≡ prefer a best
  take_none q = rw (← p, q)

pub ruleset choices = (rules, older_not, older_by, take_older, take_own, take_other, take_first, take_none)

-- the turns of the loop
module _ (r : Reader) (image : List ℕ) (start ring : ℕ) where
  pub latest_start : None ≡ latest_in r image start ring (ring - ring) ring
  unfolding latest_in
  latest_start = let q : ring - ring ≡ 0 = omega arith in rw q

  pub latest_turn : (i : ℕ) (s : Span) (best : Option Superblock) (z : Option Superblock) → 0 < i → i ≤ ring → s ≡ block_place r start (i - 1) → best ≡ latest_in r image start ring (ring - i) i →
      z ≡ prefer (accepted_at r image ring s) best → z ≡ latest_in r image start ring (ring - (i - 1)) (i - 1)
  unfolding latest_in
  latest_turn i s best z h k l p e =
      let q : ring - (i - 1) ≡ suc (ring - i) = omega arith in
      let t : i - 1 + 1 ≡ i = omega arith in
      rw (q, t, ← p, ← l) e

  pub latest_done : (i : ℕ) (best : Option Superblock) → i ≤ 0 → best ≡ latest_in r image start ring (ring - i) i → best ≡ latest_in r image start ring ring 0
  latest_done i best h p = let q : i ≡ 0 = omega arith in rw (q, sub-zero) at p

-- a block of the area lies before its end
module _ (start ring size i : ℕ) (h : start + ring * size < 2 ^ 64) (k : i < ring) where
  scaled : i * size ≤ ring * size
  scaled = mul-le-mul_right size (omega arith)

  pub block_scaled : Fits w64 (i * size)
  block_scaled = record { fits = omega (arith, scaled) }

  pub block_starts : Fits w64 (start + i * size)
  block_starts = record { fits = omega (arith, scaled) }

-- what was answered of a place s that is u
module _ (r : Reader) (image : List ℕ) (ring : ℕ) (s u : Span) where
  pub at_place : (z : Option Superblock) → s ≡ u → z ≡ accepted_at r image ring s → z ≡ accepted_at r image ring u
  at_place z e h = rw e at h

pub ruleset blocks = (rules, block_scaled, block_starts, at_place)
