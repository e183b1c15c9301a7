-- What the copying code needs.
use Prim.Native.Nat.{ℕ, ◌+◌, ◌*◌, ◌-◌, ◌≤◌, ◌<◌, min, max}
use mathlib.Core.Path.{◌≡◌, refl, sym, ◌∙◌}
use mathlib.Core.List.{List, [], ◌∷◌}
use mathlib.Core.Logic.{inl, inr}
use native.Mathlib.Omega.{arith}
use lib.ListN.{length, take, drop, length-take, length-drop}
use lib.Seq.{paste, take-take}
use borrow.Rule.Slice.PartMut.{put_mid}
use Rattle.std.proofs.lemmas.Slice.{put_mid-paste}
use Rattle.records.specs.declared.extent.Extent.{Extent}
use Rattle.extents.specs.Verdict.{fine}
use Rattle.extents.specs.Extents.{Disk, end, allows}
use Rattle.extents.proofs.ExtentLaws.{Touched, allowed_end, allowed_sound, reach_within}
use Rattle.files.specs.Inner.{lay}
use Rattle.files.proofs.CopyLaws.{lay_none, lay_skip, lay_copy}

module _ (d : Disk) (off stop : ℕ) (e : Extent) where
  module _ (a z m : ℕ) (w : allows d off stop e ≡ fine) (qa : a ≡ max off e.logical) (qz : z ≡ min stop (end e)) (h : a < z) (p : e.phys_block ≡ 0 → ⊥) (y : m ≡ d.block) (pos : 0 < m) where
    touched : Touched off stop e
    touched = record { some = omega arith; real = omega arith }

    pub source : e.phys_block * m + (a - e.logical) + (z - a) ≤ length d.image
    source =
        let b : 0 < d.block = omega arith in
        rw y (omega (arith, reach_within d e _ _ b (allowed_sound d off stop e w touched)))

module _ (d : Disk) (off : ℕ) (e : Extent) (b : List ℕ) where
  pub lay_nothing : min (off + length b) (end e) ≤ max off e.logical → b ≡ lay d off (e ∷ []) b
  lay_nothing h = sym (lay_skip d off e [] b (inl h) ∙ lay_none d off b)

  pub lay_sparse : e.phys_block ≡ 0 → b ≡ lay d off (e ∷ []) b
  lay_sparse h = sym (lay_skip d off e [] b (inr (omega arith)) ∙ lay_none d off b)

  pub lay_pasted : (a z m : ℕ) (out : List ℕ) → allows d off (off + length b) e ≡ fine → a ≡ max off e.logical → z ≡ min (off + length b) (end e) → a < z → (e.phys_block ≡ 0 → ⊥)
      → m ≡ d.block → 0 < m → out ≡ paste b (a - off) (drop (e.phys_block * m + (a - e.logical)) d.image) (z - a) → out ≡ lay d off (e ∷ []) b
  lay_pasted a z m out w qa qz h p y pos r =
      let k : 0 < d.block = omega arith in
      let t = touched d off (off + length b) e a z m w qa qz h p y pos in
      (rw y at r) ∙ sym (lay_copy d off e [] b a (e.phys_block * d.block + (a - e.logical)) (z - a) k t (allowed_sound d off (off + length b) e w t) qa refl (omega arith) ∙ lay_none d off _)

module _ (d : Disk) (off : ℕ) (e : Extent) (b : List ℕ) (a z m : ℕ) (w : allows d off (off + length b) e ≡ fine) (qa : a ≡ max off e.logical) (qz : z ≡ min (off + length b) (end e)) (h : a < z) (p : e.phys_block ≡ 0 → ⊥) (y : m ≡ d.block) (pos : 0 < m) where
  -- where that part of the buffer now holds ys, the bytes of the image
  pub lay_put : (k j : ℕ) (ys : List ℕ) → k ≡ z - a → j ≡ z - a → ys ≡ take j (drop (e.phys_block * m + (a - e.logical)) d.image) → put_mid (a - off) k b ys ≡ lay d off (e ∷ []) b
  lay_put k j ys qk qj qy =
      let s : e.phys_block * m + (a - e.logical) + (z - a) ≤ length d.image = source d off (off + length b) e a z m w qa qz h p y pos in
      let l : k ≡ length (take j (drop (e.phys_block * m + (a - e.logical)) d.image)) = simp (length-take, length-drop) (omega (arith, s)) in
      let r : k ≡ j = omega arith in
      put_mid-paste (a - off) k b ys (take j (drop (e.phys_block * m + (a - e.logical)) d.image)) k qy refl l
      ∙ lay_pasted d off e b a z m (paste b (a - off) (take j (drop (e.phys_block * m + (a - e.logical)) d.image)) k) w qa qz h p y pos (rw (r, ← qj, take-take j j _ (omega arith)))

-- the bytes that are copied lie in the image
pub copy_fits : (image : List ℕ) (bs count off stop : ℕ) (e : Extent) → allows (record { image = image; block = bs; count = count }) off stop e ≡ fine → max off e.logical < min stop (end e) → (e.phys_block ≡ 0 → ⊥) → 0 < bs
    → e.phys_block * bs + (max off e.logical - e.logical) + (min stop (end e) - max off e.logical) ≤ length image
copy_fits image bs count off stop e w h p pos = source (record { image = image; block = bs; count = count }) off stop e _ _ bs w refl refl h p refl pos

pub ruleset laying = (allowed_end, copy_fits, lay_nothing, lay_sparse)
