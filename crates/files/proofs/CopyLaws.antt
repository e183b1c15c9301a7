-- The turns of the copying pass.
use Prim.Native.Nat.{ℕ, ◌+◌, ◌*◌, ◌-◌, ◌≤◌, ◌<◌, min, max}
use mathlib.Core.Path.{◌≡◌, refl, sym, ap, ◌∙◌}
use mathlib.Core.List.{List, [], ◌∷◌, ◌++◌}
use mathlib.Core.Logic.{◌⊎◌, inl, inr}
use native.Mathlib.Nat.{add-sub_cancel_left}
use native.Mathlib.Omega.{arith}
use lib.ListN.{length, get_or, take, drop, replicate, length-take, length-drop, length-replicate, get_or-replicate, get_or-append}
use lib.Seq.{get_or-take, get_or-drop, get_or-append-add, paste, length-paste, length_paste_head}
use Rattle.error.proofs.Laws.{at_most_lem, above, same, other}
use Rattle.extents.specs.Verdict.{fine}
use Rattle.files.proofs.Spans.{span_length, span_at_lem, span_same, span_self}
use Rattle.extents.proofs.Verdicts.{le_or_gt, passed}
use Rattle.records.specs.declared.extent.Extent.{Extent}
use Rattle.extents.specs.Extents.{Disk, start, end, in_order}
use Rattle.files.specs.Read.{over, byte_at, span}
use Rattle.extents.proofs.ExtentLaws.{Touched, Sound, reach_within}
use Rattle.files.specs.Inner.{lay}

module _ (b s : List ℕ) (at n k : ℕ) (hb : at + n ≤ length b) (hs : n ≤ length s) where
  paste_before : k < at → get_or (paste b at s n) k 0 ≡ get_or b k 0
  paste_before h =
      get_or-append (take at b ++ take n s) (drop (at + n) b) 0 k (rw (length_paste_head b at s n (omega arith) hs) (omega arith))
      ∙ get_or-append (take at b) (take n s) 0 k (simp length-take (omega arith)) ∙ get_or-take at b k 0 h

  paste_in : at ≤ k → k < at + n → get_or (paste b at s n) k 0 ≡ get_or s (k - at) 0
  paste_in h l =
      let q : k ≡ length (take at b) + (k - at) = simp length-take (omega arith) in
      let m : k - at < n = omega arith in
      get_or-append (take at b ++ take n s) (drop (at + n) b) 0 k (rw (length_paste_head b at s n (omega arith) hs) l)
      ∙ ap (λ (j : ℕ). get_or (take at b ++ take n s) j 0) q ∙ get_or-append-add (take at b) (take n s) (k - at) 0 ∙ get_or-take n s (k - at) 0 m

  paste_after : at + n ≤ k → get_or (paste b at s n) k 0 ≡ get_or b k 0
  paste_after h =
      let e : length (take at b ++ take n s) ≡ at + n = length_paste_head b at s n (omega arith) hs in
      let q : k ≡ length (take at b ++ take n s) + (k - (at + n)) = omega arith in
      let r : at + n + (k - (at + n)) ≡ k = omega arith in
      ap (λ (j : ℕ). get_or (paste b at s n) j 0) q ∙ get_or-append-add (take at b ++ take n s) (drop (at + n) b) (k - (at + n)) 0 ∙ get_or-drop (at + n) b (k - (at + n)) 0 ∙ rw r

module _ (d : Disk) (e : Extent) (i z : ℕ) where
  pub over_not : (i < e.logical) ⊎ (end e ≤ i) → over d i e z ≡ z
  unfolding over
  over_not (inl h) = sym (above _ _ _ _ _ h refl)
  over_not (inr h) = sym (at_most_lem _ _ _ _ _ (omega arith) (at_most_lem _ _ _ _ _ h refl))

  pub over_sparse : e.phys_block ≤ 0 → over d i e z ≡ z
  unfolding over
  over_sparse h = go (le_or_gt e.logical i) (le_or_gt (end e) i)
    where
      go : (e.logical ≤ i) ⊎ (i < e.logical) → (end e ≤ i) ⊎ (i < end e) → over d i e z ≡ z
      go (inr u) v = sym (above _ _ _ _ _ u refl)
      go (inl u) (inl v) = sym (at_most_lem _ _ _ _ _ u (at_most_lem _ _ _ _ _ v refl))
      go (inl u) (inr v) = sym (at_most_lem _ _ _ _ _ u (above _ _ _ _ _ v (same _ _ _ _ _ (omega arith) refl)))

  pub over_is : e.logical ≤ i → i < end e → 0 < e.phys_block → over d i e z ≡ get_or d.image (e.phys_block * d.block + (i - e.logical)) 0
  unfolding over
  over_is h k p = sym (at_most_lem _ _ _ _ _ h (above _ _ _ _ _ k (other _ _ _ _ _ (λ q. omega arith) refl)))

module _ (d : Disk) (off : ℕ) where
  pub lay_none : (b : List ℕ) → lay d off [] b ≡ b
  unfolding lay byte_at
  lay_none b = span_self off b

  pub lay_start : (es : List Extent) (n : ℕ) → lay d off es (replicate n 0) ≡ span (λ i. byte_at d i es 0) off n
  unfolding lay
  lay_start es n =
      rw (length-replicate {A = ℕ} n 0)
      (span_same _ _ off n (λ k h. let q : ◌≡◌ {A = ℕ} (get_or (replicate n 0) (off + k - off) 0) 0 = rw add-sub_cancel_left (get_or-replicate n k 0 0 h) in rw q))

  -- b, where e is laid over it, is c
  lay_to : (e : Extent) (es : List Extent) (b c : List ℕ) → length c ≡ length b → ((k : ℕ) → k < length b → over d (off + k) e (get_or b k 0) ≡ get_or c k 0) → lay d off (e ∷ es) b ≡ lay d off es c
  unfolding lay byte_at
  lay_to e es b c l h =
      rw l (span_same _ _ off (length b) (λ k n. let q : off + k - off ≡ k = add-sub_cancel_left off k in rw (q, h k n)))

  pub lay_skip : (e : Extent) (es : List Extent) (b : List ℕ) → (min (off + length b) (end e) ≤ max off e.logical) ⊎ (e.phys_block ≤ 0) → lay d off (e ∷ es) b ≡ lay d off es b
  lay_skip e es b (inr h) = lay_to e es b b refl (λ k n. over_sparse d e (off + k) _ h)
  lay_skip e es b (inl h) = lay_to e es b b refl (λ k n. over_not d e (off + k) _ (go k n (le_or_gt e.logical (off + k))))
    where
      go : (k : ℕ) → k < length b → (e.logical ≤ off + k) ⊎ (off + k < e.logical) → (off + k < e.logical) ⊎ (end e ≤ off + k)
      go k n (inr t) = inl t
      go k n (inl t) = inr (omega arith)

  -- no extent of an ascending list that starts past the buffer changes it
  pub lay_stop : (at : ℕ) (es : List Extent) (b : List ℕ) → off + length b ≤ at → in_order start at es ≡ fine → lay d off es b ≡ b
  unfolding in_order
  lay_stop at [] b h c = lay_none b
  lay_stop at (e ∷ es) b h c =
      let q = passed _ _ _ _ _ c in
      lay_skip e es b (inl (omega (arith, q.0))) ∙ lay_stop e.logical es b (omega (arith, q.0)) q.1

  -- a touched extent's bytes are pasted in
  pub lay_copy : (e : Extent) (es : List Extent) (b : List ℕ) (a f n : ℕ) → 0 < d.block → Touched off (off + length b) e → Sound d off (off + length b) e
      → a ≡ max off e.logical → f ≡ e.phys_block * d.block + (a - e.logical) → a + n ≡ min (off + length b) (end e)
      → lay d off (e ∷ es) b ≡ lay d off es (paste b (a - off) (drop f d.image) n)
  lay_copy e es b a f n pos t s qa qf qn =
      lay_to e es b (paste b (a - off) (drop f d.image) n) (length-paste b (a - off) (drop f d.image) n hb hs) (λ k l. go k l (le_or_gt a (off + k)) (le_or_gt (a + n) (off + k)))
    where
      hb : a - off + n ≤ length b
      hb = omega (arith, t.some)

      inside : f + n ≤ length d.image
      inside = omega (arith, t.some, reach_within d e _ _ pos s)

      hs : n ≤ length (drop f d.image)
      hs = simp length-drop (omega (arith, inside))

      go : (k : ℕ) → k < length b → (a ≤ off + k) ⊎ (off + k < a) → (a + n ≤ off + k) ⊎ (off + k < a + n) → over d (off + k) e (get_or b k 0) ≡ get_or (paste b (a - off) (drop f d.image) n) k 0
      go k l (inr u) v = over_not d e (off + k) _ (inl (omega (arith, t.some))) ∙ sym (paste_before b (drop f d.image) (a - off) n k hb hs (omega (arith, t.some)))
      go k l (inl u) (inl v) = over_not d e (off + k) _ (inr (omega (arith, t.some))) ∙ sym (paste_after b (drop f d.image) (a - off) n k hb hs (omega (arith, t.some)))
      go k l (inl u) (inr v) =
          let w : f + (k - (a - off)) ≡ e.phys_block * d.block + (off + k - e.logical) = omega (arith, t.some) in
          over_is d e (off + k) _ (omega (arith, t.some)) (omega (arith, t.some)) t.real
          ∙ sym (paste_in b (drop f d.image) (a - off) n k hb hs (omega (arith, t.some)) (omega (arith, t.some)) ∙ get_or-drop f d.image (k - (a - off)) 0 ∙ rw w)

  -- one extent, then the rest
  pub lay_cons : (e : Extent) (es : List Extent) (b : List ℕ) → lay d off (e ∷ es) b ≡ lay d off es (lay d off (e ∷ []) b)
  unfolding lay byte_at
  lay_cons e es b =
      lay_to e es b (lay d off (e ∷ []) b) (span_length _ _ _)
      (λ k n. let q : off + k - off ≡ k = add-sub_cancel_left off k in rw (span_at_lem (λ i. over d i e (get_or b (i - off) 0)) off (length b) k n, q))

  pub lay_length : (es : List Extent) (b : List ℕ) → length (lay d off es b) ≡ length b
  unfolding lay
  lay_length es b = span_length _ _ _

  -- an extent that starts past the buffer ends the work
  pub lay_halt : (at : ℕ) (e : Extent) (es : List Extent) (b : List ℕ) → in_order start at (e ∷ es) ≡ fine → off + length b ≤ e.logical → lay d off (e ∷ es) b ≡ b
  unfolding in_order
  lay_halt at e es b c h = lay_skip e es b (inl (omega arith)) ∙ lay_stop e.logical es b h (passed _ _ _ _ _ c).1
