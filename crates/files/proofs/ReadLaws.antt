-- THE LAW of file reads: where the whole file is read, every read is a part of it.
use Prim.Native.Nat.{ℕ, ◌+◌, ◌-◌, ◌^◌, ◌≤◌, ◌<◌, min}
use mathlib.Core.Path.{◌≡◌, refl, sym, ap, ◌∙◌}
use mathlib.Core.List.{List, [], ◌∷◌, ◌++◌}
use mathlib.Core.Logic.{◌⊎◌, inl, inr}
use native.Mathlib.Nat.{mul-le-mul_right, zero-add}
use native.Mathlib.Omega.{arith}
use lib.ListN.{length, take, drop, drop_of_length-le}
use lib.Seq.{take-nil, drop-drop, take-add}
use Rattle.error.specs.Answer.{Answer, Ok}
use Rattle.error.proofs.Laws.{at_most_lem, above}
use Rattle.extents.specs.Verdict.{fine}
use Rattle.extents.specs.Extents.{Disk, start, end, in_order, apart, ascending, seek, since, counted, reach, allows, decide}
use Rattle.extents.proofs.Verdicts.{was_most, was_above, le_or_gt, passed, went}
use Rattle.extents.proofs.ExtentLaws.{blocks_mono, block_below, decide_stop, decide_goes, seek_takes, seek_stays, Touched, Sound, lies_is, lies_within, allowed_end, allowed_sound, sound_allowed}
use Rattle.records.specs.declared.extent.Extent.{Extent}
use Rattle.files.specs.Read.{over, byte_at, bytes, read_at, read_all}
use Rattle.files.proofs.Spans.{span_length, span_part}

-- a part of what can be read can be read
reach_part : (d : Disk) (e : Extent) (a b c p : ℕ) → 0 < d.block → length d.image ≤ 2 ^ 64 → a < b → b ≤ c → reach d e p c ≡ fine → reach d e a b ≡ fine
unfolding reach
reach_part d e a b c p pos small h k w =
    let v = went (counted d e) _ _ w in
    let l = lies_within d _ _ v.1 in
    let m = mul-le-mul_right d.block (blocks_mono d.block pos b c k) in
    let n = mul-le-mul_right d.block (block_below d.block pos a b h) in
    rw v.0 (lies_is d _ _ (omega (arith, pos)) (omega arith))

module _ (d : Disk) (size off stop : ℕ) (pos : 0 < d.block) (small : length d.image ≤ 2 ^ 64) (inside : stop ≤ size) where
  -- an extent that the whole read allows, every read allows
  allows_part : (e : Extent) → allows d 0 size e ≡ fine → allows d off stop e ≡ fine
  allows_part e w = sound_allowed d off stop e (allowed_end d 0 size e w) go
    where
      go : Touched off stop e → Sound d off stop e
      go t = reach_part d e _ _ _ _ pos small (omega (arith, t.some)) (omega arith) (allowed_sound d 0 size e w (record { some = omega (arith, t.some); real = t.real }))

  -- and so of a list of them
  decide_part : (es : List Extent) → decide d 0 size es ≡ fine → decide d off stop es ≡ fine
  unfolding decide
  decide_part [] w = refl
  decide_part (e ∷ es) w = go (le_or_gt stop e.logical) (decide_part es)
    where
      go : (stop ≤ e.logical) ⊎ (e.logical < stop) → (decide d 0 size es ≡ fine → decide d off stop es ≡ fine) → decide d off stop (e ∷ es) ≡ fine
      go (inl h) ih = decide_stop d off stop e es h
      go (inr h) ih =
          let q = went _ _ _ (sym (decide_goes d 0 size e es (omega arith)) ∙ w) in
          decide_goes d off stop e es h ∙ rw (allows_part e q.0, ih q.1)

-- ---- where a read begins

module _ (d : Disk) (size off : ℕ) (h : off < size) where
  -- what is allowed of all is allowed from any place on
  seek_allowed : (best es : List Extent) → decide d 0 size best ≡ fine → decide d 0 size es ≡ fine → decide d 0 size (seek off best es) ≡ fine
  unfolding seek
  seek_allowed best [] b w = b
  seek_allowed best (e ∷ es) b w = go (le_or_gt e.logical off) (seek_allowed (e ∷ es) es w)
    where
      go : (e.logical ≤ off) ⊎ (off < e.logical) → (decide d 0 size es ≡ fine → decide d 0 size (seek off (e ∷ es) es) ≡ fine) → decide d 0 size (seek off best (e ∷ es)) ≡ fine
      go (inl k) ih = rw (seek_takes off best e es k) (ih (went (allows d 0 size e) _ _ (sym (decide_goes d 0 size e es (omega arith)) ∙ w)).1)
      go (inr k) ih = rw (seek_stays off best e es k) b

-- what `in_order` says of the first two
pub linked : (mark : Extent → ℕ) (at : ℕ) (e f : Extent) (es : List Extent) → in_order mark at (e ∷ f ∷ es) ≡ fine → (mark e ≤ f.logical) × (in_order mark (mark e) (f ∷ es) ≡ fine)
unfolding in_order
linked mark at e f es c = let q = passed _ _ _ _ _ c in ((passed _ _ _ _ _ q.1).0, q.1)

-- the whole read passes over extents of no length alone
skipped : (d : Disk) (size at : ℕ) → 0 < size → (e : Extent) (es : List Extent) → in_order end at (e ∷ es) ≡ fine
    → decide d 0 size (seek 0 (e ∷ es) es) ≡ fine → decide d 0 size (e ∷ es) ≡ fine
unfolding seek
skipped d size at h e [] c w = w
skipped d size at h e (f ∷ es) c w = go (linked end at e f es c) (le_or_gt f.logical 0) (skipped d size (end e) h f es)
  where
    go : (end e ≤ f.logical) × (in_order end (end e) (f ∷ es) ≡ fine) → (f.logical ≤ 0) ⊎ (0 < f.logical)
        → (in_order end (end e) (f ∷ es) ≡ fine → decide d 0 size (seek 0 (f ∷ es) es) ≡ fine → decide d 0 size (f ∷ es) ≡ fine) → decide d 0 size (e ∷ f ∷ es) ≡ fine
    go l (inl k) ih =
        decide_goes d 0 size e (f ∷ es) (omega arith)
        ∙ rw (sound_allowed d 0 size e (omega arith) (λ t. absurd (omega (arith, t.some))), ih l.1 (rw (seek_takes 0 (e ∷ f ∷ es) f es k) at w))
    go l (inr k) ih = rw (seek_stays 0 (e ∷ f ∷ es) f es k) at w

pub unskipped : (d : Disk) (size : ℕ) → 0 < size → (es : List Extent) → apart es ≡ fine → decide d 0 size (since 0 es) ≡ fine → decide d 0 size es ≡ fine
unfolding seek
unskipped d size h [] c w = w
unskipped d size h (e ∷ es) c w = go (le_or_gt e.logical 0)
  where
    go : (e.logical ≤ 0) ⊎ (0 < e.logical) → decide d 0 size (e ∷ es) ≡ fine
    go (inl k) = skipped d size 0 h e es c (rw (seek_takes 0 (e ∷ es) e es k) at w)
    go (inr k) = rw (seek_stays 0 (e ∷ es) e es k) at w

-- starts ascend where each starts past the end of the one before it
pub apart_ascend : (at₁ at₂ : ℕ) (es : List Extent) → at₁ ≤ at₂ → in_order end at₂ es ≡ fine → in_order start at₁ es ≡ fine
unfolding in_order
apart_ascend at₁ at₂ [] h c = refl
apart_ascend at₁ at₂ (e ∷ es) h c =
    let q = passed _ _ _ _ _ c in
    sym (at_most_lem _ _ _ _ _ (omega (arith, q.0)) (sym (apart_ascend e.logical (end e) es (omega arith) q.1)))

-- ---- the bytes

over_past : (d : Disk) (i : ℕ) (e : Extent) (z : ℕ) → end e ≤ i → over d i e z ≡ z
unfolding over
over_past d i e z h = sym (at_most_lem _ _ _ _ _ (omega arith) (at_most_lem _ _ _ _ _ h refl))

module _ (d : Disk) (off i : ℕ) (h : off ≤ i) where
  seek_byte : (at : ℕ) (e : Extent) (es : List Extent) (z : ℕ) → in_order end at (e ∷ es) ≡ fine → byte_at d i (seek off (e ∷ es) es) z ≡ byte_at d i (e ∷ es) z
  unfolding seek byte_at
  seek_byte at e [] z c = refl
  seek_byte at e (f ∷ es) z c = go (linked end at e f es c) (le_or_gt f.logical off) (seek_byte (end e) f es z)
    where
      go : (end e ≤ f.logical) × (in_order end (end e) (f ∷ es) ≡ fine) → (f.logical ≤ off) ⊎ (off < f.logical)
          → (in_order end (end e) (f ∷ es) ≡ fine → byte_at d i (seek off (f ∷ es) es) z ≡ byte_at d i (f ∷ es) z) → byte_at d i (seek off (e ∷ f ∷ es) (f ∷ es)) z ≡ byte_at d i (e ∷ f ∷ es) z
      go l (inl k) ih = rw (seek_takes off (e ∷ f ∷ es) f es k, over_past d i e z (omega arith)) (ih l.1)
      go l (inr k) ih = rw (seek_stays off (e ∷ f ∷ es) f es k)

  -- no byte from off on depends on an extent before the last that starts at or before off
  pub since_byte : (es : List Extent) → apart es ≡ fine → byte_at d i (since off es) 0 ≡ byte_at d i es 0
  unfolding seek
  since_byte [] c = refl
  since_byte (e ∷ es) c = go (le_or_gt e.logical off)
    where
      go : (e.logical ≤ off) ⊎ (off < e.logical) → byte_at d i (since off (e ∷ es)) 0 ≡ byte_at d i (e ∷ es) 0
      go (inl k) = rw (seek_takes off (e ∷ es) e es k) (seek_byte 0 e es 0 c)
      go (inr k) = rw (seek_stays off (e ∷ es) e es k)

-- ---- reads

module _ (d : Disk) (size : ℕ) (es : List Extent) (off len : ℕ) where
  pub read_past : ascending es ≡ fine → size ≤ off → read_at d size es off len ≡ Ok []
  unfolding read_at
  read_past c h = rw c (sym (at_most_lem _ _ _ _ _ h refl))

  pub read_is : ascending es ≡ fine → off < size → decide d off (off + min len (size - off)) (since off es) ≡ fine
      → read_at d size es off len ≡ Ok (bytes d es off (min len (size - off)))
  unfolding read_at
  read_is c h w = rw c (sym (above _ _ _ _ _ h (rw w)))

  pub read_was : (bs : List ℕ) → off < size → read_at d size es off len ≡ Ok bs
      → (decide d off (off + min len (size - off)) (since off es) ≡ fine) × (◌≡◌ {A = Answer _} (Ok (bytes d es off (min len (size - off)))) (Ok bs))
  unfolding read_at
  read_was bs h e = went _ _ _ (was_above _ _ (Ok []) _ _ h (went (ascending es) _ _ e).1)

  -- the answer is exactly as long as what there is
  pub read_length : (bs : List ℕ) → read_at d size es off len ≡ Ok bs → length bs ≡ min len (size - off)
  unfolding read_at bytes
  read_length bs e = go (le_or_gt size off)
    where
      go : (size ≤ off) ⊎ (off < size) → length bs ≡ min len (size - off)
      go (inl h) =
          let q : bs ≡ [] = cc (was_most _ _ _ _ _ h (went (ascending es) _ _ e).1) in
          rw q (omega arith)
      go (inr h) =
          let q : bs ≡ bytes d es off (min len (size - off)) = cc (read_was bs h e).1 in
          rw q (span_length _ _ _)

module _ (d : Disk) (size : ℕ) (es : List Extent) (bs : List ℕ) (pos : 0 < d.block) (small : length d.image ≤ 2 ^ 64) (all : read_all d size es ≡ Ok bs) where
  all_length : length bs ≡ size
  unfolding read_all
  all_length = read_length d size es 0 size bs (went (apart es) _ _ all).1 ∙ omega arith

  -- THE LAW
  pub read_part : (off len : ℕ) → read_at d size es off len ≡ Ok (take len (drop off bs))
  unfolding read_all bytes
  read_part off len = go (le_or_gt size off)
    where
      a : (apart es ≡ fine) × (read_at d size es 0 size ≡ Ok bs)
      a = went (apart es) _ _ all

      n : ℕ
      n = min len (size - off)

      up : ascending es ≡ fine
      up = apart_ascend 0 0 es (omega arith) a.0

      go : (size ≤ off) ⊎ (off < size) → read_at d size es off len ≡ Ok (take len (drop off bs))
      go (inl h) =
          let q : drop off bs ≡ [] = drop_of_length-le bs {i = off} (omega (arith, all_length)) in
          read_past d size es off len up h ∙ rw (q, take-nil)
      go (inr h) =
          let m : min size (size - 0) ≡ size = omega arith in
          let w = read_was d size es 0 size bs (omega arith) a.1 in
          let v : decide d 0 size es ≡ fine = unskipped d size (omega arith) es a.0 (rw (m, zero-add) at w.0) in
          let q : bs ≡ bytes d es 0 size = cc (rw m at w.1) in
          read_is d size es off len up h
          (decide_part d size off (off + n) pos small (omega arith) (since off es) (seek_allowed d size off h es es v v))
          ∙ rw q (ap Ok (sym (span_part _ _ size off len
          (λ i b. since_byte d 0 i (omega arith) es a.0 ∙ sym (since_byte d off i b es a.0)))))

  -- two reads side by side are one
  pub read_split : (off m n : ℕ) (xs ys : List ℕ) → read_at d size es off m ≡ Ok xs → read_at d size es (off + m) n ≡ Ok ys → read_at d size es off (m + n) ≡ Ok (xs ++ ys)
  read_split off m n xs ys p q =
      let x : xs ≡ take m (drop off bs) = cc (read_part off m) in
      let y : ys ≡ take n (drop (off + m) bs) = cc (read_part (off + m) n) in
      read_part off (m + n) ∙ rw (x, y, ← drop-drop m off bs, take-add m n (drop off bs))
