-- Where a file is read whole, its bytes are those of a stream over the same extents (fs.rs, `read_at` and `copy_dstream`).
use Prim.Native.Nat.{ℕ, ◌+◌, ◌*◌, ◌-◌, ◌≤◌, ◌<◌, min}
use mathlib.Core.Path.{◌≡◌, refl, sym, ◌∙◌}
use mathlib.Core.List.{List, [], ◌∷◌, ◌++◌}
use mathlib.Core.Logic.{◌⊎◌, inl, inr}
use native.Mathlib.Omega.{arith}
use lib.ListN.{length, get_or, take, drop, replicate, length-take, length-drop, length-replicate}
use lib.Seq.{ext_get_or, get_or-take, get_or-drop}
use Rattle.error.specs.Answer.{Ok}
use Rattle.error.proofs.Laws.{at_most_lem, above}
use Rattle.extents.specs.Verdict.{fine}
use Rattle.extents.specs.Extents.{Disk, end, in_order, apart, allows, decide}
use Rattle.files.specs.Read.{over, byte_at, span, bytes, read_at, read_all}
use Rattle.streams.specs.Stream.{stream}
use Rattle.streams.specs.Inner.{taken, poured, settle}
use Rattle.records.specs.declared.extent.Extent.{Extent}
use Rattle.files.proofs.Spans.{span_length, span_at_lem, span_split, span_same, zeros_span, span_none}
use Rattle.extents.proofs.Verdicts.{le_or_gt, passed, went}
use Rattle.extents.proofs.ExtentLaws.{decide_goes, allowed_sound, reach_within}
use Rattle.files.proofs.ReadLaws.{read_was, read_length, since_byte, unskipped}
use Rattle.files.proofs.CopyLaws.{over_not, over_sparse, over_is}
use Rattle.streams.proofs.StreamLaws.{taken_sparse, taken_real, stream_two}

-- no extent reaches a place before its start
byte_before : (d : Disk) (i at : ℕ) (es : List Extent) (z : ℕ) → in_order end at es ≡ fine → i < at → byte_at d i es z ≡ z
unfolding in_order byte_at
byte_before d i at [] z c h = refl
byte_before d i at (e ∷ es) z c h =
    let q = passed _ _ _ _ _ c in
    rw (over_not d e i z (inl (omega (arith, q.0)))) (byte_before d i (end e) es z q.1 (omega (arith, q.0)))

no_bytes : (bs : List ℕ) → length bs ≡ 0 → bs ≡ []
no_bytes [] h = refl
no_bytes (b ∷ bs) h = absurd (omega arith)

poured_none : (d : Disk) (size : ℕ) (es : List Extent) → poured d size size es ≡ []
unfolding poured
poured_none d size [] = no_bytes _ (length-replicate (size - size) 0 ∙ omega arith)
poured_none d size (e ∷ es) = sym (at_most_lem _ _ _ _ _ (omega arith) refl)

module _ (d : Disk) where
  -- what is taken of an extent whose bytes lie in the image is what it lays
  taken_bytes : (e : Extent) (a n : ℕ) → n ≤ e.len → (0 < n → a ≡ e.logical) → (0 < n → 0 < e.phys_block → e.phys_block * d.block + n ≤ length d.image) → taken d e n ≡ span (λ i. over d i e 0) a n
  taken_bytes e a n h s inside = go (le_or_gt e.phys_block 0)
    where
      go : (e.phys_block ≤ 0) ⊎ (0 < e.phys_block) → taken d e n ≡ span (λ i. over d i e 0) a n
      go (inl u) = taken_sparse d e n (omega arith) ∙ zeros_span (λ i. over d i e 0) a n (λ k b. over_sparse d e (a + k) 0 u)
      go (inr u) =
          taken_real d e n (λ q. omega arith)
          ∙ ext_get_or 0 _ _ (long (le_or_gt n 0) ∙ sym (span_length _ _ _)) (λ k b. at k (rw (long (le_or_gt n 0)) at b))
        where
          long : (n ≤ 0) ⊎ (0 < n) → length (take n (drop (e.phys_block * d.block) d.image)) ≡ n
          long (inl z) = simp (length-take, length-drop) (omega arith)
          long (inr z) = simp (length-take, length-drop) (omega (arith, inside z u))

          at : (k : ℕ) → k < n → get_or (take n (drop (e.phys_block * d.block) d.image)) k 0 ≡ get_or (span (λ i. over d i e 0) a n) k 0
          at k b =
              let r : a ≡ e.logical = s (omega arith) in
              let t : a + k - e.logical ≡ k = omega arith in
              rw (span_at_lem (λ i. over d i e 0) a n k b, over_is d e (a + k) 0 (omega arith) (omega arith) u, t, get_or-take n (drop (e.phys_block * d.block) d.image) k 0 b, get_or-drop)

  module _ (e : Extent) (es : List Extent) (c : in_order end (end e) es ≡ fine) (size p a n : ℕ) (qa : a ≡ min e.logical size) (qn : n ≡ min e.len (size - a)) (h : p ≤ e.logical) (k : p < size) where
    f : ℕ → ℕ
    f i = byte_at d i es (over d i e 0)

    gap : replicate (a - p) 0 ≡ span f p (a - p)
    unfolding f
    gap = zeros_span f p (a - p) (λ j b. rw (over_not d e (p + j) 0 (inl (omega arith))) (byte_before d (p + j) (end e) es 0 c (omega arith)))

    own : (0 < n → 0 < e.phys_block → e.phys_block * d.block + n ≤ length d.image) → taken d e n ≡ span f a n
    unfolding f
    own inside =
        taken_bytes e a n (omega arith) (λ b. omega arith) inside
        ∙ span_same (λ i. over d i e 0) f a n (λ j b. sym (byte_before d (a + j) (end e) es (over d (a + j) e 0) c (omega arith)))

    rest : (y : List ℕ) → y ≡ span (λ i. byte_at d i es 0) (a + n) (size - (a + n)) → y ≡ span f (a + n) (size - (a + n))
    unfolding f
    rest y w = w ∙ span_same (λ i. byte_at d i es 0) f (a + n) (size - (a + n)) (λ j b. rw (over_not d e (a + n + j) 0 (inr (omega arith))))

    joined : (y : List ℕ) → (0 < n → 0 < e.phys_block → e.phys_block * d.block + n ≤ length d.image) → y ≡ span (λ i. byte_at d i es 0) (a + n) (size - (a + n)) → replicate (a - p) 0 ++ (taken d e n ++ y) ≡ span f p (size - p)
    joined y w v =
        let r : size - p ≡ a - p + (n + (size - (a + n))) = omega arith in
        let t : p + (a - p) ≡ a = omega arith in
        rw (r, span_split f p (a - p) (n + (size - (a + n))), t, span_split f a n (size - (a + n)), ← gap, ← own w, ← rest y v)

  module _ (pos : 0 < d.block) (size : ℕ) where
    -- the bytes of an allowed extent that are wanted lie in the image
    inside : (e : Extent) (a n : ℕ) → a ≡ min e.logical size → n ≡ min e.len (size - a) → allows d 0 size e ≡ fine → 0 < n → 0 < e.phys_block → e.phys_block * d.block + n ≤ length d.image
    inside e a n qa qn w s r = omega (arith, reach_within d e _ _ pos (allowed_sound d 0 size e w (record { some = omega arith; real = r })))

    -- where every extent is allowed, a stream pours what a read lays
    poured_bytes : (at p : ℕ) (es : List Extent) → in_order end at es ≡ fine → decide d 0 size es ≡ fine → p ≤ at → p ≤ size → poured d size p es ≡ span (λ i. byte_at d i es 0) p (size - p)
    unfolding poured byte_at in_order f
    poured_bytes at p [] c w h k = zeros_span (λ i. 0) p (size - p) (λ j b. refl)
    poured_bytes at p (e ∷ es) c w h k = go (le_or_gt size p) (le_or_gt size e.logical) (poured_bytes (end e) (a + n) es)
      where
        a : ℕ
        a = min e.logical size

        n : ℕ
        n = min e.len (size - a)

        q : (at ≤ e.logical) × (in_order end (end e) es ≡ fine)
        q = passed _ _ _ _ _ c

        go : (size ≤ p) ⊎ (p < size) → (size ≤ e.logical) ⊎ (e.logical < size)
            → (in_order end (end e) es ≡ fine → decide d 0 size es ≡ fine → a + n ≤ end e → a + n ≤ size → poured d size (a + n) es ≡ span (λ i. byte_at d i es 0) (a + n) (size - (a + n)))
            → poured d size p (e ∷ es) ≡ span (λ i. byte_at d i (e ∷ es) 0) p (size - p)
        go (inl t) u ih =
            let z : size - p ≡ 0 = omega arith in
            rw z (sym (at_most_lem _ _ _ _ _ t (span_none _ p)))
        go (inr t) (inl u) ih =
            let m : a + n ≡ size = omega arith in
            let z : size - size ≡ 0 = omega arith in
            sym (above _ _ _ _ _ t (sym (joined e es q.1 size p a n refl refl (omega (arith, q.0)) t (poured d size (a + n) es) (λ s. absurd (omega arith)) (rw (m, z, poured_none d size es) (sym (span_none _ size))))))
        go (inr t) (inr u) ih =
            let v = went _ _ _ (sym (decide_goes d 0 size e es u) ∙ w) in
            sym (above _ _ _ _ _ t (sym (joined e es q.1 size p a n refl refl (omega (arith, q.0)) t (poured d size (a + n) es) (inside e a n refl refl v.0) (ih q.1 v.1 (omega arith) (omega arith)))))

    -- a file that is read whole has the bytes that a stream would pour
    pub all_poured : (es : List Extent) (bs : List ℕ) → read_all d size es ≡ Ok bs → bs ≡ poured d size 0 es
    unfolding read_all bytes
    all_poured es bs w = go (le_or_gt size 0)
      where
        c : (apart es ≡ fine) × (read_at d size es 0 size ≡ Ok bs)
        c = went (apart es) _ _ w

        m : min size (size - 0) ≡ size - 0
        m = omega arith

        go : (size ≤ 0) ⊎ (0 < size) → bs ≡ poured d size 0 es
        go (inl h) =
            let z : size ≡ 0 = omega arith in
            no_bytes bs (read_length d size es 0 size bs c.1 ∙ omega arith) ∙ rw z (sym (poured_none d 0 es))
        go (inr h) =
            let r = read_was d size es 0 size bs h c.1 in
            let n : 0 + min size (size - 0) ≡ size = omega arith in
            let v : decide d 0 size es ≡ fine = unskipped d size h es c.0 (rw n at r.0) in
            let q : bs ≡ bytes d es 0 (min size (size - 0)) = cc r.1 in
            q ∙ rw m (span_same _ _ 0 (size - 0) (λ k b. since_byte d 0 (0 + k) (omega arith) es c.0))
            ∙ sym (poured_bytes 0 0 es c.0 v (omega arith) (omega arith))

    -- where it is also read as a stream, the bytes are the same
    pub agree : (es : List Extent) (bs cs : List ℕ) → read_all d size es ≡ Ok bs → stream d size es ≡ Ok cs → bs ≡ cs
    unfolding stream
    agree es bs cs w v =
        let q = went (settle d size 0 es) _ _ (sym (stream_two d size 0 es) ∙ v) in
        let p : cs ≡ poured d size 0 es = cc q.1 in
        all_poured es bs w ∙ sym p
