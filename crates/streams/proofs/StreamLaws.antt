-- Chunks do not show; an answer is as long as the stream.
use Prim.Native.Nat.{ℕ, zero, suc, ◌+◌, ◌*◌, ◌-◌, ◌/◌, ◌^◌, ◌≤◌, ◌<◌, min}
use mathlib.Core.Path.{◌≡◌, refl, sym, ap, ◌∙◌, fun_ext}
use mathlib.Core.List.{List, [], ◌∷◌, ◌++◌, append-nil}
use mathlib.Core.Logic.{◌⊎◌, inl, inr}
use native.Mathlib.Nat.{mul-le-mul, mul-le-mul_right, add-mul-div_right, mul-div_cancel, div-eq_of_lt, zero-add, add-zero, zero-mul, mul-zero, sub-zero}
use native.Mathlib.Omega.{arith}
use mathlib.Core.Bool.{Bool, true, false}
use lib.Dec.{leb}
use lib.ListN.{length, take, drop, replicate, length-take, length-drop, length-append, length-replicate}
use lib.Seq.{drop-drop, take-add}
use Rattle.error.specs.Answer.{Answer, Ok, Err, ◌>>=◌, if_le, pick}
use Rattle.error.specs.declared.Refusal.{Refusal}
use Rattle.error.specs.declared.Refusal.TheVariants.{Corrupt}
use Rattle.error.proofs.Laws.{at_most_lem, above, same, other, bound}
use Rattle.extents.specs.Verdict.{Verdict, fine, ◌>>◌, at_most}
use Rattle.extents.proofs.Verdicts.{was_most, was_above, was_same, was_other, le_or_gt, passed, went, assoc, after_bind}
use Rattle.records.specs.declared.extent.Extent.{Extent}
use Rattle.extents.specs.Extents.{Disk, top, blocks, counted, lies}
use Rattle.extents.proofs.ExtentLaws.{blocks_hold, lies_is, lies_wide, lies_past, lies_within}
use Rattle.streams.specs.Stream.{piece, fetch, stream_by, stream}
use Rattle.streams.specs.Inner.{ready, settle, taken, poured, chunks, chunked}

blocks_add : (bs c n : ℕ) → 0 < bs → blocks bs (n + c * bs) ≡ blocks bs n + c
unfolding blocks
blocks_add bs c n pos =
    let e : n + c * bs + (bs - 1) ≡ n + (bs - 1) + c * bs = omega arith in
    rw e (add-mul-div_right (n + (bs - 1)) c pos)

blocks_whole : (bs c : ℕ) → 0 < bs → blocks bs (c * bs) ≡ c
unfolding blocks
blocks_whole bs c pos =
    let e : c * bs + (bs - 1) ≡ bs - 1 + c * bs = omega arith in
    let f : bs - 1 < bs = omega arith in
    rw e (add-mul-div_right (bs - 1) c pos ∙ rw (div-eq_of_lt f, zero-add))

module _ (d : Disk) (p n : ℕ) where
  piece_none : n ≤ 0 → piece d p n ≡ Ok []
  unfolding piece
  piece_none h = sym (at_most_lem _ _ _ _ _ h refl)

  piece_is : 0 < n → piece d p n ≡ (lies d p (p + blocks d.block n) >> Ok (take n (drop (p * d.block) d.image)))
  unfolding piece
  piece_is h = sym (above _ _ _ _ _ h refl)

-- of two stretches of blocks the second of which begins where the first ends: the first fault of both is the first fault of the whole
lies_split : {A : Type 0} (d : Disk) (p q r : ℕ) (x : Answer A) → length d.image ≤ top → q ≤ r → (lies d p q >> (lies d q r >> x)) ≡ (lies d p r >> x)
lies_split d p q r x small h = go (le_or_gt (p * d.block) top) (le_or_gt (q * d.block) (length d.image)) (le_or_gt (r * d.block) (length d.image))
  where
    m : q * d.block ≤ r * d.block
    m = mul-le-mul_right d.block h

    go : (p * d.block ≤ top) ⊎ (top < p * d.block) → (q * d.block ≤ length d.image) ⊎ (length d.image < q * d.block) → (r * d.block ≤ length d.image) ⊎ (length d.image < r * d.block)
        → (lies d p q >> (lies d q r >> x)) ≡ (lies d p r >> x)
    go (inr t) u v = rw (lies_wide d p q t, lies_wide d p r t)
    go (inl t) (inr u) v = rw (lies_past d p q t u, lies_past d p r t (omega (arith, m)))
    go (inl t) (inl u) (inr v) = rw (lies_is d p q t u, lies_past d p r t v, lies_past d q r (omega arith) v)
    go (inl t) (inl u) (inl v) = rw (lies_is d p q t u, lies_is d p r t v, lies_is d q r (omega arith) v)

-- c whole blocks, then n bytes
piece_join : (d : Disk) (p c n : ℕ) → 0 < d.block → length d.image ≤ top → 0 < n
    → (lies d p (p + c) >> (piece d (p + c) n >>= λ y. Ok (take (c * d.block) (drop (p * d.block) d.image) ++ y))) ≡ piece d p (n + c * d.block)
piece_join d p c n pos small h =
    let bs : ℕ = d.block in
    let f : (p + c) * bs ≡ p * bs + c * bs = omega arith in
    let g : p + (blocks bs n + c) ≡ p + c + blocks bs n = omega arith in
    let i : n + c * bs ≡ c * bs + n = omega arith in
    let j : take (c * bs) (drop (p * bs) d.image) ++ take n (drop ((p + c) * bs) d.image) ≡ take (n + c * bs) (drop (p * bs) d.image)
    = rw (f, ← drop-drop (c * bs) (p * bs) d.image, i, take-add (c * bs) n (drop (p * bs) d.image)) in
    rw (
      piece_is d (p + c) n h,
      after_bind (lies d (p + c) (p + c + blocks bs n)),
      j,
      lies_split d p (p + c) (p + c + blocks bs n) (Ok (take (n + c * bs) (drop (p * bs) d.image))) small (omega arith),
      piece_is d p (n + c * bs) (omega arith),
      blocks_add bs c n pos,
      g,
    )

module _ (d : Disk) (c : ℕ) where
  chunks_end : (k p want : ℕ) → chunks d c k p want want ≡ Ok []
  unfolding chunks
  chunks_end zero p want = refl
  chunks_end (suc k) p want = sym (at_most_lem _ _ _ _ _ (omega arith) refl)

  chunks_turn : (k p done want q n : ℕ) → done < want → q ≡ p + done / d.block → n ≡ min (want - done) (c * d.block)
      → chunks d c (suc k) p done want
      ≡ (lies d q (q + blocks d.block n) >> (chunks d c k p (done + n) want >>= λ y. Ok (take n (drop (q * d.block) d.image) ++ y)))
  unfolding chunks
  chunks_turn k p done want q n h e f = rw (e, f) (sym (above _ _ _ _ _ h refl))

  module _ (pos : 0 < d.block) (some : 0 < c) (small : length d.image ≤ top) where
    chunks_piece : (k p m want : ℕ) → want - m * d.block ≤ k → chunks d c k p (m * d.block) want ≡ piece d (p + m) (want - m * d.block)
    unfolding chunks
    chunks_piece zero p m want h = sym (piece_none d (p + m) (want - m * d.block) h)
    chunks_piece (suc k) p m want h = go (le_or_gt want (m * bs)) (le_or_gt left (c * bs)) (chunks_piece k p (m + c) want)
      where
        bs : ℕ
        bs = d.block

        left : ℕ
        left = want - m * bs

        rest : ℕ
        rest = want - (m + c) * bs

        q : p + m ≡ p + m * bs / bs
        q = rw (mul-div_cancel m pos)

        go : (want ≤ m * bs) ⊎ (m * bs < want) → (left ≤ c * bs) ⊎ (c * bs < left)
            → (want - (m + c) * bs ≤ k → chunks d c k p ((m + c) * bs) want ≡ piece d (p + (m + c)) (want - (m + c) * bs))
            → chunks d c (suc k) p (m * bs) want ≡ piece d (p + m) left
        go (inl e) t ih = sym (at_most_lem _ _ _ _ _ e (piece_none d (p + m) left (omega arith)))
        go (inr e) (inl t) ih =
            let z : m * bs + left ≡ want = omega arith in
            chunks_turn k p (m * bs) want (p + m) left e q (omega arith)
            ∙ rw (z, chunks_end k p want, append-nil (take left (drop ((p + m) * bs) d.image))) (sym (piece_is d (p + m) left (omega arith)))
        go (inr e) (inr t) ih =
            let z : m * bs + c * bs ≡ (m + c) * bs = omega arith in
            let f : p + (m + c) ≡ p + m + c = omega arith in
            let g : rest + c * bs ≡ left = omega arith in
            chunks_turn k p (m * bs) want (p + m) (c * bs) e q (omega arith)
            ∙ rw (blocks_whole bs c pos, z, ih (omega (arith, mul-le-mul some pos)), f) (piece_join d (p + m) c rest pos small (omega arith) ∙ ap (piece d (p + m)) g)

    pub chunked_piece : (p n : ℕ) → chunked d c p n ≡ piece d p n
    unfolding chunked
    chunked_piece p n =
        let z : 0 * d.block ≡ 0 = zero-mul d.block in
        rw (z, sub-zero, add-zero) at (chunks_piece n p 0 n (rw z (omega arith)))

    -- a stream that is read c blocks at a time is the stream
    pub chunks_same : (size : ℕ) (es : List Extent) → stream_by (chunked d c) d size 0 es ≡ stream d size es
    unfolding stream
    chunks_same size es = ap (λ (f : ℕ → ℕ → Answer (List ℕ)). stream_by f d size 0 es) (fun_ext (λ p. fun_ext (λ n. chunked_piece p n)))

-- so the Rust's chunks of 2^20 bytes (COPY_CHUNK), which are whole blocks of every size that a container may have, do not show
pub copy_chunks : (d : Disk) (c size : ℕ) (es : List Extent) → c * d.block ≡ 2 ^ 20 → length d.image ≤ top → stream_by (chunked d c) d size 0 es ≡ stream d size es
copy_chunks d c size es h small = chunks_same d c (some (le_or_gt d.block 0)) (full (le_or_gt c 0)) small size es
  where
    some : (d.block ≤ 0) ⊎ (0 < d.block) → 0 < d.block
    some (inl z) = let q : d.block ≡ 0 = omega arith in absurd (let w : 0 ≡ 2 ^ 20 = sym (mul-zero c) ∙ (rw q at h) in omega arith)
    some (inr p) = p

    full : (c ≤ 0) ⊎ (0 < c) → 0 < c
    full (inl z) = let q : c ≡ 0 = omega arith in absurd (let w : 0 ≡ 2 ^ 20 = sym (zero-mul d.block) ∙ (rw q at h) in omega arith)
    full (inr p) = p

-- ---- how long an answer is

module _ (d : Disk) (pos : 0 < d.block) where
  pub piece_length : (p n : ℕ) (xs : List ℕ) → piece d p n ≡ Ok xs → length xs ≡ n
  unfolding piece
  piece_length p n xs e = go (le_or_gt n 0)
    where
      go : (n ≤ 0) ⊎ (0 < n) → length xs ≡ n
      go (inl h) = let q : xs ≡ [] = cc (was_most _ _ _ _ _ h e) in rw q (omega arith)
      go (inr h) =
          let u = went (lies d p (p + blocks d.block n)) _ _ (was_above _ _ _ _ _ h e) in
          let q : xs ≡ take n (drop (p * d.block) d.image) = cc u.1 in
          rw q (simp (length-take, length-drop) (omega (arith, lies_within d _ _ u.0, blocks_hold d.block pos n)))

  pub fetch_length : (e : Extent) (n : ℕ) (xs : List ℕ) → fetch (piece d) d e n ≡ Ok xs → length xs ≡ n
  unfolding fetch
  fetch_length e n xs w = go (le_or_gt e.phys_block 0)
    where
      go : (e.phys_block ≤ 0) ⊎ (0 < e.phys_block) → length xs ≡ n
      go (inl h) = let q : xs ≡ replicate n 0 = cc (was_same _ _ _ _ _ (omega arith) w) in rw q (length-replicate n 0)
      go (inr h) = piece_length e.phys_block n xs (went (counted d e) _ _ (was_other _ _ _ _ _ (λ q. omega arith) w)).1

  pub stream_length : (size at : ℕ) (es : List Extent) (bs : List ℕ) → at ≤ size → stream_by (piece d) d size at es ≡ Ok bs → length bs ≡ size - at
  unfolding stream_by
  stream_length size at [] bs h w = let q : bs ≡ replicate (size - at) 0 = cc in rw q (length-replicate (size - at) 0)
  stream_length size at (e ∷ es) bs h w = go (le_or_gt size at) (stream_length size (a + n) es)
    where
      a : ℕ
      a = min e.logical size

      n : ℕ
      n = min e.len (size - a)

      go : (size ≤ at) ⊎ (at < size) → ((cs : List ℕ) → a + n ≤ size → stream_by (piece d) d size (a + n) es ≡ Ok cs → length cs ≡ size - (a + n)) → length bs ≡ size - at
      go (inl k) ih = let q : bs ≡ [] = cc (was_most _ _ _ _ _ k w) in rw q (omega arith)
      go (inr k) ih =
          let u = passed _ _ _ _ _ (was_above _ _ _ _ _ k w) in
          let v = bound (fetch (piece d) d e n) _ _ u.1 in
          let y = bound (stream_by (piece d) d size (a + n) es) _ _ v.1.1 in
          let q : bs ≡ replicate (a - at) 0 ++ (v.0 ++ y.0) = cc y.1.1 in
          rw q (simp (length-append, length-replicate) (omega (arith, u.0, fetch_length e n v.0 v.1.0, ih y.0 (omega arith) y.1.0)))

-- ---- two passes

module _ (d : Disk) (e : Extent) (n : ℕ) where
  module _ (h : e.phys_block ≡ 0) where
    fetch_sparse : fetch (piece d) d e n ≡ Ok (replicate n 0)
    unfolding fetch
    fetch_sparse = sym (same _ _ _ _ _ h refl)

    ready_sparse : ready d e n ≡ fine
    unfolding ready
    ready_sparse = sym (same _ _ _ _ _ h refl)

    pub taken_sparse : taken d e n ≡ replicate n 0
    unfolding taken
    taken_sparse = sym (same _ _ _ _ _ h refl)

  module _ (h : e.phys_block ≡ 0 → ⊥) where
    fetch_real : fetch (piece d) d e n ≡ (counted d e >> piece d e.phys_block n)
    unfolding fetch
    fetch_real = sym (other _ _ _ _ _ h refl)

    ready_real : ready d e n ≡ (counted d e >> if_le n 0 fine (lies d e.phys_block (e.phys_block + blocks d.block n)))
    unfolding ready
    ready_real = sym (other _ _ _ _ _ h refl)

    pub taken_real : taken d e n ≡ take n (drop (e.phys_block * d.block) d.image)
    unfolding taken
    taken_real = sym (other _ _ _ _ _ h refl)

  piece_two : piece d e.phys_block n ≡ (if_le n 0 fine (lies d e.phys_block (e.phys_block + blocks d.block n)) >> Ok (take n (drop (e.phys_block * d.block) d.image)))
  piece_two = go (le_or_gt n 0)
    where
      v : Verdict
      v = lies d e.phys_block (e.phys_block + blocks d.block n)

      go : (n ≤ 0) ⊎ (0 < n) → piece d e.phys_block n ≡ (if_le n 0 fine v >> Ok (take n (drop (e.phys_block * d.block) d.image)))
      go (inl u) = let q : n ≡ 0 = omega arith in rw (piece_none d e.phys_block n u, sym (at_most_lem n 0 fine v _ u refl), q)
      go (inr u) = rw (piece_is d e.phys_block n u, sym (above n 0 fine v _ u refl))

  fetch_two : fetch (piece d) d e n ≡ (ready d e n >> Ok (taken d e n))
  fetch_two = go (le_or_gt e.phys_block 0)
    where
      go : (e.phys_block ≤ 0) ⊎ (0 < e.phys_block) → fetch (piece d) d e n ≡ (ready d e n >> Ok (taken d e n))
      go (inl h) = let q : e.phys_block ≡ 0 = omega arith in rw (fetch_sparse q, ready_sparse q, taken_sparse q)
      go (inr h) =
          let q : e.phys_block ≡ 0 → ⊥ = omega arith in
          rw (fetch_real q, ready_real q, taken_real q, piece_two, assoc (counted d e))

two : {A B C : Type 0} (v w : Verdict) (x : A) (y : B) (f : A → B → C) → ((v >> Ok x) >>= λ s. (w >> Ok y) >>= λ t. Ok (f s t)) ≡ ((v >> w) >> Ok (f x y))
two (Ok a) (Ok b) x y f = refl
two (Ok a) (Err r) x y f = refl
two (Err r) w x y f = refl

gate : (a b c : ℕ) (r : Refusal) (x : Answer (List ℕ)) (v : Verdict) (y : List ℕ) → x ≡ (v >> Ok y) → if_le a b (Ok []) (at_most b c r x) ≡ (if_le a b fine (at_most b c r v) >> Ok (if_le a b [] y))
unfolding if_le
gate a b c r x v y h = go (leb a b) (leb b c)
  where
    go : (t u : Bool) → pick t (Ok []) (pick u x (Err r)) ≡ (pick t fine (pick u v (Err r)) >> Ok (pick t [] y))
    go true u = refl
    go false true = h
    go false false = refl

pub stream_two : (d : Disk) (size pos : ℕ) (es : List Extent) → stream_by (piece d) d size pos es ≡ (settle d size pos es >> Ok (poured d size pos es))
unfolding stream_by settle poured
stream_two d size pos [] = refl
stream_two d size pos (e ∷ es) =
    let a : ℕ = min e.logical size in
    let n : ℕ = min e.len (size - a) in
    gate size pos e.logical Corrupt _ _ _
    (rw (fetch_two d e n, stream_two d size (a + n) es) (two (ready d e n) (settle d size (a + n) es) (taken d e n) (poured d size (a + n) es) (λ x y. replicate (a - pos) 0 ++ (x ++ y))))

-- what a fetch that succeeds gives
pub fetch_is : (d : Disk) (e : Extent) (n : ℕ) (x : List ℕ) → fetch (piece d) d e n ≡ Ok x
    → (e.phys_block ≡ 0 → x ≡ replicate n 0) × ((e.phys_block ≡ 0 → ⊥) → x ≡ take n (drop (e.phys_block * d.block) d.image))
fetch_is d e n x w =
    let v = went (ready d e n) _ _ (sym (fetch_two d e n) ∙ w) in
    let q : x ≡ taken d e n = cc v.1 in
    ((λ h. q ∙ taken_sparse d e n h), (λ h. q ∙ taken_real d e n h))
