-- A function's values at places that follow each other.
use Prim.Native.Nat.{ℕ, zero, suc, ◌+◌, ◌-◌, ◌≤◌, ◌<◌, min}
use mathlib.Core.Path.{◌≡◌, refl, sym, ap, ◌∙◌}
use mathlib.Core.List.{List, [], ◌++◌}
use native.Mathlib.Nat.{zero-add, add-zero, suc-add, add-sub_cancel_left}
use native.Mathlib.Omega.{arith}
use lib.ListN.{length, get_or, take, drop, replicate, length-take, length-drop, length-replicate, get_or-replicate}
use lib.Seq.{ext_get_or, get_or-take, get_or-drop}
use Rattle.files.specs.Read.{span}

pub span_length : (f : ℕ → ℕ) (i n : ℕ) → length (span f i n) ≡ n
unfolding span
span_length f i zero = refl
span_length f i (suc n) = ap suc (span_length f (i + 1) n)

pub span_at_lem : (f : ℕ → ℕ) (i n k : ℕ) → k < n → get_or (span f i n) k 0 ≡ f (i + k)
unfolding span
span_at_lem f i zero k h = absurd (omega arith)
span_at_lem f i (suc n) zero h = ap f (omega arith)
span_at_lem f i (suc n) (suc k) h = span_at_lem f (i + 1) n k (omega arith) ∙ ap f (omega arith)

pub span_split : (f : ℕ → ℕ) (i m n : ℕ) → span f i (m + n) ≡ span f i m ++ span f (i + m) n
unfolding span
span_split f i zero n = rw (zero-add, add-zero)
span_split f i (suc m) n =
    let q : i + 1 + m ≡ i + suc m = omega arith in
    rw (suc-add, span_split f (i + 1) m n, q)

-- the part of a span
pub span_part : (f g : ℕ → ℕ) (size off len : ℕ) → ((i : ℕ) → off ≤ i → f i ≡ g i) → take len (drop off (span f 0 size)) ≡ span g off (min len (size - off))
span_part f g size off len h = ext_get_or 0 _ _ long go
  where
    long : length (take len (drop off (span f 0 size))) ≡ length (span g off (min len (size - off)))
    long = simp (length-take, length-drop, span_length)

    go : (k : ℕ) → k < length (take len (drop off (span f 0 size))) → get_or (take len (drop off (span f 0 size))) k 0 ≡ get_or (span g off (min len (size - off))) k 0
    go k b =
        let c : k < min len (size - off) = simp (length-take, length-drop, span_length) at b in
        let u : k < len = omega arith in
        let v : off + k < size = omega arith in
        rw (get_or-take len (drop off (span f 0 size)) k 0 u, get_or-drop off (span f 0 size) k 0, span_at_lem f 0 size (off + k) v, span_at_lem g off (min len (size - off)) k c, zero-add)
        (h (off + k) (omega arith))

pub span_same : (f g : ℕ → ℕ) (i n : ℕ) → ((k : ℕ) → k < n → f (i + k) ≡ g (i + k)) → span f i n ≡ span g i n
span_same f g i n h = ext_get_or 0 _ _ (simp span_length) (λ k b. let c : k < n = simp span_length at b in rw (span_at_lem f i n k c, span_at_lem g i n k c) (h k c))

-- a list of n bytes is a span of itself
pub span_self : (off : ℕ) (b : List ℕ) → span (λ i. get_or b (i - off) 0) off (length b) ≡ b
span_self off b =
    ext_get_or 0 _ _ (span_length _ _ _) (λ k h. let c : k < length b = simp span_length at h in rw (span_at_lem (λ i. get_or b (i - off) 0) off (length b) k c, add-sub_cancel_left))

pub zeros_span : (f : ℕ → ℕ) (i n : ℕ) → ((k : ℕ) → k < n → f (i + k) ≡ 0) → replicate n 0 ≡ span f i n
zeros_span f i n h =
    ext_get_or 0 _ _ (length-replicate n 0 ∙ sym (span_length f i n))
    (λ k b. let c : k < n = rw (length-replicate {A = ℕ} n 0) at b in rw (span_at_lem f i n k c, h k c) (get_or-replicate n k 0 0 c))

pub span_none : (f : ℕ → ℕ) (i : ℕ) → span f i 0 ≡ []
unfolding span
span_none f i = refl
