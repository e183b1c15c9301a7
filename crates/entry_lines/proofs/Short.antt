-- A line is not long: 80 bytes and 6 for each byte of its name are enough.
use Prim.Native.Nat.{ℕ, zero, suc, ◌+◌, ◌*◌, ◌-◌, ◌/◌, ◌%◌, ◌^◌, ◌≤◌, ◌<◌}
use mathlib.Core.Path.{◌≡◌, refl, sym, ap, ◌∙◌}
use mathlib.Core.List.{List, [], ◌∷◌, ◌++◌}
use mathlib.Core.Logic.{◌⊎◌, inl, inr}
use lib.ListN.{length, length-append, length-take, length-drop, take, drop}
use native.Mathlib.Nat.{pow-suc}
use native.Mathlib.Omega.{arith}
use Rattle.utf8.specs.Text.{piece_of, size_of, shown, replacement, lossy}
use Rattle.utf8.specs.declared.Piece.{Piece}
use Rattle.utf8.specs.declared.Piece.TheVariants.{End, WellFormed, IllFormed}
use Rattle.utf8.proofs.Pieces.{size_pos, size_within}
use Rattle.utf8.proofs.Reading.{lossy_end, lossy_next}
use Rattle.text.specs.Words.{ascii, digits, pairs, bytes, words}
use Rattle.text.proofs.Digits.{digits_small, digits_large, digits_append, pairs_append}
use Rattle.text.proofs.Loops.{pairs_length}
use Rattle.obj.specs.declared.reader.Reader.{Reader}
use Rattle.records.specs.Directory.{entry_name}
use Rattle.records.specs.declared.directory.Entry.{Entry}
use Rattle.lines.specs.Shown.{entry_shown}
use Rattle.extents.proofs.Verdicts.{le_or_gt}
use Rattle.lines.specs.Lines.{entry_line}

digits_short : (k n : ℕ) → n < 10 ^ suc k → length (digits n []) ≤ suc k
digits_short zero n h = rw (digits_small n [] (omega arith)) (omega arith)
digits_short (suc k) n h = of (digits_short k (n / 10)) (le_or_gt 10 n)
  where
    of : (n / 10 < 10 ^ suc k → length (digits (n / 10) []) ≤ suc k) → (10 ≤ n) ⊎ (n < 10) → length (digits n []) ≤ suc (suc k)
    of r (inr l) = rw (digits_small n [] l) (omega arith)
    of r (inl l) =
        let e : 10 ^ suc (suc k) ≡ 10 ^ suc k * 10 = pow-suc 10 (suc k) in
        let g : n < 10 ^ suc k * 10 = rw e at h in
        let d : n / 10 < 10 ^ suc k = omega arith in
        let f = r d in
        rw (digits_large n [] l, digits_append (n / 10) [] ((48 + n % 10) ∷ []), length-append (digits (n / 10) []) ((48 + n % 10) ∷ [])) (omega arith)

digits_long : (n : ℕ) (x : List ℕ) → n < 2 ^ 64 → length (digits n x) ≤ 20 + length x
digits_long n x h =
    let d : n < 10 ^ 20 = omega arith in
    let f = digits_short 19 n d in
    rw (digits_append n [] x, length-append (digits n []) x) (omega arith)

pairs_long : (b x : List ℕ) → length (pairs b x) ≡ 2 * length b + length x
pairs_long b x = rw (pairs_append b [] x, length-append (pairs b []) x, pairs_length b)

-- a piece takes a byte at least, and reads as three bytes at most or as its own
lossy_step : (n : ℕ) → ((c : List ℕ) → length c ≤ n → length (lossy c) ≤ 3 * length c) → (b : List ℕ) → length b ≤ suc n → length (lossy b) ≤ 3 * length b
lossy_step n r [] h = rw lossy_end (omega arith)
lossy_step n r (x ∷ b) h =
    rw (lossy_next (x ∷ b), length-append (shown (piece_of (x ∷ b)) (x ∷ b)) (lossy (drop (size_of (piece_of (x ∷ b))) (x ∷ b))))
    (of (piece_of (x ∷ b)) (size_pos (x ∷ b) (omega arith)) (size_within (x ∷ b)))
  where
    of : (p : Piece) → 1 ≤ size_of p → size_of p ≤ length (x ∷ b) → length (shown p (x ∷ b)) + length (lossy (drop (size_of p) (x ∷ b))) ≤ 3 * length (x ∷ b)
    of End l m = absurd (omega arith)
    of (WellFormed k) l m =
        let i = r (drop k (x ∷ b)) (omega (arith, length-drop k (x ∷ b))) in
        omega (arith, length-take k (x ∷ b), length-drop k (x ∷ b))
    of (IllFormed k) l m =
        let i = r (drop k (x ∷ b)) (omega (arith, length-drop k (x ∷ b))) in
        omega (arith, length-drop k (x ∷ b))

lossy_short : (n : ℕ) (b : List ℕ) → length b ≤ n → length (lossy b) ≤ 3 * length b
lossy_short zero [] h = rw lossy_end (omega arith)
lossy_short zero (x ∷ b) h = absurd (omega arith)
lossy_short (suc n) b h = lossy_step n (λ c. lossy_short n c) b h

pub line_short : (r : Reader) (image : List ℕ) (e : Entry) → e.file_id < 2 ^ 64 → e.date_added < 2 ^ 64 → e.kind < 2 ^ 64 → length (entry_line (entry_shown r image e) []) ≤ 80 + 6 * length (entry_name r image e)
unfolding entry_line entry_shown
line_short r image e i d k =
    let s = lossy_short (length (entry_name r image e)) (entry_name r image e) (omega arith) in
    let p = pairs_long (lossy (entry_name r image e)) (ascii "\n" []) in
    let x = digits_long e.kind (ascii " x" (pairs (lossy (entry_name r image e)) (ascii "\n" []))) k in
    let y = digits_long e.date_added (ascii " " (digits e.kind (ascii " x" (pairs (lossy (entry_name r image e)) (ascii "\n" []))))) d in
    let z = digits_long e.file_id (ascii " " (digits e.date_added (ascii " " (digits e.kind (ascii " x" (pairs (lossy (entry_name r image e)) (ascii "\n" []))))))) i in
    omega arith
