-- Where an object that was read lies: nowhere but in its block.
use Prim.Native.Nat.{ℕ, ◌*◌, ◌+◌}
use mathlib.Core.Path.{◌≡◌, refl}
use mathlib.Core.List.{List}
use mathlib.Core.Bool.{Bool, true, false}
use lib.ListN.{length}
use native.Mathlib.Omega.{arith}
use Rattle.error.specs.Answer.{Answer, Ok, Err, ◌>>=◌, pick, if_le}
use Rattle.error.specs.declared.Refusal.{Refusal}
use Rattle.error.specs.declared.Refusal.TheVariants.{Io, Corrupt}
use Rattle.error.proofs.Laws.{le_cases, eq_cases}
use Rattle.byte_fields.specs.Part.{part_of, span_at}
use Rattle.byte_fields.specs.declared.Span.{Span}
use Rattle.arith.specs.Checked.{product_of}
use Rattle.checksum.specs.Fletcher.{valid}
use Rattle.obj.specs.Block.{block_at, object_at}
use Rattle.obj.specs.declared.reader.Reader.{Reader}

-- an answer that gives no other span than the block's at p
abbrev pub Lies : Reader → ℕ → Answer Span → Type 0
Lies r p a = (s : Span) → a ≡ Ok s → s ≡ record { start = p * r.block_size; len = r.block_size }

lies_no : (r : Reader) (p : ℕ) (e : Refusal) → Lies r p (Err e)
lies_no r p e s h = absurd (let z : ◌≡◌ {A = ℕ} 0 1 = cc in omega arith)

block_lies : (r : Reader) (size p : ℕ) → Lies r p (block_at r size p)
unfolding block_at product_of span_at
block_lies r size p =
    eq_cases (Lies r p) (λ e. lies_no r p _) λ e.
    le_cases (Lies r p) (λ h. lies_no r p _) λ h.
    le_cases
    (λ (a : Answer ℕ). Lies r p (a >>= λ off. if_le (off + r.block_size) size (Ok (record { start = off; len = r.block_size })) (Err Io)))
    (λ k. le_cases (Lies r p) (λ l s g. cc) (λ l. lies_no r p _))
    (λ k. lies_no r p _)

pub object_lies : (r : Reader) (b : List ℕ) (p : ℕ) → Lies r p (object_at r b p)
unfolding object_at
object_lies r b p = of (block_at r (length b) p) (block_lies r (length b) p)
  where
    kept : (x s : Span) (v : Bool) → pick v (Ok x) (Err Corrupt) ≡ Ok s → x ≡ s
    kept x s true h = cc
    kept x s false h = absurd (let z : ◌≡◌ {A = ℕ} 0 1 = cc in omega arith)

    of : (a : Answer Span) → Lies r p a → Lies r p (a >>= λ s. pick (valid (part_of b s)) (Ok s) (Err Corrupt))
    of (Ok x) k s h = let e : x ≡ s = kept x s (valid (part_of b x)) h in rw e at (k x refl)
    of (Err e) k s h = lies_no r p e s h
