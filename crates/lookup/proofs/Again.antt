-- A node that was read is read again from its block's bytes, with no test of the checksum.
use Prim.Native.Nat.{ℕ, ◌*◌}
use mathlib.Core.Path.{◌≡◌, refl}
use mathlib.Core.List.{List}
use native.Mathlib.Omega.{arith}
use Rattle.error.specs.Answer.{Answer, Ok, Err, ◌>>=◌}
use Rattle.error.proofs.Laws.{eq_cases}
use Rattle.byte_fields.specs.Part.{part_of}
use Rattle.byte_fields.specs.declared.Span.{Span}
use Rattle.obj.specs.Block.{block_of, object_at}
use Rattle.obj.specs.Header.{header_at}
use Rattle.obj.specs.declared.reader.Reader.{Reader}
use Rattle.obj.proofs.Places.{Lies, object_lies}
use Rattle.node.specs.Node.{node_of}
use Rattle.node.specs.declared.layout.Node.{Node}
use Rattle.lookup.specs.Read.{node_at}
use Rattle.lookup.proofs.Depth.{At, no_at, then_at, body_at}

pub read_again : (r : Reader) (b : List ℕ) (p : ℕ) (m : Node) → node_at r b p ≡ Ok m → node_of p (block_of r b p) ≡ Ok m
unfolding node_at block_of
read_again r b p m h = of (object_at r b p) (object_lies r b p) h
  where
    of : (a : Answer Span) → Lies r p a → (a >>= λ s. node_of p (part_of b s)) ≡ Ok m →
        node_of p (part_of b (record { start = p * r.block_size; len = r.block_size })) ≡ Ok m
    of (Ok s) k g = rw (k s refl) at g
    of (Err e) k g = absurd (let z : ◌≡◌ {A = ℕ} 0 1 = cc in omega arith)

-- and a node's block is the one whose bytes they were
pub again_block : (p : ℕ) (b : List ℕ) (m : Node) → node_of p b ≡ Ok m → m.block ≡ p
unfolding node_of
again_block p b =
    then_at p (header_at b) _ λ h.
    eq_cases (At p) (λ e. body_at p b) λ e.
    eq_cases (At p) (λ q. body_at p b) (λ q. no_at p _)
