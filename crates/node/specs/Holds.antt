-- What a place holds. Document 02, request 10: "Every place held before can be held now and leads to the same bytes": of an entry its node's block was held,
-- and where its key and its value, if it has one, lie inside the block. Proved in proofs/Held.antt.
use Rattle.std.specs.Prelude.{ℕ, ◌^◌, ◌<◌, ◌≡◌, List}
use Rattle.error.specs.Answer.{Ok}
use Rattle.obj.specs.Block.{block_of}
use Rattle.obj.specs.declared.reader.Reader.{Reader}
use Rattle.node.specs.Entry.{key_value_at}
use Rattle.node.specs.Place.{key_span, placed_value, place_at}
use Rattle.node.specs.declared.layout.Node.{Node}
use Rattle.node.specs.declared.layout.Info.{Info}
use Rattle.node.specs.declared.table.KeyValue.{KeyValue}
use Rattle.node.specs.declared.place.Place.{Place}

pub record Kept (m : Node) (e : KeyValue) (p : Place) : Type 0 where
  pub block : p.block ≡ m.block
  pub key : key_span p ≡ e.key
  pub value : placed_value p ≡ e.value

-- with blocks of any size that 32 bits hold
pub record Holds : Type 0 where
  pub held : (r : Reader) (image : List ℕ) (m : Node) (info : Info) (i : ℕ) (e : KeyValue) → r.block_size < 2 ^ 32 →
      key_value_at (block_of r image m.block) m info i ≡ Ok e → (p : Place) × (place_at r image m info i ≡ Ok p) × Kept m e p
