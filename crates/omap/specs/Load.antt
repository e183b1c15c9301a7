-- An object map, loaded from its object. Apple File System Reference, "Object Maps", omap_phys_t; document 01, omap.rs, `load`.
use Rattle.std.specs.Prelude.{ℕ, ◌/◌, ◌%◌, ◌^◌, List}
use Rattle.error.specs.Answer.{Answer, Ok, Err, ◌>>=◌, if_eq}
use Rattle.error.specs.declared.Refusal.TheVariants.{Corrupt, Unsupported}
use Rattle.byte_fields.specs.Number.{number_at}
use Rattle.byte_fields.specs.Part.{part_of}
use Rattle.arith.specs.Checked.{ticked}
use Rattle.obj.specs.Block.{block_of, object_at}
use Rattle.obj.specs.Header.{header_at, kind_of}
use Rattle.obj.specs.declared.reader.Reader.{Reader}
use Rattle.node.specs.Node.{info_of}
use Rattle.node.specs.declared.layout.Node.{Node}
use Rattle.node.specs.declared.layout.Info.{Info}
use Rattle.lookup.specs.declared.counted.Counted.{Counted}
use Rattle.lookup.specs.Counted.{after, from}
use Rattle.lookup.specs.Read.{node_at}
use Rattle.lookup.specs.declared.map.Map.{Map}

-- kind 0x0b, else 2; om_tree_type's storage type (its two highest bits) is physical (0x40000000), else 3; om_tree_oid
unfoldable pub tree_in : List ℕ → Answer ℕ
tree_in b =
    header_at b >>= λ h.
    if_eq (kind_of h) 0x0b
    (number_at 4 b 40 >>= λ type.
    if_eq (type / 2 ^ 30) 1 (number_at 8 b 48) (Err Unsupported))
    (Err Corrupt)

unfoldable pub tree_at : Reader → List ℕ → ℕ → Answer ℕ
tree_at r image p = object_at r image p >>= λ s. tree_in (part_of image s)

-- the tree is physical (BTREE_PHYSICAL, 0x10), with keys and values of 16 bytes
unfoldable pub physical : Info → Answer Info
physical info =
    if_eq (info.flags / 16 % 2) 0 (Err Corrupt)
    (if_eq info.key_size 16 (if_eq info.val_size 16 (Ok info) (Err Corrupt)) (Err Corrupt))

unfoldable pub layout_of : Reader → List ℕ → Node → Answer Info
layout_of r image root = info_of root (block_of r image root.block) >>= physical

-- the map of a tree's root as of a transaction, s nodes having been gone through
unfoldable pub map_of : Reader → List ℕ → Node → ℕ → ℕ → Counted Map
map_of r image root xid s = from s (layout_of r image root) λ info. after s (Ok (record { root = root; info = info; xid = xid }))

-- the map at an address; its root counts once it has passed as a node
unfoldable pub map_at : Reader → List ℕ → ℕ → ℕ → ℕ → Counted Map
map_at r image p xid s =
    from s (tree_at r image p) λ tree.
    from s (node_at r image tree) λ root.
    map_of r image root xid (ticked s)
