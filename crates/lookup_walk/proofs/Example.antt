-- The hypotheses can be met: a map of three small blocks, a root of level 1 over two leaves, whose last entry has no value.
use Prim.Native.Nat.{ℕ, ◌<◌}
use mathlib.Core.Path.{◌≡◌, refl, ap, ◌∙◌}
use Rattle.std.specs.Prelude.{None, Some}
use mathlib.Core.List.{List, [], ◌∷◌, ◌++◌}
use mathlib.Core.Logic.{inl, inr, ⊎_elim}
use native.Mathlib.Omega.{arith}
use lib.Dec.{lit<}
use lib.ListN.{replicate}
use Rattle.error.specs.Answer.{Ok, if_le, if_eq}
use Rattle.byte_fields.specs.Number.{little, number_at}
use Rattle.byte_fields.specs.Part.{part_of, span_at}
use Rattle.arith.specs.Checked.{product_of}
use Rattle.checksum.specs.Fletcher.{words_at, words_of, sum, running, s1, s2, checksum, valid}
use Rattle.obj.specs.Block.{block_at, block_of, object_at}
use Rattle.obj.specs.Header.{header_at}
use Rattle.obj.specs.declared.reader.Reader.{Reader}
use Rattle.node.specs.Node.{fields_at, laid_out, body_of, node_of}
use Rattle.node.specs.Entry.{fixed_at, variable_at, row_at, with_value, key_value_at, child_at}
use Rattle.node.specs.Place.{no_part, place_of}
use Rattle.node.specs.declared.layout.Node.{Node}
use Rattle.node.specs.declared.layout.Info.{Info}
use Rattle.lookup.specs.Read.{node_at}
use Rattle.lookup.specs.Key.{key_in, key_at, target_key, NotAbove}
use Rattle.lookup.specs.declared.descent.Target.{Target}
use Rattle.lookup_walk.proofs.Climbs.{last_taken}
use Rattle.lookup_walk.specs.Walk.{Item, Tree, leaf, index, bare, branch, item_at, items_from, child_node, branches_from, node_tree, child_tree, tree_at, WellFormed, last_in, walk_le}

-- the root, the leaf of (5, 1) and (5, 7), and that of (9, 2) and (11, 1)
abbrev block1 : List ℕ
block1 =
    42 ∷ 243 ∷ 110 ∷ 252 ∷ 212 ∷ 11 ∷ 112 ∷ 3 ∷ 1 ∷ 0 ∷ 0 ∷ 0 ∷ 0 ∷ 0 ∷ 0 ∷ 0 ∷
    1 ∷ 0 ∷ 0 ∷ 0 ∷ 0 ∷ 0 ∷ 0 ∷ 0 ∷ 2 ∷ 0 ∷ 0 ∷ 0 ∷ 0 ∷ 0 ∷ 0 ∷ 0 ∷
    5 ∷ 0 ∷ 1 ∷ 0 ∷ 2 ∷ 0 ∷ 0 ∷ 0 ∷ 0 ∷ 0 ∷ 8 ∷ 0 ∷ 0 ∷ 0 ∷ 0 ∷ 0 ∷
    0 ∷ 0 ∷ 0 ∷ 0 ∷ 0 ∷ 0 ∷ 0 ∷ 0 ∷ 0 ∷ 0 ∷ 8 ∷ 0 ∷ 16 ∷ 0 ∷ 16 ∷ 0 ∷
    5 ∷ 0 ∷ 0 ∷ 0 ∷ 0 ∷ 0 ∷ 0 ∷ 0 ∷ 1 ∷ 0 ∷ 0 ∷ 0 ∷ 0 ∷ 0 ∷ 0 ∷ 0 ∷
    9 ∷ 0 ∷ 0 ∷ 0 ∷ 0 ∷ 0 ∷ 0 ∷ 0 ∷ 2 ∷ 0 ∷ 0 ∷ 0 ∷ 0 ∷ 0 ∷ 0 ∷ 0 ∷
    0 ∷ 0 ∷ 0 ∷ 0 ∷ 0 ∷ 0 ∷ 0 ∷ 0 ∷ 3 ∷ 0 ∷ 0 ∷ 0 ∷ 0 ∷ 0 ∷ 0 ∷ 0 ∷
    2 ∷ 0 ∷ 0 ∷ 0 ∷ 0 ∷ 0 ∷ 0 ∷ 0 ∷ 16 ∷ 0 ∷ 0 ∷ 0 ∷ 160 ∷ 0 ∷ 0 ∷ 0 ∷
    16 ∷ 0 ∷ 0 ∷ 0 ∷ 16 ∷ 0 ∷ 0 ∷ 0 ∷ 0 ∷ 0 ∷ 0 ∷ 0 ∷ 0 ∷ 0 ∷ 0 ∷ 0 ∷
    0 ∷ 0 ∷ 0 ∷ 0 ∷ 0 ∷ 0 ∷ 0 ∷ 0 ∷ 0 ∷ 0 ∷ 0 ∷ 0 ∷ 0 ∷ 0 ∷ 0 ∷ 0 ∷ []

abbrev block2 : List ℕ
block2 =
    153 ∷ 240 ∷ 23 ∷ 250 ∷ 92 ∷ 13 ∷ 176 ∷ 5 ∷ 1 ∷ 0 ∷ 0 ∷ 0 ∷ 0 ∷ 0 ∷ 0 ∷ 0 ∷
    1 ∷ 0 ∷ 0 ∷ 0 ∷ 0 ∷ 0 ∷ 0 ∷ 0 ∷ 3 ∷ 0 ∷ 0 ∷ 0 ∷ 0 ∷ 0 ∷ 0 ∷ 0 ∷
    6 ∷ 0 ∷ 0 ∷ 0 ∷ 2 ∷ 0 ∷ 0 ∷ 0 ∷ 0 ∷ 0 ∷ 8 ∷ 0 ∷ 0 ∷ 0 ∷ 0 ∷ 0 ∷
    0 ∷ 0 ∷ 0 ∷ 0 ∷ 0 ∷ 0 ∷ 0 ∷ 0 ∷ 0 ∷ 0 ∷ 16 ∷ 0 ∷ 16 ∷ 0 ∷ 32 ∷ 0 ∷
    5 ∷ 0 ∷ 0 ∷ 0 ∷ 0 ∷ 0 ∷ 0 ∷ 0 ∷ 1 ∷ 0 ∷ 0 ∷ 0 ∷ 0 ∷ 0 ∷ 0 ∷ 0 ∷
    5 ∷ 0 ∷ 0 ∷ 0 ∷ 0 ∷ 0 ∷ 0 ∷ 0 ∷ 7 ∷ 0 ∷ 0 ∷ 0 ∷ 0 ∷ 0 ∷ 0 ∷ 0 ∷
    0 ∷ 0 ∷ 0 ∷ 0 ∷ 0 ∷ 0 ∷ 0 ∷ 0 ∷ 0 ∷ 0 ∷ 0 ∷ 0 ∷ 0 ∷ 0 ∷ 0 ∷ 0 ∷
    0 ∷ 0 ∷ 0 ∷ 0 ∷ 0 ∷ 0 ∷ 0 ∷ 0 ∷ 0 ∷ 0 ∷ 0 ∷ 0 ∷ 0 ∷ 0 ∷ 0 ∷ 0 ∷
    0 ∷ 0 ∷ 0 ∷ 0 ∷ 160 ∷ 0 ∷ 0 ∷ 0 ∷ 78 ∷ 0 ∷ 0 ∷ 0 ∷ 0 ∷ 0 ∷ 0 ∷ 0 ∷
    0 ∷ 0 ∷ 0 ∷ 0 ∷ 160 ∷ 0 ∷ 0 ∷ 0 ∷ 77 ∷ 0 ∷ 0 ∷ 0 ∷ 0 ∷ 0 ∷ 0 ∷ 0 ∷ []

abbrev block3 : List ℕ
block3 =
    20 ∷ 247 ∷ 113 ∷ 253 ∷ 199 ∷ 7 ∷ 119 ∷ 2 ∷ 1 ∷ 0 ∷ 0 ∷ 0 ∷ 0 ∷ 0 ∷ 0 ∷ 0 ∷
    1 ∷ 0 ∷ 0 ∷ 0 ∷ 0 ∷ 0 ∷ 0 ∷ 0 ∷ 3 ∷ 0 ∷ 0 ∷ 0 ∷ 0 ∷ 0 ∷ 0 ∷ 0 ∷
    6 ∷ 0 ∷ 0 ∷ 0 ∷ 2 ∷ 0 ∷ 0 ∷ 0 ∷ 0 ∷ 0 ∷ 8 ∷ 0 ∷ 0 ∷ 0 ∷ 0 ∷ 0 ∷
    0 ∷ 0 ∷ 0 ∷ 0 ∷ 0 ∷ 0 ∷ 0 ∷ 0 ∷ 0 ∷ 0 ∷ 16 ∷ 0 ∷ 16 ∷ 0 ∷ 255 ∷ 255 ∷
    9 ∷ 0 ∷ 0 ∷ 0 ∷ 0 ∷ 0 ∷ 0 ∷ 0 ∷ 2 ∷ 0 ∷ 0 ∷ 0 ∷ 0 ∷ 0 ∷ 0 ∷ 0 ∷
    11 ∷ 0 ∷ 0 ∷ 0 ∷ 0 ∷ 0 ∷ 0 ∷ 0 ∷ 1 ∷ 0 ∷ 0 ∷ 0 ∷ 0 ∷ 0 ∷ 0 ∷ 0 ∷
    0 ∷ 0 ∷ 0 ∷ 0 ∷ 0 ∷ 0 ∷ 0 ∷ 0 ∷ 0 ∷ 0 ∷ 0 ∷ 0 ∷ 0 ∷ 0 ∷ 0 ∷ 0 ∷
    0 ∷ 0 ∷ 0 ∷ 0 ∷ 0 ∷ 0 ∷ 0 ∷ 0 ∷ 0 ∷ 0 ∷ 0 ∷ 0 ∷ 0 ∷ 0 ∷ 0 ∷ 0 ∷
    0 ∷ 0 ∷ 0 ∷ 0 ∷ 0 ∷ 0 ∷ 0 ∷ 0 ∷ 0 ∷ 0 ∷ 0 ∷ 0 ∷ 0 ∷ 0 ∷ 0 ∷ 0 ∷
    0 ∷ 0 ∷ 0 ∷ 0 ∷ 160 ∷ 0 ∷ 0 ∷ 0 ∷ 79 ∷ 0 ∷ 0 ∷ 0 ∷ 0 ∷ 0 ∷ 0 ∷ 0 ∷ []

pub image : List ℕ
image = replicate 160 0 ++ (block1 ++ (block2 ++ block3))

abbrev reader : Reader
reader = record { block_size = 160; block_count = 4 }

abbrev info : Info
info = record { flags = 16; key_size = 16; val_size = 16 }

abbrev root : Node
root = record { block = 1; toc = 56; keys = 64; vals = 120; nkeys = 2; flags = 5; level = 1 }

abbrev item : ℕ → ℕ → ℕ → ℕ → ℕ → Item
item oid xid block key value = record { key = (oid, xid); hit = record { block = block; key_off = key; key_len = 16; val_off = value; val_len = 16 } }

abbrev ghost : ℕ → ℕ → ℕ → ℕ → Item
ghost oid xid block key = record { key = (oid, xid); hit = record { block = block; key_off = key; key_len = 16; val_off = no_part; val_len = no_part } }

abbrev tree : Tree
tree =
    index
    (branch (5, 1) (leaf (item 5 1 2 64 144 ∷ item 5 7 2 80 128 ∷ []))
    (branch (9, 2) (leaf (item 9 2 3 64 144 ∷ ghost 11 1 3 80 ∷ [])) bare))

-- the root is what its block holds
pub root_read : node_at reader image 1 ≡ Ok root
unfolding image if_le if_eq little number_at part_of span_at product_of words_at words_of sum running s1 s2 checksum valid block_at block_of object_at header_at fields_at laid_out body_of node_of node_at
root_read = refl

tree_read : tree_at reader image info root ≡ Ok tree
unfolding image if_le if_eq little number_at part_of span_at product_of words_at words_of sum running s1 s2 checksum valid block_at block_of object_at header_at fields_at laid_out body_of node_of node_at fixed_at variable_at row_at with_value key_value_at place_of child_at key_in key_at item_at items_from child_node branches_from node_tree child_tree tree_at
tree_read = refl

pub well_formed : WellFormed reader image info root
well_formed = record {
  tree = tree;
  reads = tree_read;
  rising = (inr (refl, omega arith), (inl (omega arith), (inl (omega arith), tt)));
  firsts = (refl, tt, (refl, tt, tt));
}

-- the lookup of (11, 4) there, by the walk: the entry without a value
abbrev target : Target
target = record { oid = 11; xid = 4 }

below : (oid xid : ℕ) → oid < 11 → NotAbove (oid, xid) (target_key target)
below oid xid h = ⊎_elim (λ k. omega arith) (λ k. omega (arith, k.0))

pub ghost_found : walk_le reader image info target root ≡ Ok (Some (ghost 11 1 3 80).hit)
unfolding walk_le last_in
ghost_found =
    let a = item 5 1 2 64 144 in
    let b = item 5 7 2 80 128 in
    let c = item 9 2 3 64 144 in
    let d = ghost 11 1 3 80 in
    rw tree_read
    (ap Ok (last_taken target None a (b ∷ c ∷ d ∷ []) (below 5 1 (lit< tt)) ∙ (last_taken target (Some a.hit) b (c ∷ d ∷ []) (below 5 7 (lit< tt))
    ∙ (last_taken target (Some b.hit) c (d ∷ []) (below 9 2 (lit< tt)) ∙ last_taken target (Some c.hit) d [] (⊎_elim (λ k. omega arith) (λ k. omega (arith, k.1)))))))
