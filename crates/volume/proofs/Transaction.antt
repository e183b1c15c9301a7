-- Lookups in a volume's own object map use the number that the container was opened by. Document 02, request 04.
use Prim.Native.Nat.{ℕ, ◌/◌, ◌%◌}
use mathlib.Core.Path.{◌≡◌, sym, ap, ◌∙◌}
use mathlib.Core.List.{List}
use native.Mathlib.Omega.{arith}
use Rattle.error.specs.Answer.{Err, Ok, if_eq}
use Rattle.error.specs.declared.Refusal.TheVariants.{Unsupported}
use Rattle.error.proofs.Laws.{got_is, eq_cases}
use Rattle.obj.specs.Block.{block_of}
use Rattle.obj.specs.declared.reader.Reader.{Reader}
use Rattle.node.specs.Node.{info_of}
use Rattle.node.specs.declared.layout.Node.{Node}
use Rattle.lookup.specs.declared.counted.Counted.{Counted}
use Rattle.lookup.specs.Counted.{after}
use Rattle.lookup.specs.Read.{node_at}
use Rattle.lookup.specs.Map.{resolve_at}
use Rattle.lookup.specs.declared.map.Resolve.TheVariants.{Mapped}
use Rattle.lookup.proofs.Theorems.{read_block}
use Rattle.omap.specs.Load.{map_at}
use Rattle.omap.proofs.Depth.{from_got, map_number}
use Rattle.nx.specs.Open.{open_at}
use Rattle.nx.specs.Volume.{volume_superblock}
use Rattle.nx.specs.declared.container.Container.{Container}
use Rattle.nx.specs.declared.volume.VolumeSuperblock.{VolumeSuperblock}
use Rattle.nx.proofs.Numbers.{numbered_checkpoints}
use Rattle.volume.specs.Open.{open_from, volume_open, volume_of_image, numbered}
use Rattle.volume.specs.declared.Volume.{Volume}
use Rattle.volume.specs.declared.Which.{Which}

-- what a volume was opened with: its reader, its root, which was read, and the number that its map is looked up by
record Opened (image : List ℕ) (r : Reader) (xid : ℕ) (v : Volume) : Type 0 where
  reader : r ≡ v.reader
  root : node_at r image v.root.block ≡ Ok v.root
  number : v.map.xid ≡ xid

opened_with : (image : List ℕ) (r : Reader) (sb : VolumeSuperblock) (xid s : ℕ) (v : Volume) → (open_from image r sb xid s).answer ≡ Ok v → Opened image r xid v
unfolding open_from
opened_with image r sb xid s v e =
    let a = tested (sb.incompat / 32 % 2) 1 _ (tested (sb.fs_flags % 2) 0 _ e) in
    let m = from_got _ (map_at r image sb.omap_oid xid s).answer _ v a in
    let p = from_got _ (resolve_at r image (Mapped m.0) sb.root_tree_oid _).answer _ v m.2 in
    let n = from_got _ (node_at r image p.0) _ v p.2 in
    let i = from_got _ (info_of n.0 (block_of r image n.0.block)) _ v n.2 in
    let q = got_is _ v i.2 in
    let k : n.0 ≡ v.root = ap (λ (x : Volume). x.root) q in
    record {
      reader = ap (λ (x : Volume). x.reader) q;
      root = ap (λ (x : Node). node_at r image x.block) (sym k) ∙ (ap (node_at r image) (read_block r image p.0 n.0 n.1) ∙ (n.1 ∙ ap Ok k));
      number = ap (λ (x : Volume). x.map.xid) (sym q) ∙ sym (map_number r image sb.omap_oid xid s m.0 m.1);
    }
  where
    tested : (a b : ℕ) (x : Counted Volume) → (if_eq a b (after s (Err Unsupported)) x).answer ≡ Ok v → x.answer ≡ Ok v
    tested a b x = eq_cases (λ (y : Counted Volume). y.answer ≡ Ok v → x.answer ≡ Ok v) (λ h q. absurd (let z : ◌≡◌ {A = ℕ} 0 1 = cc in omega arith)) (λ h q. q)

-- a volume of an image: its container opened, and its root was read
pub record Rooted (image : List ℕ) (w : Which) (v : Volume) : Type 0 where
  pub container : Container
  pub opened : (open_at w.checkpoint image).answer ≡ Ok container
  pub reader : container.reader ≡ v.reader
  pub known : node_at v.reader image v.root.block ≡ Ok v.root
  pub number : v.map.xid ≡ container.sb.xid

pub rooted : (image : List ℕ) (w : Which) (v : Volume) → (volume_of_image image w).answer ≡ Ok v → Rooted image w v
unfolding volume_of_image volume_open
rooted image w v e =
    let c = from_got _ (open_at w.checkpoint image).answer _ v e in
    let s = from_got _ (volume_superblock image c.0 w.index _).answer _ v c.2 in
    let k = opened_with image c.0.reader s.0 c.0.sb.xid _ v s.2 in
    record { container = c.0; opened = c.1; reader = k.reader; known = rw k.reader at k.root; number = k.number }

pub looked_up_by : (image : List ℕ) (x index : ℕ) (v : Volume) → (volume_of_image image (numbered x index)).answer ≡ Ok v → v.map.xid ≡ x
looked_up_by image x index v e = let t = rooted image (numbered x index) v e in t.number ∙ (numbered_checkpoints.lookups image x t.container t.opened).0
