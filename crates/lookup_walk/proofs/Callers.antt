-- As callers see it: where the object map of a container, or of a volume, is well-formed, what is found through it is what a walk over all its entries
-- finds. Document 02, request 14: "trust the object map as they do the listing".
use Prim.Native.Nat.{ℕ}
use mathlib.Core.Path.{◌≡◌, refl, ap, ◌∙◌}
use mathlib.Core.List.{List}
use Rattle.std.specs.Prelude.{Option}
use Rattle.error.specs.Answer.{Answer, Ok, Err, ◌>>=◌}
use Rattle.lookup.specs.Counted.{after, from, onto}
use Rattle.lookup.specs.Map.{map_lookup, block_for, resolve_at}
use Rattle.lookup.specs.declared.map.MapValue.{MapValue}
use Rattle.lookup.specs.declared.map.Resolve.TheVariants.{Mapped}
use Rattle.nx.specs.Slots.{volumes_of, volume_at}
use Rattle.nx.specs.Volume.{volume_of, mapped_volume, volume_superblock}
use Rattle.nx.specs.declared.container.Container.{Container}
use Rattle.volume.specs.declared.Volume.{Volume}
use Rattle.lookup_walk.specs.Walk.{WellFormed, map_slow}
use Rattle.lookup_walk.proofs.QuickAndSlow.{map_is_slow, block_is_slow}

-- the superblock of a container's volume
module _ (image : List ℕ) (c : Container) (w : WellFormed c.reader image c.map.info c.map.root) where
  read_of : (a : Answer (Option MapValue)) (n : ℕ) → (from n a (λ v. after n (volume_of c.reader image v))).answer ≡ (a >>= volume_of c.reader image)
  read_of (Ok v) n = refl
  read_of (Err e) n = refl

  mapped : (oid s : ℕ) → (mapped_volume image c oid s).answer ≡ (map_slow c.reader image c.map oid >>= volume_of c.reader image)
  unfolding mapped_volume
  mapped oid s =
      read_of (map_lookup c.reader image c.map oid s).answer _
      ∙ ap (λ (a : Answer (Option MapValue)). a >>= volume_of c.reader image) (map_is_slow c.reader image c.map w oid s)

  pub volume_is_slow : (index s : ℕ) → (volume_superblock image c index s).answer
      ≡ (volume_at index (volumes_of image c.sb) >>= λ oid. map_slow c.reader image c.map oid >>= volume_of c.reader image)
  unfolding volume_superblock
  volume_is_slow index s = of (volume_at index (volumes_of image c.sb))
    where
      of : (a : Answer ℕ) → (from s a (λ oid. mapped_volume image c oid s)).answer ≡ (a >>= λ oid. map_slow c.reader image c.map oid >>= volume_of c.reader image)
      of (Ok oid) = mapped oid s
      of (Err e) = refl

-- the block of a node of a volume's tree
pub node_is_slow : (image : List ℕ) (v : Volume) → WellFormed v.reader image v.map.info v.map.root → (oid s : ℕ) →
    (resolve_at v.reader image (Mapped v.map) oid s).answer ≡ (map_slow v.reader image v.map oid >>= block_for)
node_is_slow image v w oid s = block_is_slow v.reader image v.map w oid s
