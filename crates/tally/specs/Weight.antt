-- What a node's form and all below it count for, and how far below it the deepest node lies, over a volume's records. It needs no belief: of a node whose
-- form is written to its end these are the totals and the depth of the tree that the volume shows (`shown_weight`, measure, proofs/Shown.antt).
use Rattle.std.specs.Prelude.{ℕ, zero, suc, min, max, ◌+◌, ◌-◌, ◌^◌, List, [], ◌∷◌, length}
use Rattle.error.specs.Answer.{Answer, Ok, Err, if_eq}
use Rattle.totals.specs.declared.Totals.{Totals}
use Rattle.totals.specs.Totals.{counts, no_totals, plus}
use Rattle.btree.specs.Scan.{scan_of}
use Rattle.volume.specs.declared.Volume.{Volume}
use Rattle.volume.specs.Rule.{hashed_keys}
use Rattle.inode_record.specs.Inode.{compressed}
use Rattle.inode_record.specs.declared.inode.Inode.{Inode}
use Rattle.records.specs.Attribute.{attribute_at}
use Rattle.records.specs.Directory.{entry_at}
use Rattle.records.specs.declared.attribute.Attribute.{Attribute}
use Rattle.records.specs.declared.directory.Entry.{Entry}
use Rattle.lists.specs.Lists.{search_of, inode_of}
use Rattle.lists.specs.Inner.{readable}
use Rattle.files.specs.File.{size_of}
use Rattle.tally.specs.declared.counts.Tally.{Tally}

pub record Weight : Type 0 where
  pub totals : Totals
  pub below : ℕ

abbrev pub tally_told : Tally → Weight
tally_told t = record { totals = counts t.nodes t.bytes t.attrs; below = t.below }

-- a count that stays at 2^64 − 1
abbrev pub cap : ℕ → ℕ
cap n = min n (2 ^ 64 - 1)

abbrev pub capped : Weight → Weight
capped w = record { totals = counts (cap w.totals.nodes) (cap w.totals.bytes) (cap w.totals.attrs); below = cap w.below }

abbrev pub no_weight : Weight
no_weight = record { totals = no_totals; below = 0 }

-- one beside the other, and one a level lower
abbrev pub beside : Weight → Weight → Weight
beside a b = record { totals = plus a.totals b.totals; below = max a.below b.below }

abbrev pub under : Weight → Weight
under w = record { totals = w.totals; below = suc w.below }

-- an entry's node beside what was there, as the code counts it
abbrev pub entered : Weight → Weight → Weight
entered a b = record {
  totals = counts (cap (a.totals.nodes + b.totals.nodes)) (cap (a.totals.bytes + b.totals.bytes)) (cap (a.totals.attrs + b.totals.attrs));
  below = max a.below (cap (b.below + 1));
}

-- what the data form of an inode shows
unfoldable pub shown_size : Inode → ℕ
shown_size i = if_eq (compressed i) 1 0 (size_of i)

-- the attributes and the entries of an id, up to the first that can't be read
unfoldable pub attributes_on : List ℕ → Volume → ℕ → List Attribute
attributes_on b v id = readable (attribute_at v.reader b) (scan_of b (search_of v id 4) 0)

unfoldable pub entries_on : List ℕ → Volume → ℕ → List Entry
entries_on b v id = readable (entry_at (hashed_keys v) v.reader b) (scan_of b (search_of v id 9) 0)

-- a node by itself
abbrev pub own_weight : List ℕ → Volume → ℕ → Inode → Weight
own_weight b v id i = record { totals = counts 1 (shown_size i) (length (attributes_on b v id)); below = 0 }

unfoldable pub weigh_all : (ℕ → Weight) → List Entry → Weight
weigh_all w [] = no_weight
weigh_all w (e ∷ es) = beside (under (w e.file_id)) (weigh_all w es)

abbrev pub weight_by : List ℕ → Volume → (ℕ → Weight) → ℕ → Answer Inode → Weight
weight_by b v w id (Ok i) = beside (own_weight b v id i) (weigh_all w (entries_on b v id))
weight_by b v w id (Err e) = no_weight

unfoldable pub weight : List ℕ → Volume → ℕ → ℕ → Weight
weight b v zero id = no_weight
weight b v (suc d) id = weight_by b v (weight b v d) id (inode_of b v id 0).answer
