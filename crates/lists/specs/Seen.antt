-- An element of a list, read by g from the next record of a leaf; the shape of the loops over a list, on which no promise to a caller rests.
-- A list gone through so is `list_of` (`list_over`, `list_at`, `list_passed` and `list_no`, proofs/Reading.antt).
use Rattle.std.specs.Prelude.{ℕ}
use Rattle.error.specs.Answer.{Answer, Ok, Err}
use Rattle.node.specs.declared.place.Place.{Place}
use Rattle.lists.specs.declared.seen.Seen.{Seen}
use Rattle.lists.specs.declared.seen.Seen.TheVariants.{Over, Passed, Element, Refused}
use Rattle.btree.specs.declared.leaf.InLeaf.{InLeaf}
use Rattle.btree.specs.declared.leaf.InLeaf.TheVariants as leaf
use Rattle.records.specs.declared.directory.Entry.{Entry}
use Rattle.records.specs.declared.attribute.Attribute.{Attribute}
use Rattle.records.specs.declared.extent.Extent.{Extent}

abbrev pub seen_then : {A : Type 0} → Answer A → ℕ → Seen A
seen_then (Ok x) a = Element x a
seen_then (Err w) a = Refused w

abbrev pub seen_in : {A : Type 0} → (Place → Answer A) → InLeaf → Seen A
seen_in g (leaf.At p a) = seen_then (g p) a
seen_in g leaf.Passed = Passed
seen_in g leaf.End = Over
seen_in g (leaf.No w) = Refused w
