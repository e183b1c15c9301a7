-- What a call answers, after however many nodes, is what the view has: for a caller that holds an inode, a list or an attribute which it read.
use Prim.Native.Nat.{ℕ}
use mathlib.Core.Path.{◌≡◌, ap}
use mathlib.Core.List.{List, map}
use Rattle.error.specs.Answer.{Answer, Ok, ◌>>=◌}
use Rattle.volume.specs.declared.Volume.{Volume}
use Rattle.records.specs.declared.attribute.Attribute.{Attribute}
use Rattle.records.specs.declared.directory.Entry.{Entry}
use Rattle.inode_record.specs.declared.inode.Inode.{Inode}
use Rattle.lists.specs.Lists.{inode_of, entries_of, attributes_of}
use Rattle.files.specs.File.{read_file, read_whole}
use Rattle.links.specs.Link.{contents_of}
use Rattle.lines.specs.Shown.{inode_shown, entry_shown, attribute_shown}
use Rattle.demand.specs.Demand.{with_contents, inode_answer, entries_answer, attributes_answer, contents_answer, read_answer}
use Rattle.demand.proofs.Counts.{inode_even, entries_even, attributes_even, contents_even, read_even, whole_even}

module _ (image : List ℕ) (v : Volume) where
  pub inode_answer_lem : (id s : ℕ) → ((inode_of image v id s).answer >>= λ i. Ok (inode_shown v.reader image i)) ≡ inode_answer image v id
  unfolding inode_answer
  inode_answer_lem id s = ap (λ (a : Answer Inode). a >>= λ i. Ok (inode_shown v.reader image i)) (inode_even image v id s 0)

  pub entries_answer_lem : (id s : ℕ) → ((entries_of image v id s).answer >>= λ es. Ok (map (entry_shown v.reader image) es)) ≡ entries_answer image v id
  unfolding entries_answer
  entries_answer_lem id s = ap (λ (a : Answer (List Entry)). a >>= λ es. Ok (map (entry_shown v.reader image) es)) (entries_even image v id s 0)

  pub attributes_answer_lem : (id s : ℕ) → ((attributes_of image v id s).answer >>= λ l. Ok (map (with_contents image v) l)) ≡ attributes_answer image v id
  unfolding attributes_answer
  attributes_answer_lem id s = ap (λ (a : Answer (List Attribute)). a >>= λ l. Ok (map (with_contents image v) l)) (attributes_even image v id s 0)

  pub contents_answer_lem : (a : Attribute) (s : ℕ) → attribute_shown v.reader image a (contents_of image v a s).answer ≡ with_contents image v a
  contents_answer_lem a s = ap (λ (c : Answer (List ℕ)). attribute_shown v.reader image a c) (contents_even image v a s 0)

  -- of an inode that was read by its id
  module _ (id s : ℕ) (i : Inode) (found : (inode_of image v id s).answer ≡ Ok i) where
    pub read_answer_lem : (off len t : ℕ) → (read_file image v i off len t).answer ≡ read_answer image v id off len
    unfolding read_answer
    read_answer_lem off len t = rw (← inode_even image v id s 0, found) (read_even image v i off len t 0)

    pub whole_answer : (t : ℕ) → (read_whole image v i t).answer ≡ contents_answer image v id
    unfolding contents_answer
    whole_answer t = rw (← inode_even image v id s 0, found) (whole_even image v i t 0)
