-- Looking a path up. Document 01, "Records" and "Answers other than success"; the order of reading is that of fs.rs, `lookup_path`.
use Rattle.std.specs.Prelude.{ℕ, List, [], ◌∷◌}
use Rattle.error.specs.Answer.{Err, pick}
use Rattle.error.specs.declared.Refusal.TheVariants.{PathNotUtf8}
use Rattle.utf8.specs.Text.{lossy, strict}
use Rattle.obj.specs.declared.reader.Reader.{Reader}
use Rattle.lookup.specs.declared.counted.Counted.{Counted}
use Rattle.lookup.specs.Counted.{after, onto}
use Rattle.volume.specs.declared.Volume.{Volume}
use Rattle.records.specs.Directory.{entry_name}
use Rattle.records.specs.declared.directory.Entry.{Entry}
use Rattle.inode_record.specs.declared.inode.Inode.{Inode}
use Rattle.lists.specs.Lists.{entries_of, inode_of, root_of}
use Rattle.paths.specs.Parts.{parts_of}
use Rattle.volume.specs.Rule.{rule_of}
use Rattle.paths.specs.Find.{find_entry}

-- an entry's name, "comparisons read it lossily"
unfoldable pub name_read : Reader → List ℕ → Entry → List ℕ
name_read r b e = lossy (entry_name r b e)

-- the entry of the directory id that a part names, s nodes having been gone through before: "the whole list read first"
unfoldable pub entry_in : List ℕ → Volume → ℕ → List ℕ → ℕ → Counted Entry
entry_in b v id p s = onto (entries_of b v id s) λ es t. after t (find_entry (rule_of v) (name_read v.reader b) p es)

-- the inode of that entry
unfoldable pub part_inode : List ℕ → Volume → List ℕ → ℕ → ℕ → Counted Inode
part_inode b v p id s = onto (entry_in b v id p s) λ e t. inode_of b v e.file_id t

-- from what was reached, part after part
unfoldable pub walk_parts : List ℕ → Volume → Counted Inode → List (List ℕ) → Counted Inode
walk_parts b v c [] = c
walk_parts b v c (p ∷ ps) = walk_parts b v (onto c λ f t. part_inode b v p f.id t) ps

-- from the root (ROOT_DIR_INO_NUM is 2); 5 "path not UTF-8, after opening and before the root is read"
unfoldable pub lookup_path : List ℕ → Volume → List ℕ → ℕ → Counted Inode
lookup_path b v path s = pick (strict path) (walk_parts b v (root_of b v s) (parts_of path)) (after s (Err PathNotUtf8))
