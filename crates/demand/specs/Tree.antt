-- What a listing shows, as a finite tree, its text, its totals and its depth. Document 01, "The listing (added)": "A node form holds entry forms and an entry form
-- holds a node form". Each function of the text takes what is to follow, `x`.
use Rattle.std.specs.Prelude.{ℕ, suc, max, List, [], ◌∷◌, ◌++◌, length}
use Rattle.volume.specs.declared.rule.NameRule.{NameRule}
use Rattle.lines.specs.Shown.{InodeShown, EntryShown, AttributeShown, Contents, packed, plain}
use Rattle.lines.specs.Lines.{volume_line, node_line, attribute_line, contents_line, entry_line, close}
use Rattle.totals.specs.Totals.{counts, no_totals, plus, totals_of}
use Rattle.totals.specs.declared.Totals.{Totals}
use Rattle.demand.specs.Listing.{foot_lines}

mutual
  pub data Tree : Type 0 where
    node : InodeShown → List (AttributeShown (List ℕ)) → Contents → Entries → Tree

  pub data Entries : Type 0 where
    none : Entries
    entry : EntryShown → Tree → Entries → Entries

-- the attributes, and the contents
abbrev pub of_attributes : List (AttributeShown (List ℕ)) → Contents → List ℕ → List ℕ
of_attributes [] c x = contents_line c x
of_attributes (a ∷ l) c x = attribute_line a (of_attributes l c x)

-- a node; its entries, and the end of the node
abbrev mutual
  pub of_tree : Tree → List ℕ → List ℕ
  of_tree (node f l c es) x = node_line f (of_attributes l c (of_entries es x))

  pub of_entries : Entries → List ℕ → List ℕ
  of_entries none x = close x
  of_entries (entry e t es) x = entry_line e (of_tree t (close (of_entries es x)))

-- "Each equals the count over the lines above it"
abbrev pub foot : List ℕ → List ℕ
foot above = above ++ foot_lines (totals_of above)

-- "`(volume C N LABEL` .. Then the root's node form, then `)`"
abbrev pub of_volume : NameRule → List ℕ → Tree → List ℕ
of_volume r l t = foot (volume_line r.case_insensitive r.normalization_insensitive l (of_tree t []))

-- "bytes shown in data forms", "a packed one with 0 bytes"
abbrev pub shown_bytes : Contents → ℕ
shown_bytes packed = 0
shown_bytes (plain d) = length d

-- "node forms printed, bytes shown in data forms, and attr forms", "a hard-linked file counting as often as it is printed"
abbrev mutual
  pub tree_totals : Tree → Totals
  tree_totals (node f l c es) = plus (counts 1 (shown_bytes c) (length l)) (entries_totals es)

  pub entries_totals : Entries → Totals
  entries_totals none = no_totals
  entries_totals (entry e t es) = plus (tree_totals t) (entries_totals es)

-- document 02, request 09, "the greatest depth of a listing": of the nodes below the root, which is at depth 0
abbrev mutual
  pub depth_of : Tree → ℕ
  depth_of (node f l c es) = depth_in es

  pub depth_in : Entries → ℕ
  depth_in none = 0
  depth_in (entry e t es) = max (suc (depth_of t)) (depth_in es)
