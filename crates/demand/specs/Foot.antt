-- THE TOTALS: what they say. Document 02, request 08. It is proved, as `totals_at_foot`, in proofs/Foot.antt.
--
-- Of any image, checkpoint, volume and buffer such that the listing is not refused:
--   1. its text is some lines, and behind them the total line of what those lines count for, line by line, and the last bracket;
--   2. those numbers are what the volume shows: the text is that of a tree that stands at the root, and the total line has its nodes, each as often as it
--      stands in the tree, the bytes of its files, none of a packed one, and its attributes.
use Rattle.std.specs.Prelude.{ℕ, ◌≡◌, List, []}
use Rattle.error.specs.Answer.{Ok}
use Rattle.volume.specs.declared.Which.{Which}
use Rattle.lists.specs.Lists.{root_id}
use Rattle.lines.specs.Lines.{volume_line}
use Rattle.demand.specs.View.{View}
use Rattle.demand.specs.Listing.{foot_lines}
use Rattle.demand.specs.Tree.{Tree, of_tree, foot, tree_totals}
use Rattle.demand.specs.Shows.{Shows}
use Rattle.demand.specs.Demand.{view_at, listing_of}

-- the text of a volume's tree with that tree's totals
pub record Totalled (v : View) (t : List ℕ) : Type 0 where
  pub tree : Tree
  pub shows : Shows v root_id tree
  pub text : t ≡ volume_line (v.rule).case_insensitive (v.rule).normalization_insensitive v.label (of_tree tree (foot_lines (tree_totals tree)))

pub record TotalsAtFoot : Type 0 where
  -- "Each equals the count over the lines above it"
  pub total_counts : (image : List ℕ) (w : Which) (room : ℕ) (t : List ℕ) → listing_of image w room ≡ Ok t → (above : List ℕ) × (t ≡ foot above)
  -- "node forms printed, bytes shown in data forms, and attr forms"
  pub totals_shown : (image : List ℕ) (w : Which) (room : ℕ) (t : List ℕ) → listing_of image w room ≡ Ok t → (v : View) × ((view_at image w ≡ Ok v) × Totalled v t)
