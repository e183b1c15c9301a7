-- When a volume shows a tree: what it answers is what stands in the tree.
use Rattle.std.specs.Prelude.{ℕ, ◌≡◌, true, false, List, [], ◌∷◌, map}
use Rattle.error.specs.Answer.{Answer, Ok}
use Rattle.lines.specs.Shown.{InodeShown, EntryShown, AttributeShown, Contents, packed, plain}
use Rattle.demand.specs.View.{View}
use Rattle.demand.specs.Listing.{holding, is_packed}
use Rattle.demand.specs.Tree.{Tree, node, Entries, none, entry}

abbrev pub heads : Entries → List EntryShown
heads none = []
heads (entry e t es) = e ∷ heads es

abbrev pub heard : AttributeShown (List ℕ) → AttributeShown (Answer (List ℕ))
heard a = holding a (Ok a.contents)

abbrev pub ShowsContents : View → InodeShown → Contents → Type 0
ShowsContents v f packed = is_packed f ≡ true
ShowsContents v f (plain bs) = (is_packed f ≡ false) × (v.contents f.id ≡ Ok bs)

-- one node, without what is below its entries
pub record ShowsNode (v : View) (i : ℕ) (f : InodeShown) (l : List (AttributeShown (List ℕ))) (c : Contents) (es : List EntryShown) : Type 0 where
  pub inode : v.inode i ≡ Ok f
  pub attributes : v.attributes f.id ≡ Ok (map heard l)
  pub entries : v.entries f.id ≡ Ok es
  pub contents : ShowsContents v f c

abbrev mutual
  pub Shows : View → ℕ → Tree → Type 0
  Shows v i (node f l c es) = ShowsNode v i f l c (heads es) × ShowsAll v es

  pub ShowsAll : View → Entries → Type 0
  ShowsAll v none = Unit
  ShowsAll v (entry e t es) = Shows v e.id t × ShowsAll v es
