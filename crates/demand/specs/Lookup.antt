-- Looking a path up on what a volume answers. Document 01, "Records": "Paths split on / and \, empty parts dropped. Per part, the first exactly equal
-- name is taken, else the first with an equal key".
use Rattle.std.specs.Prelude.{ℕ, List, [], ◌∷◌}
use Rattle.error.specs.Answer.{Answer, Err, ◌>>=◌, pick}
use Rattle.error.specs.declared.Refusal.TheVariants.{PathNotUtf8}
use Rattle.utf8.specs.Text.{strict}
use Rattle.lists.specs.Lists.{root_id}
use Rattle.paths.specs.Parts.{parts_of}
use Rattle.paths.specs.Find.{find_entry}
use Rattle.lines.specs.Shown.{InodeShown, EntryShown}
use Rattle.demand.specs.View.{View}

abbrev pub entry_label : EntryShown → List ℕ
entry_label e = e.label

-- from the inode that was reached, part after part
unfoldable pub descend : View → Answer InodeShown → List (List ℕ) → Answer InodeShown
descend v a [] = a
descend v a (p ∷ ps) = descend v (a >>= λ f. v.entries f.id >>= λ es. find_entry v.rule entry_label p es >>= λ e. v.inode e.id) ps

-- from the root; 5 "path not UTF-8, after opening and before the root is read"
unfoldable pub lookup : View → List ℕ → Answer InodeShown
lookup v path = pick (strict path) (descend v (v.inode root_id) (parts_of path)) (Err PathNotUtf8)
