-- Paths without a part lead to the root. Document 01, "Marked lines of the table": "paths "" and "//" are the root".
use Prim.Native.Nat.{ℕ, ◌≤◌}
use mathlib.Core.Path.{◌≡◌, refl, sym, ap, ◌∙◌}
use mathlib.Core.Bool.{true}
use mathlib.Core.List.{List, [], ◌∷◌}
use lib.ListN.{length, drop_of_length-le}
use Rattle.error.specs.Answer.{if_le, if_eq}
use Rattle.utf8.specs.Text.{strict, replaced, replaced_in, piece_of, rest_of, if_in, agree}
use Rattle.volume.specs.declared.Volume.{Volume}
use Rattle.lists.specs.Lists.{inode_of}
use Rattle.paths.specs.Parts.{parts_of}
use Rattle.paths.specs.Inner.{leading}
use Rattle.paths.specs.Lookup.{walk_parts, lookup_path}
use Rattle.paths.proofs.Parts.{parts_empty, parts_skipped}
use Rattle.paths.proofs.Examples.{parts_slashes}

-- a path of separators alone has no part
pub parts_none : (x : List ℕ) → length x ≤ leading true x → parts_of x ≡ []
parts_none x h = sym (parts_skipped x) ∙ ap parts_of (drop_of_length-le x h) ∙ parts_empty

module _ (b : List ℕ) (v : Volume) (s : ℕ) where
  pub lookup_root : (path : List ℕ) → strict path ≡ true → parts_of path ≡ [] → lookup_path b v path s ≡ inode_of b v 2 s
  unfolding lookup_path walk_parts
  lookup_root path h e = rw (h, e)

  pub lookup_empty : lookup_path b v [] s ≡ inode_of b v 2 s
  unfolding strict replaced replaced_in
  lookup_empty = lookup_root [] refl parts_empty

  pub lookup_slashes : lookup_path b v (47 ∷ 47 ∷ []) s ≡ inode_of b v 2 s
  unfolding strict replaced replaced_in piece_of rest_of if_in if_le if_eq agree
  lookup_slashes = lookup_root (47 ∷ 47 ∷ []) refl parts_slashes
