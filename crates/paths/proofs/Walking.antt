-- How a lookup goes on from part to part.
use Prim.Native.Nat.{ℕ, ◌+◌, ◌-◌, ◌≤◌, ◌<◌}
use mathlib.Core.Path.{◌≡◌, refl, sym, ap, ◌∙◌}
use mathlib.Core.Bool.{Bool, true, false}
use mathlib.Core.List.{List, [], ◌∷◌}
use lib.ListN.{length, drop}
use native.Mathlib.Omega.{arith}
use Rattle.error.specs.Answer.{Err, Ok}
use Rattle.error.specs.declared.Refusal.{Refusal}
use Rattle.error.specs.declared.Refusal.TheVariants.{PathNotUtf8}
use Rattle.error.proofs.Laws.{same, other, picked, not_picked}
use Rattle.byte_fields.specs.Part.{part_of}
use Rattle.byte_fields.specs.declared.Span.{Span}
use Rattle.utf8.specs.Text.{strict}
use Rattle.lookup.specs.declared.counted.Counted.{Counted}
use Rattle.lookup.specs.Counted.{after}
use Rattle.volume.specs.declared.Volume.{Volume}
use Rattle.inode_record.specs.declared.inode.Inode.{Inode}
use Rattle.lists.specs.Lists.{inode_of}
use Rattle.paths.specs.Parts.{parts_of}
use Rattle.paths.specs.Inner.{next_part}
use Rattle.paths.specs.Lookup.{part_inode, walk_parts, lookup_path}
use Rattle.paths.proofs.Parts.{parts_with, next_parts, next_from, next_in}

-- after a refusal no part is looked up
walk_refused : (b : List ℕ) (v : Volume) (n : ℕ) (w : Refusal) (ps : List (List ℕ)) → walk_parts b v (after n (Err w)) ps ≡ after n (Err w)
unfolding walk_parts
walk_refused b v n w [] = refl
walk_refused b v n w (p ∷ ps) = walk_refused b v n w ps

-- f was reached, and the part p is the next, if it is not empty
pub record Walking (b : List ℕ) (v : Volume) (path : List ℕ) (s : ℕ) (f : Counted Inode) (p : Span) : Type 0 where
  pub within : p.start + p.len ≤ length path
  pub rest : walk_parts b v f (parts_with path p) ≡ lookup_path b v path s

module _ (b : List ℕ) (v : Volume) (path : List ℕ) (s : ℕ) (k : Bool) (h : k ≡ strict path) where
  pub not_utf8 : k ≡ false → after s (Err PathNotUtf8) ≡ lookup_path b v path s
  unfolding lookup_path
  not_utf8 t = not_picked _ _ _ _ (sym h ∙ t) refl

  pub walk_begun : (f : Counted Inode) (p : Span) → k ≡ true → f ≡ inode_of b v 2 s → p ≡ next_part path 0 → Walking b v path s f p
  unfolding lookup_path
  walk_begun f p t g e = record {
    within = rw e (next_in path 0 (omega arith));
    rest = rw (e, next_parts path 0) (picked _ _ _ _ (sym h ∙ t) (rw g));
  }

module _ (b : List ℕ) (v : Volume) (path : List ℕ) (s : ℕ) (f : Counted Inode) (p : Span) (w : Walking b v path s f p) where
  pub walk_done : p.len ≤ 0 → f ≡ lookup_path b v path s
  unfolding walk_parts parts_with
  walk_done h =
      let z : p.len ≡ 0 = omega arith in
      ap (walk_parts b v f) (same _ _ _ _ _ z refl) ∙ w.rest

  module _ (h : 0 < p.len) where
    onward : walk_parts b v f (part_of path p ∷ parts_of (drop (p.start + p.len) path)) ≡ lookup_path b v path s
    unfolding parts_with
    onward =
        let z : p.len ≡ 0 → ⊥ = λ e. omega arith in
        ap (walk_parts b v f) (other _ _ _ _ _ z refl) ∙ w.rest

    pub walk_stops : (e : Refusal) → f.answer ≡ Err e → f ≡ lookup_path b v path s
    walk_stops e q = rw q (sym (walk_refused b v f.nodes e _) ∙ (rw q at onward))

    module _ (q : Span) (e : q ≡ next_part path (p.start + p.len)) where
      pub walk_less : length path - q.start < length path - p.start
      walk_less = rw e (omega (arith, w.within, next_from path (p.start + p.len)))

      pub walk_next : (dir : Inode) (part : List ℕ) (g : Counted Inode) → f.answer ≡ Ok dir → part ≡ part_of path p → g ≡ part_inode b v part dir.id f.nodes → Walking b v path s g q
      unfolding walk_parts
      walk_next dir part g d t i = record {
        within = rw e (next_in path (p.start + p.len) w.within);
        rest = rw (e, next_parts path (p.start + p.len), i, t) (rw d at onward);
      }
