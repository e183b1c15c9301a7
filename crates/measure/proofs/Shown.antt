-- Of a tree that a volume shows, what its nodes count for and how deep it goes is what the records say.
use Prim.Native.Nat.{ℕ, zero, suc, max, ◌/◌, ◌%◌, ◌≤◌, ◌<◌}
use mathlib.Core.Path.{◌≡◌, refl, sym, ap, ◌∙◌}
use mathlib.Core.Bool.{Bool, true, false}
use mathlib.Core.List.{List, [], ◌∷◌, map, head-eq_of_cons-eq, tail-eq_of_cons-eq}
use native.Mathlib.Omega.{arith}
use lib.ListN.{length, length-map}
use Rattle.error.specs.Answer.{Answer, Ok, ◌>>=◌}
use Rattle.error.proofs.Laws.{got_is, bound, same, other}
use Rattle.totals.specs.declared.Totals.{Totals}
use Rattle.totals.specs.Totals.{counts, plus}
use Rattle.volume.specs.declared.Volume.{Volume}
use Rattle.volume.specs.Rule.{hashed_keys}
use Rattle.inode_record.specs.Inode.{compressed}
use Rattle.inode_record.specs.declared.inode.Inode.{Inode}
use Rattle.records.specs.Attribute.{attribute_at}
use Rattle.records.specs.Directory.{entry_at}
use Rattle.records.specs.declared.attribute.Attribute.{Attribute}
use Rattle.records.specs.declared.directory.Entry.{Entry}
use Rattle.lists.specs.Lists.{inode_of, attributes_of, entries_of}
use Rattle.lists.proofs.Reading.{listed}
use Rattle.lines.specs.Shown.{InodeShown, EntryShown, AttributeShown, Contents, packed, plain, inode_shown, entry_shown}
use Rattle.tally.specs.Weight.{Weight, beside, under, shown_size, attributes_on, entries_on, own_weight, weigh_all, weight_by, weight}
use Rattle.demand.specs.Tree.{Tree, node, Entries, none, entry, shown_bytes, tree_totals, entries_totals, depth_of, depth_in}
use Rattle.demand.specs.Shows.{heads, heard, ShowsContents, Shows, ShowsAll}
use Rattle.demand.specs.Demand.{view_of, with_contents, inode_answer, attributes_answer, entries_answer, contents_answer}
use Rattle.demand.proofs.Inodes.{inode_placed}
use Rattle.demand.proofs.Reading.{whole_length}
use borrow.Author.Tests.{eqb-true, eqb-false}

module _ (b : List ℕ) (v : Volume) where
  -- the inode, and the id that it shows
  record Found (id : ℕ) (f : InodeShown) : Type 0 where
    it : Inode
    found : (inode_of b v id 0).answer ≡ Ok it
    shown : inode_shown v.reader b it ≡ f
    named : f.id ≡ id

  find : (id : ℕ) (f : InodeShown) → inode_answer b v id ≡ Ok f → Found id f
  unfolding inode_answer inode_shown
  find id f h =
      let a = bound (inode_of b v id 0).answer _ f h in
      let q : inode_shown v.reader b a.0 ≡ f = got_is _ f a.1.1 in
      record { it = a.0; found = a.1.0; shown = q; named = sym (ap (λ (g : InodeShown). g.id) q) ∙ (inode_placed b v id 0 a.0 a.1.0).parts.named }

  attributes_long : (id : ℕ) (l : List (AttributeShown (List ℕ))) → attributes_answer b v id ≡ Ok (map heard l) → length (attributes_on b v id) ≡ length l
  unfolding attributes_answer attributes_on attributes_of
  attributes_long id l h =
      let a = bound (attributes_of b v id 0).answer _ _ h in
      let e : map (with_contents b v) a.0 ≡ map heard l = got_is _ _ a.1.1 in
      ap length (listed (attribute_at v.reader b) _ a.0 a.1.0) ∙ sym (length-map a.0 (with_contents b v)) ∙ ap length e ∙ length-map l heard

  record Those (id : ℕ) (es : List EntryShown) : Type 0 where
    them : List Entry
    listed : entries_on b v id ≡ them
    shown : map (entry_shown v.reader b) them ≡ es

  entries_those : (id : ℕ) (es : List EntryShown) → entries_answer b v id ≡ Ok es → Those id es
  unfolding entries_answer entries_on entries_of
  entries_those id es h =
      let a = bound (entries_of b v id 0).answer _ es h in
      record { them = a.0; listed = listed (entry_at (hashed_keys v) v.reader b) _ a.0 a.1.0; shown = got_is _ es a.1.1 }

  size_shown : (id : ℕ) (f : InodeShown) (a : Found id f) (c : Contents) → ShowsContents (view_of b v) f c → shown_size a.it ≡ shown_bytes c
  unfolding shown_size inode_shown contents_answer
  size_shown id f a packed h =
      let e : compressed a.it ≡ 1 = ap (λ (g : InodeShown). g.bsd / 32 % 2) a.shown ∙ eqb-true _ 1 h in
      sym (same _ _ _ _ _ e refl)
  size_shown id f a (plain d) h =
      let e : compressed a.it ≡ 1 → ⊥ = λ k. eqb-false _ 1 h.0 (sym (ap (λ (g : InodeShown). g.bsd / 32 % 2) a.shown) ∙ k) in
      let w = rw (a.named, a.found) at h.1 in
      sym (other _ _ _ _ _ e (whole_length b v a.it d w))

  mutual
    unfolding weight weigh_all entry_shown

    pub shown_weight : (t : Tree) (id d : ℕ) → Shows (view_of b v) id t → depth_of t < d → weight b v d id ≡ record { totals = tree_totals t; below = depth_of t }
    shown_weight (node f l c es) id zero p h = absurd (omega arith)
    shown_weight (node f l c es) id (suc d) p h =
        let a = find id f p.0.inode in
        let attrs = attributes_long id l (rw a.named at p.0.attributes) in
        let kids = entries_those id (heads es) (rw a.named at p.0.entries) in
        let own : own_weight b v id a.it ≡ record { totals = counts 1 (shown_bytes c) (length l); below = 0 } = λ i. record { totals = counts 1 (size_shown id f a c p.0.contents i) (attrs i); below = 0 } in
        let rest = ap (weigh_all (weight b v d)) kids.listed ∙ entries_weight es kids.them d kids.shown p.1 (omega arith) in
        let deep : max 0 (depth_in es) ≡ depth_in es = omega arith in
        ap (weight_by b v (weight b v d) id) a.found ∙ (λ i. beside (own i) (rest i)) ∙ (λ i. record { totals = tree_totals (node f l c es); below = deep i })

    entries_weight : (es : Entries) (xs : List Entry) (d : ℕ) → map (entry_shown v.reader b) xs ≡ heads es → ShowsAll (view_of b v) es → depth_in es ≤ d
        → weigh_all (weight b v d) xs ≡ record { totals = entries_totals es; below = depth_in es }
    entries_weight none [] d e p h = refl
    entries_weight none (x ∷ xs) d e p h = let z : ◌≡◌ {A = ℕ} 0 1 = cc in absurd (omega arith)
    entries_weight (entry a t es) [] d e p h = let z : ◌≡◌ {A = ℕ} 0 1 = cc in absurd (omega arith)
    entries_weight (entry a t es) (x ∷ xs) d e p h =
        let n : x.file_id ≡ a.id = ap (λ (y : EntryShown). y.id) (head-eq_of_cons-eq e) in
        let w : weight b v d x.file_id ≡ record { totals = tree_totals t; below = depth_of t } = ap (weight b v d) n ∙ shown_weight t a.id d p.0 (omega arith) in
        let r = entries_weight es xs d (tail-eq_of_cons-eq e) p.1 (omega arith) in
        λ i. beside (under (w i)) (r i)
