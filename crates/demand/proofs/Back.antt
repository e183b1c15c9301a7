-- The other way: a tree that a volume shows, not too deep and with room for its text, is listed.
use Prim.Native.Nat.{ℕ, zero, suc, ◌≤◌, ◌<◌}
use mathlib.Core.Path.{◌≡◌, refl, sym, ap, subst, ◌∙◌}
use mathlib.Core.List.{List, [], ◌∷◌, map, head-eq_of_cons-eq, tail-eq_of_cons-eq}
use native.Mathlib.Omega.{arith}
use lib.ListN.{length}
use Rattle.error.specs.Answer.{Answer, Ok}
use Rattle.error.proofs.Laws.{at_most_lem}
use Rattle.lines.specs.Shown.{InodeShown, EntryShown, AttributeShown, Contents, packed, plain}
use Rattle.demand.specs.Trace.{done, Trace, ◌then◌, reading, within}
use Rattle.demand.specs.Tree.{Tree, node, Entries, none, entry, of_volume, depth_of, depth_in}
use Rattle.demand.specs.View.{View}
use Rattle.demand.specs.Listing.{attribute_lines, data_line, entry_forms, node_form, footed, trace, listing, levels}
use Rattle.demand.specs.Shows.{heads, heard, ShowsContents, Shows, ShowsAll}
use Rattle.demand.proofs.Shows.{trace_done}
use Rattle.demand.proofs.Walks.{heard_same}

-- ---- a volume shows one tree

contents_one : (v : View) (f : InodeShown) (c d : Contents) → ShowsContents v f c → ShowsContents v f d → c ≡ d
contents_one v f packed packed p q = refl
contents_one v f packed (plain d) p q = let a = q.0 in let z : ◌≡◌ {A = ℕ} 0 1 = cc in absurd (omega arith)
contents_one v f (plain b) packed p q = let a = p.0 in let z : ◌≡◌ {A = ℕ} 0 1 = cc in absurd (omega arith)
contents_one v f (plain b) (plain d) p q = let a = p.1 in let e = q.1 in cc

mutual
  pub tree_one : (v : View) (t u : Tree) (i : ℕ) → Shows v i t → Shows v i u → t ≡ u
  tree_one v (node f l c es) (node g k d fs) i p q =
      let a = p.0.inode in
      let b = q.0.inode in
      let e : f ≡ g = cc in
      let pa = p.0.attributes in
      let qa = q.0.attributes in
      let la : map heard l ≡ map heard k = cc in
      let pe = p.0.entries in
      let qe = q.0.entries in
      let le : heads es ≡ heads fs = cc in
      let hl = heard_same l k la in
      let hc = contents_one v g c d (subst (λ (x : InodeShown). ShowsContents v x c) e p.0.contents) q.0.contents in
      let r = entries_one v es fs le p.1 q.1 in
      λ j. node (e j) (hl j) (hc j) (r j)

  entries_one : (v : View) (es fs : Entries) → heads es ≡ heads fs → ShowsAll v es → ShowsAll v fs → es ≡ fs
  entries_one v none none h p q = refl
  entries_one v none (entry b u fs) h p q = let z : ◌≡◌ {A = ℕ} 0 1 = cc in absurd (omega arith)
  entries_one v (entry a t es) none h p q = let z : ◌≡◌ {A = ℕ} 0 1 = cc in absurd (omega arith)
  entries_one v (entry a t es) (entry b u fs) h p q =
      let e = head-eq_of_cons-eq h in
      let x = tree_one v t u b.id (subst (λ (y : EntryShown). Shows v y.id t) e p.0) q.0 in
      let r = entries_one v es fs (tail-eq_of_cons-eq h) p.1 q.1 in
      λ j. entry (e j) (x j) (r j)

-- ---- its listing is done

ends_then : (t u : Trace) → t.ended ≡ done → u.ended ≡ done → (t then u).ended ≡ done
unfolding ◌then◌
ends_then t u p q = rw p q

ends_reading : {A : Type 0} (a : Answer A) (f : A → Trace) (x : A) → a ≡ Ok x → (f x).ended ≡ done → (reading a f).ended ≡ done
unfolding reading
ends_reading a f x p q = rw p q

attrs_end : (l : List (AttributeShown (List ℕ))) → (attribute_lines (map heard l)).ended ≡ done
unfolding attribute_lines reading
attrs_end [] = refl
attrs_end (a ∷ l) = ends_then _ _ refl (attrs_end l)

contents_end : (v : View) (f : InodeShown) (c : Contents) → ShowsContents v f c → (data_line v f).ended ≡ done
unfolding data_line
contents_end v f packed p = rw p
contents_end v f (plain d) p = rw p.0 (ends_reading _ _ d p.1 refl)

mutual
  unfolding node_form entry_forms

  node_end : (v : View) (t : Tree) (i d : ℕ) → Shows v i t → depth_of t < d → (node_form v d i).ended ≡ done
  node_end v (node f l c es) i zero p h = absurd (omega arith)
  node_end v (node f l c es) i (suc d) p h =
      ends_reading _ _ f p.0.inode (ends_then _ _ refl
      (ends_reading _ _ (map heard l) p.0.attributes (ends_reading _ _ (heads es) p.0.entries
      (ends_then _ _ (attrs_end l) (ends_then _ _ (contents_end v f c p.0.contents) (ends_then _ _ (entries_end v es d p.1 (omega arith)) refl))))))

  entries_end : (v : View) (es : Entries) (d : ℕ) → ShowsAll v es → depth_in es ≤ d → (entry_forms (node_form v d) (heads es)).ended ≡ done
  entries_end v none d p h = refl
  entries_end v (entry e t es) d p h =
      ends_then _ _ refl (ends_then _ _ (node_end v t e.id d p.0 (omega arith)) (ends_then _ _ refl (entries_end v es d p.1 (omega arith))))

trace_end : (v : View) (t : Tree) → Shows v 2 t → depth_of t < levels → (trace v).ended ≡ done
unfolding trace footed
trace_end v t p h = ends_then _ _ (ends_then _ _ refl (node_end v t 2 levels p h)) refl

pub shown_listed : (v : View) (t : Tree) (room : ℕ) → Shows v 2 t → depth_of t < levels → length (of_volume v.rule v.label t) ≤ room
    → listing v room ≡ Ok (of_volume v.rule v.label t)
unfolding listing within
shown_listed v t room p h fits =
    let e : (trace v).ended ≡ done = trace_end v t p h in
    let a = trace_done v {s = (trace v).text} (λ i. record { text = (trace v).text; ended = e i }) in
    let s : (trace v).text ≡ of_volume v.rule v.label t = a.text ∙ ap (of_volume v.rule v.label) (tree_one v a.tree t 2 a.shows p) in
    sym (at_most_lem (length (trace v).text) room _ _ (Ok (of_volume v.rule v.label t)) (rw s fits) (rw (e, s)))
