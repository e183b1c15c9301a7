-- The third demand over what volumes answer: two listings made without refusal are equal exactly where their volumes are the same, and then every
-- lookup gets the same answer. Of the volumes it takes `Reads`, and for the lookups nothing.
use Prim.Native.Nat.{ℕ}
use mathlib.Core.Path.{◌≡◌, refl, sym, ap, subst, ◌∙◌}
use mathlib.Core.Logic.{◌↔◌}
use mathlib.Core.List.{List, [], ◌∷◌, ◌++◌}
use Rattle.error.specs.Answer.{Answer, Ok, Err, pick}
use Rattle.error.specs.declared.Refusal.TheVariants.{PathNotUtf8}
use Rattle.utf8.specs.Text.{strict}
use Rattle.paths.specs.Parts.{parts_of}
use Rattle.lines.specs.Shown.{InodeShown}
use Rattle.demand.specs.Tree.{of_volume}
use Rattle.demand.specs.View.{View}
use Rattle.demand.specs.Listing.{listing}
use Rattle.demand.specs.Lookup.{lookup}
use Rattle.demand.specs.Demand.{Met, met, onward, follow, chain, Agree, past, on, Same}
use Rattle.demand.proofs.TreeLaws.{SameText, volume_same}
use Rattle.demand.specs.Shows.{Shows}
use Rattle.demand.proofs.Shows.{Listed, listing_done}
use Rattle.demand.proofs.Walks.{Reads, Ends, ends_past, ends_on, ends, read_shown, tree_same, descend_same}

module _ (v w : View) where
  ends_agree : (m n : Met) → Reads v → Reads w → Ends v w m n → Agree v w m n
  ends_agree m n rv rw' (ends_past p q) = past p q
  ends_agree m n rv rw' (ends_on i f l c es p q hm hn) = on f hm hn (p.entries ∙ sym q.entries) (p.attributes ∙ sym q.attributes)
      (λ off len. read_shown v rv i f l c es p off len ∙ sym (read_shown w rw' i f l c es q off len))

  -- one text: one tree, that both show
  one_tree : (t u : List ℕ) (a : Listed v t) (b : Listed w u) → t ≡ u → SameText v.rule w.rule v.label w.label a.tree b.tree
  one_tree t u a b h = volume_same _ _ _ _ _ _ (sym a.text ∙ h ∙ b.text)

  both_show : (t u : List ℕ) (a : Listed v t) (b : Listed w u) → t ≡ u → Shows w 2 a.tree
  both_show t u a b h = subst (Shows w 2) (sym (one_tree t u a b h).tree) b.shows

  same_volumes : (t u : List ℕ) → Reads v → Reads w → Listed v t → Listed w u → t ≡ u → Same v w
  same_volumes t u rv rw' a b h =
      let s = one_tree t u a b h in
      record {
        label = s.label;
        rule = s.rule;
        chains = λ c. ends_agree _ _ rv rw' (ends v w c 2 a.tree a.shows (both_show t u a b h));
      }

  same_texts : (t u : List ℕ) → Reads v → Reads w → Listed v t → Listed w u → Same v w → t ≡ u
  same_texts t u rv rw' a b s =
      let e = tree_same v w rv rw' a.tree b.tree 2 2 a.shows b.shows s.chains in
      a.text ∙ (λ i. of_volume (s.rule i) (s.label i) (e i)) ∙ sym b.text

-- Any two listings made without refusal are equal exactly where their volumes are the same.
pub listings_same : (v w : View) (m n : ℕ) (t u : List ℕ) → Reads v → Reads w → listing v m ≡ Ok t → listing w n ≡ Ok u → (t ≡ u) ↔ Same v w
listings_same v w m n t u rv rw' p q =
    let a = listing_done v m p in
    let b = listing_done w n q in
    (same_volumes v w t u rv rw' a b, same_texts v w t u rv rw' a b)

-- Where they are equal, every path, of any bytes, gets the same answer or the same refusal's number.
pub lookups_same : (v w : View) (m n : ℕ) (t u : List ℕ) → listing v m ≡ Ok t → listing w n ≡ Ok u → t ≡ u → (path : List ℕ) → lookup v path ≡ lookup w path
unfolding lookup
lookups_same v w m n t u p q h path =
    let a = listing_done v m p in
    let b = listing_done w n q in
    let s = one_tree v w t u a b h in
    ap (λ (x : Answer InodeShown). pick (strict path) x (Err PathNotUtf8)) (descend_same v w s.rule (parts_of path) 2 a.tree a.shows (both_show v w t u a b h))

-- ---- that the definitions say what they should

follow_more : (v : View) (x : Met) (c : List ℕ) (k : ℕ) → follow v x (c ++ k ∷ []) ≡ onward v (follow v x c) k
unfolding follow
follow_more v x [] k = refl
follow_more v x (j ∷ c) k = follow_more v (onward v x j) c k

-- one more position leads on from where the chain led
pub chain_more : (v : View) (c : List ℕ) (k : ℕ) → chain v (c ++ k ∷ []) ≡ onward v (chain v c) k
chain_more v c k = follow_more v (met (v.inode 2)) c k
