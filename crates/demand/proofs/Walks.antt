-- Two volumes that show one tree answer alike; two that answer alike show one tree.
use Prim.Native.Nat.{ℕ, zero, suc, ◌+◌}
use mathlib.Core.Path.{◌≡◌, refl, sym, ap, ◌∙◌}
use mathlib.Core.Bool.{Bool, true, false}
use mathlib.Core.List.{List, [], ◌∷◌, map, head-eq_of_cons-eq, tail-eq_of_cons-eq}
use native.Mathlib.Omega.{arith}
use lib.ListN.{length, take, drop}
use lib.Seq.{take_all}
use Rattle.error.specs.Answer.{Answer, Ok, Err, ◌>>=◌, pick}
use Rattle.error.specs.declared.Refusal.{Refusal}
use Rattle.error.specs.declared.Refusal.TheVariants.{Unsupported, NotFound, CharacterNotCovered}
use Rattle.utf8.specs.Text.{same_bytes}
use Rattle.volume.specs.Rule.{insensitive}
use Rattle.paths.specs.Names.{wide, same_keys}
use Rattle.paths.specs.Find.{exact_match, key_match, find_entry}
use Rattle.volume.specs.declared.rule.NameRule.{NameRule}
use Rattle.lines.specs.Shown.{InodeShown, EntryShown, AttributeShown, Contents, packed, plain}
use Rattle.demand.specs.Tree.{Tree, node, Entries, none, entry}
use Rattle.demand.specs.View.{View}
use Rattle.demand.specs.Listing.{holding, is_packed}
use Rattle.demand.specs.Lookup.{entry_label, descend}
use Rattle.demand.specs.Demand.{Met, here, nowhere, met, place, onward, follow, Agree, past, on}
use Rattle.demand.specs.Shows.{heads, heard, ShowsNode, Shows, ShowsAll}

-- what the demand rests on: the law of file reads, of each inode that there is, at every offset and length
pub record Reads (v : View) : Type 0 where
  pub of_packed : (i : ℕ) (f : InodeShown) → v.inode i ≡ Ok f → is_packed f ≡ true → (off len : ℕ) → v.read f.id off len ≡ Err Unsupported
  pub of_plain : (i : ℕ) (f : InodeShown) (bs : List ℕ) → v.inode i ≡ Ok f → is_packed f ≡ false → v.contents f.id ≡ Ok bs → (off len : ℕ) → v.read f.id off len ≡ Ok (take len (drop off bs))

-- ---- file reads

-- a read, by the contents alone
abbrev pub read_of : Contents → ℕ → ℕ → Answer (List ℕ)
read_of packed off len = Err Unsupported
read_of (plain bs) off len = Ok (take len (drop off bs))

pub read_shown : (v : View) → Reads v → (i : ℕ) (f : InodeShown) (l : List (AttributeShown (List ℕ))) (c : Contents) (es : List EntryShown) → ShowsNode v i f l c es → (off len : ℕ) → v.read f.id off len ≡ read_of c off len
read_shown v r i f l packed es h off len = r.of_packed i f h.inode h.contents off len
read_shown v r i f l (plain bs) es h off len = r.of_plain i f bs h.inode h.contents.0 h.contents.1 off len

-- the contents, by all reads
contents_read : (c d : Contents) → ((off len : ℕ) → read_of c off len ≡ read_of d off len) → c ≡ d
contents_read packed packed h = refl
contents_read packed (plain d) h = let e = h 0 0 in cc
contents_read (plain b) packed h = let e = h 0 0 in cc
contents_read (plain b) (plain d) h =
    let e = h 0 (length b + length d) in
    let p = take_all (length b + length d) b (omega arith) in
    let q = take_all (length b + length d) d (omega arith) in
    cc

-- ---- one tree

-- something of each
abbrev pub Every : (EntryShown → Type 0) → List EntryShown → Type 0
Every P [] = Unit
Every P (e ∷ es) = P e × Every P es

module _ (v w : View) where
  -- a tree that both show there
  abbrev Both : EntryShown → Type 0
  Both e = (t : Tree) × Shows v e.id t × Shows w e.id t

  both : (es : Entries) → ShowsAll v es → ShowsAll w es → Every Both (heads es)
  both none p q = tt
  both (entry e t es) p q = ((t, p.0, q.0), both es p.1 q.1)

  -- where two chains end: both nowhere, or at one node that both show
  pub data Ends (m n : Met) : Type 0 where
    ends_past : m ≡ nowhere → n ≡ nowhere → Ends m n
    ends_on : (i : ℕ) (f : InodeShown) (l : List (AttributeShown (List ℕ))) (c : Contents) (es : List EntryShown) → ShowsNode v i f l c es → ShowsNode w i f l c es → m ≡ here f → n ≡ here f → Ends m n

pub follow_nowhere : (v : View) (c : List ℕ) → follow v nowhere c ≡ nowhere
unfolding follow onward
follow_nowhere v [] = refl
follow_nowhere v (k ∷ c) = follow_nowhere v c

onward_shown : (v : View) (i : ℕ) (f : InodeShown) (l : List (AttributeShown (List ℕ))) (d : Contents) (es : List EntryShown) → ShowsNode v i f l d es → (k : ℕ) → onward v (met (v.inode i)) k ≡ place v es k
unfolding onward
onward_shown v i f l d es p k = rw (p.inode, onward, p.entries)

module _ (v w : View) where
  ends_below : (c : List ℕ) → ((i : ℕ) (t : Tree) → Shows v i t → Shows w i t → Ends v w (follow v (met (v.inode i)) c) (follow w (met (w.inode i)) c))
      → (es : List EntryShown) → Every (Both v w) es → (k : ℕ) → Ends v w (follow v (place v es k) c) (follow w (place w es k) c)
  unfolding place
  ends_below c all [] p k = ends_past (follow_nowhere v c) (follow_nowhere w c)
  ends_below c all (e ∷ es) p zero = all e.id p.0.0 p.0.1 p.0.2
  ends_below c all (e ∷ es) p (suc k) = ends_below c all es p.1 k

  pub ends : (c : List ℕ) (i : ℕ) (t : Tree) → Shows v i t → Shows w i t → Ends v w (follow v (met (v.inode i)) c) (follow w (met (w.inode i)) c)
  unfolding follow
  ends [] i (node f l d es) p q = ends_on i f l d (heads es) p.0 q.0 (ap met p.0.inode) (ap met q.0.inode)
  ends (k ∷ c) i (node f l d es) p q =
      rw (onward_shown v i f l d (heads es) p.0 k, onward_shown w i f l d (heads es) q.0 k)
      (ends_below c (ends c) (heads es) (both v w es p.1 q.1) k)

-- ---- one view, one tree

record Alike (v w : View) (f g : InodeShown) : Type 0 where
  fields : f ≡ g
  entries : v.entries f.id ≡ w.entries g.id
  attributes : v.attributes f.id ≡ w.attributes g.id
  reads : (off len : ℕ) → v.read f.id off len ≡ w.read g.id off len

agree_here : (v w : View) {m n : Met} (f g : InodeShown) → m ≡ here f → n ≡ here g → Agree v w m n → Alike v w f g
agree_here v w f g p q (past h k) = let z : ◌≡◌ {A = ℕ} 0 1 = cc in absurd (omega arith)
agree_here v w f g p q (on x h k e a r) =
    let hf : x ≡ f = cc in
    let hg : x ≡ g = cc in
    record { fields = cc; entries = cc; attributes = cc; reads = λ off len. let z = r off len in cc }

-- what was heard
abbrev value : Answer (List ℕ) → List ℕ
value (Ok d) = d
value (Err e) = []

unheard : (l : List (AttributeShown (List ℕ))) → map (λ (a : AttributeShown (Answer (List ℕ))). holding a (value a.contents)) (map heard l) ≡ l
unheard [] = refl
unheard (a ∷ l) = ap (a ∷◌) (unheard l)

pub heard_same : (l m : List (AttributeShown (List ℕ))) → map heard l ≡ map heard m → l ≡ m
heard_same l m h = sym (unheard l) ∙ ap (map (λ (a : AttributeShown (Answer (List ℕ))). holding a (value a.contents))) h ∙ unheard m

module _ (v w : View) where
  -- along every chain from the one and from the other
  abbrev pub Along : Met → Met → Type 0
  Along m n = (c : List ℕ) → Agree v w (follow v m c) (follow w n c)

  along_head : (e e' : EntryShown) (es fs : List EntryShown) → ((k : ℕ) → Along (place v (e ∷ es) k) (place w (e' ∷ fs) k)) → Along (met (v.inode e.id)) (met (w.inode e'.id))
  unfolding place
  along_head e e' es fs all = all 0

  along_tail : (e e' : EntryShown) (es fs : List EntryShown) → ((k : ℕ) → Along (place v (e ∷ es) k) (place w (e' ∷ fs) k)) → (k : ℕ) → Along (place v es k) (place w fs k)
  unfolding place
  along_tail e e' es fs all k = all (suc k)

  -- one node
  record OneNode (f g : InodeShown) (l k : List (AttributeShown (List ℕ))) (c d : Contents) (es fs : List EntryShown) : Type 0 where
    fields : f ≡ g
    attrs : l ≡ k
    contents : c ≡ d
    entries : es ≡ fs
    below : (k : ℕ) → Along (place v es k) (place w fs k)

  one_node : Reads v → Reads w → (i j : ℕ) (f g : InodeShown) (l k : List (AttributeShown (List ℕ))) (c d : Contents) (es fs : List EntryShown) → ShowsNode v i f l c es → ShowsNode w j g k d fs
      → Along (met (v.inode i)) (met (w.inode j)) → OneNode f g l k c d es fs
  unfolding follow
  one_node rv rw' i j f g l k c d es fs p q all =
      let a = agree_here v w f g (ap met p.inode) (ap met q.inode) (all []) in
      let pa = p.attributes in
      let qa = q.attributes in
      let pe = p.entries in
      let qe = q.entries in
      let aa = a.attributes in
      let ae = a.entries in
      let la : map heard l ≡ map heard k = cc in
      let le : es ≡ fs = cc in
      record {
        fields = a.fields;
        attrs = heard_same l k la;
        contents = contents_read c d (λ off len. sym (read_shown v rv i f l c es p off len) ∙ a.reads off len ∙ read_shown w rw' j g k d fs q off len);
        entries = le;
        below = λ n. rw (← onward_shown v i f l c es p n, ← onward_shown w j g k d fs q n) (λ r. all (n ∷ r));
      }

  mutual
    pub tree_same : Reads v → Reads w → (t u : Tree) (i j : ℕ) → Shows v i t → Shows w j u → Along (met (v.inode i)) (met (w.inode j)) → t ≡ u
    tree_same rv rw' (node f l c es) (node g k d fs) i j p q all =
        let o = one_node rv rw' i j f g l k c d (heads es) (heads fs) p.0 q.0 all in
        let r = entries_same rv rw' es fs o.entries p.1 q.1 o.below in
        λ i. node (o.fields i) (o.attrs i) (o.contents i) (r i)

    entries_same : Reads v → Reads w → (es fs : Entries) → heads es ≡ heads fs → ShowsAll v es → ShowsAll w fs → ((k : ℕ) → Along (place v (heads es) k) (place w (heads fs) k)) → es ≡ fs
    entries_same rv rw' none none h p q all = refl
    entries_same rv rw' none (entry b u fs) h p q all = let z : ◌≡◌ {A = ℕ} 0 1 = cc in absurd (omega arith)
    entries_same rv rw' (entry a t es) none h p q all = let z : ◌≡◌ {A = ℕ} 0 1 = cc in absurd (omega arith)
    entries_same rv rw' (entry a t es) (entry b u fs) h p q all =
        let x = tree_same rv rw' t u a.id b.id p.0 q.0 (along_head a b (heads es) (heads fs) all) in
        let r = entries_same rv rw' es fs (tail-eq_of_cons-eq h) p.1 q.1 (along_tail a b (heads es) (heads fs) all) in
        λ i. entry (head-eq_of_cons-eq h i) (x i) (r i)

-- ---- lookups

-- something of what was found
abbrev Holds : (EntryShown → Type 0) → Answer EntryShown → Type 0
Holds P (Ok e) = P e
Holds P (Err n) = Unit

module _ (P : EntryShown → Type 0) where
  pick_holds : (b : Bool) (x y : Answer EntryShown) → Holds P x → Holds P y → Holds P (pick b x y)
  pick_holds true x y p q = p
  pick_holds false x y p q = q

  exact_holds : (p : List ℕ) (es : List EntryShown) (other : Answer EntryShown) → Every P es → Holds P other → Holds P (exact_match entry_label p es other)
  unfolding exact_match
  exact_holds p [] other h k = k
  exact_holds p (e ∷ es) other h k = pick_holds (same_bytes p e.label) _ _ h.0 (exact_holds p es other h.1 k)

  module _ (r : NameRule) (p : List ℕ) where
    key_holds : (es : List EntryShown) → Every P es → Holds P (key_match r entry_label p es)
    unfolding key_match
    key_holds [] h = tt
    key_holds (e ∷ es) h = pick_holds (wide e.label) (Err CharacterNotCovered) _ tt (pick_holds (same_keys r.case_insensitive r.normalization_insensitive p e.label) (Ok e) _ h.0 (key_holds es h.1))

    find_holds : (es : List EntryShown) → Every P es → Holds P (find_entry r entry_label p es)
    unfolding find_entry
    find_holds es h = exact_holds p es _ h (pick_holds (insensitive r) _ (Err NotFound) (pick_holds (wide p) (Err CharacterNotCovered) _ tt (key_holds es h)) tt)

descend_no : (v : View) (n : Refusal) (ps : List (List ℕ)) → descend v (Err n) ps ≡ Err n
unfolding descend
descend_no v n [] = refl
descend_no v n (p ∷ ps) = descend_no v n ps

descend_node : (v : View) (i : ℕ) (f : InodeShown) (l : List (AttributeShown (List ℕ))) (d : Contents) (es : List EntryShown) → ShowsNode v i f l d es → (p : List ℕ) (ps : List (List ℕ))
    → descend v (v.inode i) (p ∷ ps) ≡ descend v (find_entry v.rule entry_label p es >>= λ e. v.inode e.id) ps
unfolding descend
descend_node v i f l d es h p ps = rw (h.inode, h.entries)

module _ (v w : View) (hr : v.rule ≡ w.rule) where
  descend_below : (ps : List (List ℕ)) → ((i : ℕ) (t : Tree) → Shows v i t → Shows w i t → descend v (v.inode i) ps ≡ descend w (w.inode i) ps)
      → (r : Answer EntryShown) → Holds (Both v w) r → descend v (r >>= λ e. v.inode e.id) ps ≡ descend w (r >>= λ e. w.inode e.id) ps
  descend_below ps all (Ok e) h = all e.id h.0 h.1 h.2
  descend_below ps all (Err n) h = descend_no v n ps ∙ sym (descend_no w n ps)

  pub descend_same : (ps : List (List ℕ)) (i : ℕ) (t : Tree) → Shows v i t → Shows w i t → descend v (v.inode i) ps ≡ descend w (w.inode i) ps
  unfolding descend
  descend_same [] i (node f l d es) p q = p.0.inode ∙ sym q.0.inode
  descend_same (x ∷ ps) i (node f l d es) p q =
      descend_node v i f l d (heads es) p.0 x ps
      ∙ descend_below ps (descend_same ps) (find_entry v.rule entry_label x (heads es)) (find_holds (Both v w) v.rule x (heads es) (both v w es p.1 q.1))
      ∙ rw hr (sym (descend_node w i f l d (heads es) q.0 x ps))
