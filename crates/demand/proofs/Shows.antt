-- A listing that was not refused is the text of a tree that its volume shows.
use Prim.Native.Nat.{zero-le, ℕ, zero, suc, ◌≤◌, ◌<◌}
use mathlib.Core.Path.{◌≡◌, refl, sym, ap, subst, ◌∙◌}
use mathlib.Core.Bool.{Bool, true, false}
use mathlib.Core.List.{List, [], ◌∷◌, ◌++◌, map, append_assoc, append-nil}
use native.Mathlib.Omega.{arith}
use Rattle.error.specs.Answer.{Answer, Ok, Err, pick}
use Rattle.error.specs.declared.Refusal.{Refusal}
use Rattle.error.specs.declared.Refusal.TheVariants.{TooDeep}
use Rattle.error.proofs.Laws.{le_cases}
use Rattle.lines.specs.Shown.{InodeShown, EntryShown, AttributeShown, Contents, packed, plain}
use Rattle.lines.specs.Lines.{volume_line, contents_line, close}
use Rattle.totals.specs.Totals.{totals_of}
use Rattle.demand.specs.Trace.{End, done, stop, Trace, says, go_on, ◌then◌, reading, text_or, within}
use Rattle.demand.specs.Tree.{Tree, node, Entries, none, entry, of_attributes, of_tree, of_entries, foot, of_volume, depth_of, depth_in}
use Rattle.demand.specs.View.{View}
use Rattle.demand.specs.Shows.{heads, heard, ShowsContents, ShowsNode, Shows, ShowsAll}
use Rattle.demand.specs.Listing.{holding, attribute_lines, is_packed, data_line, entry_forms, node_form, footed, foot_lines, trace, listing, levels}
use Rattle.demand.proofs.TreeLaws.{Writes, volume_writes, node_writes, attribute_writes, contents_writes, entry_writes, close_writes, ◌next◌}

-- ---- traces that were done

stopped : {A : Type 0} (e : Refusal) → stop e ≡ done → A
stopped e h = let z : ◌≡◌ {A = ℕ} 0 1 = cc in absurd (omega arith)

module _ {R : Type 0} where
  pub then_done : (t u : Trace) {s : List ℕ} → t then u ≡ says s → ((a b : List ℕ) → t ≡ says a → u ≡ says b → a ++ b ≡ s → R) → R
  unfolding ◌then◌
  then_done t u {s} h then' = go t.text t.ended refl h
    where
      go : (a : List ℕ) (e : End) → t ≡ record { text = a; ended = e } → go_on a e u ≡ says s → R
      go a done p k = then' a u.text p (λ i. record { text = u.text; ended = (k i).ended }) (ap (λ z. z.text) k)
      go a (stop e) p k = stopped e (ap (λ z. z.ended) k)

  pub reading_done : {A : Type 0} (a : Answer A) (f : A → Trace) {s : List ℕ} → reading a f ≡ says s → ((x : A) → a ≡ Ok x → f x ≡ says s → R) → R
  unfolding reading
  reading_done (Ok x) f h then' = then' x refl h
  reading_done (Err e) f h then' = stopped e (ap (λ z. z.ended) h)

text_done : (a s : List ℕ) (e : End) → text_or a e ≡ Ok s → record { text = a; ended = e } ≡ says s
text_done a s done h = let p : a ≡ s = cc in ap says p
text_done a s (stop e) h = let z : ◌≡◌ {A = ℕ} 0 1 = cc in absurd (omega arith)

pub within_done : (m : ℕ) (t : Trace) (s : List ℕ) → within m t ≡ Ok s → t ≡ says s
unfolding within
within_done m t s =
    le_cases (λ (x : Answer (List ℕ)). x ≡ Ok s → t ≡ says s)
    (λ h k. text_done t.text s t.ended k)
    (λ h k. let z : ◌≡◌ {A = ℕ} 0 1 = cc in absurd (omega arith))

-- what is written is what was said
said : {f : List ℕ → List ℕ} {r s : List ℕ} → Writes f r → says r ≡ says s → Writes f s
said {f} p h = subst (Writes f) (ap (λ z. z.text) h) p

moved : {f : List ℕ → List ℕ} {r s : List ℕ} → Writes f r → r ≡ s → Writes f s
moved {f} p h = subst (Writes f) h p

-- ---- the listing's parts

record Attrs (l : List (AttributeShown (Answer (List ℕ)))) (c : Contents) (s : List ℕ) : Type 0 where
  list : List (AttributeShown (List ℕ))
  those : l ≡ map heard list
  text : Writes (of_attributes list c) s

attrs_done : (l : List (AttributeShown (Answer (List ℕ)))) (c : Contents) {s r : List ℕ} → attribute_lines l ≡ says s → Writes (contents_line c) r → Attrs l c (s ++ r)
unfolding attribute_lines
attrs_done [] c {r = r} h w = record { list = []; those = refl; text = moved w (ap (λ z. z.text ++ r) h) }
attrs_done (a ∷ l) c {r = r} h w =
    then_done _ _ h λ p q hp hq e.
    reading_done _ _ hp λ d hd k.
    let rest = attrs_done l c hq w in
    record {
      list = holding a d ∷ rest.list;
      those = λ i. holding a (hd i) ∷ rest.those i;
      text = moved (said (attribute_writes (holding a d)) k next rest.text) (sym (append_assoc p q r) ∙ ap (◌++ r) e);
    }

pub record Shown (v : View) (f : InodeShown) (s : List ℕ) : Type 0 where
  pub it : Contents
  pub shows : ShowsContents v f it
  pub text : Writes (contents_line it) s

pub contents_done : (v : View) (f : InodeShown) {s : List ℕ} → data_line v f ≡ says s → Shown v f s
unfolding data_line
contents_done v f {s} h = go (is_packed f) refl h
  where
    go : (b : Bool) → is_packed f ≡ b → pick b (says (contents_line packed [])) (reading (v.contents f.id) λ d. says (contents_line (plain d) [])) ≡ says s → Shown v f s
    go true e k = record { it = packed; shows = e; text = said (contents_writes packed) k }
    go false e k = reading_done _ _ k λ d hd g. record { it = plain d; shows = (e, hd); text = said (contents_writes (plain d)) g }

-- a tree that stands at that inode, in so many levels, and whose text is s
pub record TreeOf (v : View) (d i : ℕ) (s : List ℕ) : Type 0 where
  pub tree : Tree
  pub shows : Shows v i tree
  pub low : depth_of tree < d
  pub text : Writes (of_tree tree) s

record Forms (v : View) (d : ℕ) (es : List EntryShown) (s : List ℕ) : Type 0 where
  list : Entries
  those : es ≡ heads list
  shows : ShowsAll v list
  low : depth_in list ≤ d
  text : Writes (of_entries list) s

entries_done : (v : View) (d : ℕ) (form : ℕ → Trace) → ((i : ℕ) (s : List ℕ) → form i ≡ says s → TreeOf v d i s) → (es : List EntryShown) {s r : List ℕ} → entry_forms form es ≡ says s
    → Writes close r → Forms v d es (s ++ r)
unfolding entry_forms
entries_done v d form all [] {r = r} h w = record { list = none; those = refl; shows = tt; low = zero-le; text = moved w (ap (λ z. z.text ++ r) h) }
entries_done v d form all (e ∷ es) {r = r} h w =
    then_done _ _ h λ a b ha hb p.
    then_done _ _ hb λ c k hc hk q.
    then_done _ _ hk λ x y hx hy z.
    let kid = all e.id c hc in
    let rest = entries_done v d form all es hy w in
    record {
      list = entry e kid.tree rest.list;
      those = ap (e ∷◌) rest.those;
      shows = (kid.shows, rest.shows);
      low = omega arith;
      text = moved (said (entry_writes e) ha next kid.text next said close_writes hx next rest.text)
          (rw (← p, ← q, ← z) (simp append_assoc));
    }

pub node_done : (v : View) (d i : ℕ) (s : List ℕ) → node_form v d i ≡ says s → TreeOf v d i s
unfolding node_form
node_done v zero i s h = stopped TooDeep (ap (λ z. z.ended) h)
node_done v (suc d) i s h =
    reading_done _ _ h λ f hf h1.
    then_done _ _ h1 λ a b ha h2 e1.
    reading_done _ _ h2 λ l hl h3.
    reading_done _ _ h3 λ es he h4.
    then_done _ _ h4 λ p q hp h5 e2.
    then_done _ _ h5 λ x y hx h6 e3.
    then_done _ _ h6 λ z o hz ho e4.
    let c = contents_done v f hx in
    let k = attrs_done l c.it hp c.text in
    let kids = entries_done v d (node_form v d) (node_done v d) es hz (said close_writes ho) in
    record {
      tree = node f k.list c.it kids.list;
      shows = (record { inode = hf; attributes = hl ∙ ap Ok k.those; entries = he ∙ ap Ok kids.those; contents = c.shows }, kids.shows);
      low = omega arith;
      text = moved (said (node_writes f) ha next k.text next kids.text) (rw (← e1, ← e2, ← e3, ← e4) (simp append_assoc));
    }

-- all above the foot
pub record Body (v : View) (s : List ℕ) : Type 0 where
  pub tree : Tree
  pub shows : Shows v 2 tree
  pub low : depth_of tree < levels
  pub text : s ≡ volume_line (v.rule).case_insensitive (v.rule).normalization_insensitive v.label (of_tree tree [])

pub body_done : (v : View) {s : List ℕ} → says (volume_line (v.rule).case_insensitive (v.rule).normalization_insensitive v.label []) then node_form v levels 2 ≡ says s → Body v s
body_done v {s} h =
    then_done _ _ h λ a b ha hb e.
    let t = node_done v levels 2 b hb in
    record { tree = t.tree; shows = t.shows; low = t.low; text = sym ((moved (said (volume_writes v.rule v.label) ha next t.text) e).before [] ∙ append-nil s) }

-- the whole
pub record Listed (v : View) (s : List ℕ) : Type 0 where
  pub tree : Tree
  pub shows : Shows v 2 tree
  pub low : depth_of tree < levels
  pub text : s ≡ of_volume v.rule v.label tree

pub trace_done : (v : View) {s : List ℕ} → trace v ≡ says s → Listed v s
unfolding trace footed
trace_done v {s} h =
    then_done _ _ h λ a b ha hb e.
    let t = body_done v ha in
    let last : foot_lines (totals_of a) ≡ b = ap (λ (z : Trace). foot_lines (totals_of z.text)) (sym ha) ∙ ap (λ (z : Trace). z.text) hb in
    record { tree = t.tree; shows = t.shows; low = t.low; text = sym e ∙ ap (a ++◌) (sym last) ∙ ap foot t.text }

pub listing_done : (v : View) (m : ℕ) {s : List ℕ} → listing v m ≡ Ok s → Listed v s
unfolding listing
listing_done v m {s} h = trace_done v (within_done m _ s h)
