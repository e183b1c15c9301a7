-- Unique reading: one text, one volume line and one tree. And what follows a line only follows it.
use Prim.Native.Nat.{ℕ}
use mathlib.Core.Path.{◌≡◌, refl, sym, ap, ◌∙◌}
use mathlib.Core.Bool.{Bool, true, false}
use mathlib.Core.List.{List, [], ◌∷◌, ◌++◌, append_assoc, append-nil}
use lib.ListN.{drop}
use native.Mathlib.Omega.{arith}
use Rattle.volume.specs.declared.rule.NameRule.{NameRule}
use Rattle.lines.specs.Shown.{InodeShown, EntryShown, AttributeShown, Form, embedded, streamed, Contents, packed, plain}
use Rattle.lines.specs.Lines.{bit, volume_line, node_line, form_text, attribute_line, contents_line, entry_line, close}
use Rattle.lines.proofs.After.{volume_append, node_append, attribute_append, contents_append, entry_append, close_append}
use Rattle.totals.specs.Totals.{totals_of}
use Rattle.demand.specs.Listing.{foot_lines}
use Rattle.demand.specs.Tree.{Tree, node, Entries, none, entry, of_attributes, of_tree, of_entries, of_volume}
use Rattle.demand.proofs.Codes.{Code, num, int, hex, name, two, ◌&◌, as_parts, same, apart}

abbrev fields_code : Code InodeShown
fields_code = as_parts
    (λ f. (f.id, (f.parent, (f.own, (f.create, (f.modify, (f.change, (f.access, (f.iflags, (f.links, (f.bsd, (f.owner, (f.group, (f.mode, (f.label, f.stream)))))))))))))))
    (λ (n1, (n2, (n3, (n4, (n5, (n6, (n7, (n8, (z, (n10, (n11, (n12, (n13, (l, s)))))))))))))). record { id = n1; parent = n2; own = n3; create = n4; modify = n5; change = n6; access = n7; iflags = n8; links = z; bsd = n10; owner = n11; group = n12; mode = n13; label = l; stream = s })
    (λ f. refl)
    (num & num & num & num & num & num & num & num & int & num & num & num & num & name & two)

abbrev entry_code : Code EntryShown
entry_code = as_parts (λ e. (e.id, (e.date_added, (e.kind, e.label)))) (λ (i, (d, (k, l))). record { id = i; date_added = d; kind = k; label = l }) (λ e. refl) (num & num & num & hex)

form_same : (v w : Form) (d b : List ℕ) {x y : List ℕ} → form_text v d x ≡ form_text w b y → (v ≡ w) × (d ≡ b) × (x ≡ y)
unfolding form_text
form_same embedded embedded d b e = let p = same hex d b (ap (drop 2) e) tt tt in (refl, p.0, ap (drop 2) p.1)
form_same embedded (streamed o) d b e = apart 0 e tt
form_same (streamed o) embedded d b e = apart 0 e tt
form_same (streamed o) (streamed q) d b e =
    let p = same (num & hex) (o, d) (q, b) (ap (drop 2) e) tt tt in (ap (λ z. streamed z.0) p.0, ap (λ z. z.1) p.0, ap (drop 2) p.1)

contents_same : (c d : Contents) {x y : List ℕ} → contents_line c x ≡ contents_line d y → (c ≡ d) × (x ≡ y)
unfolding contents_line
contents_same packed packed e = (refl, ap (drop 9) e)
contents_same packed (plain d) e = apart 1 e tt
contents_same (plain b) packed e = apart 1 e tt
contents_same (plain b) (plain d) e = let p = same hex b d (ap (drop 6) e) tt tt in (ap plain p.0, ap (drop 2) p.1)

attrs_same : (l m : List (AttributeShown (List ℕ))) (c d : Contents) {x y : List ℕ} → of_attributes l c x ≡ of_attributes m d y → (l ≡ m) × (c ≡ d) × (x ≡ y)
unfolding contents_line attribute_line
attrs_same [] [] c d e = let p = contents_same c d e in (refl, p.0, p.1)
attrs_same [] (b ∷ m) packed d e = apart 1 e tt
attrs_same [] (b ∷ m) (plain z) d e = apart 1 e tt
attrs_same (a ∷ l) [] c packed e = apart 1 e tt
attrs_same (a ∷ l) [] c (plain z) e = apart 1 e tt
attrs_same (a ∷ l) (b ∷ m) c d e =
    let p = same (num & hex) (a.flags, a.label) (b.flags, b.label) (ap (drop 6) e) tt tt in
    let q = form_same a.form b.form a.contents b.contents (ap (drop 1) p.1) in
    let r = attrs_same l m c d q.2 in
    (λ i. record { flags = (p.0 i).0; label = (p.0 i).1; form = q.0 i; contents = q.1 i } ∷ r.0 i, r.1, r.2)

mutual
  unfolding node_line entry_line close

  tree_same : (t u : Tree) {x y : List ℕ} → of_tree t x ≡ of_tree u y → (t ≡ u) × (x ≡ y)
  tree_same (node f l c es) (node g k d fs) e =
      let p = same fields_code f g (ap (drop 6) e) tt tt in
      let q = attrs_same l k c d (ap (drop 1) p.1) in
      let r = entries_same es fs q.2 in
      (λ i. node (p.0 i) (q.0 i) (q.1 i) (r.0 i), r.1)

  entries_same : (es fs : Entries) {x y : List ℕ} → of_entries es x ≡ of_entries fs y → (es ≡ fs) × (x ≡ y)
  entries_same none none e = (refl, ap (drop 2) e)
  entries_same none (entry b u fs) e = apart 0 e tt
  entries_same (entry a t es) none e = apart 0 e tt
  entries_same (entry a t es) (entry b u fs) e =
      let p = same entry_code a b (ap (drop 7) e) tt tt in
      let q = tree_same t u (ap (drop 1) p.1) in
      let r = entries_same es fs (ap (drop 2) q.1) in
      (λ i. entry (p.0 i) (q.0 i) (r.0 i), r.1)

bit_same : (b c : Bool) → bit b ≡ bit c → b ≡ c
bit_same true true e = refl
bit_same true false e = absurd (omega arith)
bit_same false true e = absurd (omega arith)
bit_same false false e = refl

pub record SameText (r q : NameRule) (l m : List ℕ) (t u : Tree) : Type 0 where
  pub rule : r ≡ q
  pub label : l ≡ m
  pub tree : t ≡ u

-- ---- what follows a text only follows it: of a function that takes what follows, the text that it puts before that

pub record Writes (f : List ℕ → List ℕ) (s : List ℕ) : Type 0 where
  pub before : (x : List ℕ) → f x ≡ s ++ x

pub volume_writes : (r : NameRule) (l : List ℕ) → Writes (volume_line r.case_insensitive r.normalization_insensitive l) (volume_line r.case_insensitive r.normalization_insensitive l [])
volume_writes r l = record { before = volume_append r.case_insensitive r.normalization_insensitive l }

pub node_writes : (f : InodeShown) → Writes (node_line f) (node_line f [])
node_writes f = record { before = node_append f }

pub attribute_writes : (a : AttributeShown (List ℕ)) → Writes (attribute_line a) (attribute_line a [])
attribute_writes a = record { before = attribute_append a }

pub contents_writes : (c : Contents) → Writes (contents_line c) (contents_line c [])
contents_writes c = record { before = contents_append c }

pub entry_writes : (e : EntryShown) → Writes (entry_line e) (entry_line e [])
entry_writes e = record { before = entry_append e }

pub close_writes : Writes close (close [])
close_writes = record { before = close_append }

-- one text and then another
infixr 50 ◌next◌
pub ◌next◌ : {f g : List ℕ → List ℕ} {s r : List ℕ} → Writes f s → Writes g r → Writes (λ x. f (g x)) (s ++ r)
◌next◌ {f} {g} {s} {r} p q = record { before = λ x. p.before (g x) ∙ ap (s ++◌) (q.before x) ∙ sym (append_assoc s r x) }

-- ---- of a tree, and of a volume

attrs_writes : (l : List (AttributeShown (List ℕ))) (c : Contents) → (s : List ℕ) × Writes (of_attributes l c) s
attrs_writes [] c = (contents_line c [], contents_writes c)
attrs_writes (a ∷ l) c = let w = attrs_writes l c in (attribute_line a [] ++ w.0, attribute_writes a next w.1)

mutual
  tree_writes : (t : Tree) → (s : List ℕ) × Writes (of_tree t) s
  tree_writes (node f l c es) =
      let a = attrs_writes l c in
      let b = entries_writes es in
      (node_line f [] ++ (a.0 ++ b.0), node_writes f next a.1 next b.1)

  entries_writes : (es : Entries) → (s : List ℕ) × Writes (of_entries es) s
  entries_writes none = (close [], close_writes)
  entries_writes (entry e t es) =
      let a = tree_writes t in
      let b = entries_writes es in
      (entry_line e [] ++ (a.0 ++ (close [] ++ b.0)), entry_writes e next a.1 next close_writes next b.1)

follows : {f : List ℕ → List ℕ} {s : List ℕ} → Writes f s → (x : List ℕ) → f [] ++ x ≡ f x
follows {f} {s} p x = ap (◌++ x) (p.before [] ∙ append-nil s) ∙ sym (p.before x)

pub volume_split : (r : NameRule) (l : List ℕ) (t : Tree) → of_volume r l t
    ≡ volume_line r.case_insensitive r.normalization_insensitive l (of_tree t (foot_lines (totals_of (volume_line r.case_insensitive r.normalization_insensitive l (of_tree t [])))))
volume_split r l t = follows (volume_writes r l next (tree_writes t).1) _

pub volume_same : (r q : NameRule) (l m : List ℕ) (t u : Tree) → of_volume r l t ≡ of_volume q m u → SameText r q l m t u
unfolding volume_line
volume_same r q l m t u h =
    let e = sym (volume_split r l t) ∙ h ∙ volume_split q m u in
    let p = same (num & num & hex) (bit r.case_insensitive, (bit r.normalization_insensitive, l)) (bit q.case_insensitive, (bit q.normalization_insensitive, m)) (ap (drop 8) e) tt tt in
    let c = bit_same r.case_insensitive q.case_insensitive (ap (λ z. z.0) p.0) in
    let n = bit_same r.normalization_insensitive q.normalization_insensitive (ap (λ z. z.1.0) p.0) in
    record { rule = λ i. record { case_insensitive = c i; normalization_insensitive = n i }; label = ap (λ z. z.1.1) p.0; tree = (tree_same t u (ap (drop 1) p.1)).0 }
