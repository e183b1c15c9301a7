-- What the lines of a tree's text count for is what stands in the tree.
use Prim.Native.Nat.{ℕ, zero, suc, ◌+◌, ◌-◌, ◌*◌, ◌/◌, ◌%◌, ◌≤◌, ◌<◌}
use mathlib.Core.Path.{◌≡◌, refl, sym, ap, ◌∙◌}
use mathlib.Core.Bool.{Bool, true, false, cond}
use mathlib.Core.List.{List, [], ◌∷◌, ◌++◌, append_assoc}
use Rattle.std.specs.Prelude.{Option, Some}
use native.Mathlib.Omega.{arith}
use native.Mathlib.Nat.{zero-add, add-zero}
use lib.Dec.{T, eqb, ltb}
use borrow.Author.Tests.{eqb-false}
use lib.IntN.{ℤ, pos, negsuc}
use lib.ListN.{length}
use Rattle.error.specs.Answer.{pick, if_eq}
use Rattle.text.specs.Words.{ascii, places, digits, signed, glyph, pairs, bytes, bytes?, two?, words}
use Rattle.lines.specs.Shown.{InodeShown, EntryShown, AttributeShown, Form, embedded, streamed, Contents, packed, plain}
use Rattle.lines.specs.Lines.{bit, volume_line, node_line, form_text, attribute_line, contents_line, entry_line, close}
use Rattle.lines.proofs.After.{Word, num, int, hex, hex?, nums?, each, words_append}
use Rattle.totals.specs.declared.Totals.{Totals}
use Rattle.totals.specs.Totals.{lines_of, begins, counts, no_totals, line_totals, plus, all_lines, totals_of}
use Rattle.totals.proofs.Turns.{totals_start}
use Rattle.totals.proofs.Lines.{Unbroken, plus_assoc, totals_then}
use Rattle.demand.specs.Tree.{Tree, node, Entries, none, entry, of_attributes, of_tree, of_entries, shown_bytes, tree_totals, entries_totals}

-- ---- no word has an LF in it

places_flat : (k n : ℕ) (x : List ℕ) → Unbroken x → Unbroken (places k n x)
unfolding places
places_flat zero n x h = h
places_flat (suc k) zero x h = h
places_flat (suc k) (suc n) x h = places_flat k (suc n / 10) _ ((λ e. omega arith), h)

digits_flat : (n : ℕ) (x : List ℕ) → Unbroken x → Unbroken (digits n x)
unfolding digits
digits_flat n x h = places_flat n (n / 10) _ ((λ e. omega arith), h)

signed_flat : (z : ℤ) (x : List ℕ) → Unbroken x → Unbroken (signed z x)
unfolding signed
signed_flat (pos n) x h = digits_flat n x h
signed_flat (negsuc n) x h = ((λ e. omega arith), digits_flat (suc n) x h)

glyph_flat : (d : ℕ) → glyph d ≡ 10 → ⊥
unfolding glyph
glyph_flat d = of (ltb d 10)
  where
    of : (b : Bool) → cond b (48 + d) (87 + d) ≡ 10 → ⊥
    of true e = omega arith
    of false e = omega arith

pairs_flat : (b x : List ℕ) → Unbroken x → Unbroken (pairs b x)
unfolding pairs
pairs_flat [] x h = h
pairs_flat (c ∷ b) x h = (glyph_flat (c / 16), (glyph_flat (c % 16), pairs_flat b x h))

bytes_flat : (b x : List ℕ) → Unbroken x → Unbroken (bytes b x)
bytes_flat b x h = ((λ e. omega arith), pairs_flat b x h)

bytes?_flat : (b : Option (List ℕ)) (x : List ℕ) → Unbroken x → Unbroken (bytes? b x)
bytes?_flat Option.None x h = ((λ e. omega arith), h)
bytes?_flat (Some b) x h = bytes_flat b x h

two?_flat : (s : Option (ℕ × ℕ)) (x : List ℕ) → Unbroken x → Unbroken (two? s x)
two?_flat Option.None x h = ((λ e. omega arith), h)
two?_flat (Some p) x h = digits_flat p.0 _ ((λ e. omega arith), digits_flat p.1 x h)

-- a word, and that it has no LF in it
record Flat : Type 0 where
  word : Word
  flat : (x : List ℕ) → Unbroken x → Unbroken (word.put x)

abbrev number : ℕ → Flat
number n = record { word = num n; flat = digits_flat n }

abbrev integer : ℤ → Flat
integer z = record { word = int z; flat = signed_flat z }

abbrev hexes : List ℕ → Flat
hexes b = record { word = hex b; flat = bytes_flat b }

abbrev hexes? : Option (List ℕ) → Flat
hexes? b = record { word = hex? b; flat = bytes?_flat b }

abbrev numbers? : Option (ℕ × ℕ) → Flat
numbers? s = record { word = nums? s; flat = two?_flat s }

abbrev these : List Flat → List Word
these [] = []
these (w ∷ ws) = w.word ∷ these ws

words_flat : (ws : List Flat) (x : List ℕ) → Unbroken x → Unbroken (words (each (these ws)) x)
words_flat [] x h = h
words_flat (w ∷ ws) x h = ((λ e. omega arith), w.flat _ (words_flat ws x h))

-- of literal text
abbrev unbroken : List ℕ → Bool
unbroken [] = true
unbroken (c ∷ x) = cond (eqb c 10) false (unbroken x)

plain_text : (x : List ℕ) → T (unbroken x) → Unbroken x
plain_text [] h = tt
plain_text (c ∷ x) h = of (eqb c 10) refl h (plain_text x)
  where
    of : (b : Bool) → eqb c 10 ≡ b → T (cond b false (unbroken x)) → (T (unbroken x) → Unbroken x) → (c ≡ 10 → ⊥) × Unbroken x
    of true e h k = absurd h
    of false e h k = (eqb-false c 10 e, k h)

-- ---- a line: its first letters, its words, and what stands between them and its LF

abbrev line : List ℕ → List Flat → List ℕ → List ℕ
line head ws end = head ++ words (each (these ws)) end

both_flat : (head x : List ℕ) → Unbroken head → Unbroken x → Unbroken (head ++ x)
both_flat [] x h k = k
both_flat (c ∷ head) x h k = (h.0, both_flat head x h.1 k)

line_counts : (head : List ℕ) (ws : List Flat) (end x : List ℕ) → T (unbroken head) → T (unbroken end)
    → totals_of (head ++ words (each (these ws)) (end ++ 10 ∷ x)) ≡ plus (line_totals (line head ws end)) (totals_of x)
line_counts head ws end x h k =
    ap (λ (y : List ℕ). totals_of (head ++ y)) (words_append (these ws) end (10 ∷ x))
    ∙ ap totals_of (sym (append_assoc head (words (each (these ws)) end) (10 ∷ x)))
    ∙ totals_then (line head ws end) x (both_flat head _ (plain_text head h) (words_flat ws end (plain_text end k)))

-- ---- what each line counts for

pub node_counts : (f : InodeShown) (x : List ℕ) → totals_of (node_line f x) ≡ plus (counts 1 0 0) (totals_of x)
unfolding node_line line_totals begins if_eq
node_counts f x =
    line_counts (ascii "(node" []) (number f.id ∷ number f.parent ∷ number f.own ∷ number f.create ∷ number f.modify ∷ number f.change ∷ number f.access
    ∷ number f.iflags ∷ integer f.links ∷ number f.bsd ∷ number f.owner ∷ number f.group ∷ number f.mode ∷ hexes? f.label ∷ numbers? f.stream ∷ []) [] x tt tt

abbrev letter : (c : ℕ) → (c ≡ 10 → ⊥) → Flat
letter c h = record { word = record { put = λ x. c ∷ x; after = λ y x. refl }; flat = λ x k. (h, k) }

pub attribute_counts : (a : AttributeShown (List ℕ)) (x : List ℕ) → totals_of (attribute_line a x) ≡ plus (counts 0 0 1) (totals_of x)
unfolding attribute_line form_text line_totals begins if_eq
attribute_counts a x = of a.form
  where
    of : (f : Form) → totals_of (ascii "(attr" (words (digits a.flags ∷ bytes a.label ∷ []) (ascii " " (form_text f a.contents x)))) ≡ plus (counts 0 0 1) (totals_of x)
    of embedded = line_counts (ascii "(attr" []) (number a.flags ∷ hexes a.label ∷ letter 101 (λ e. omega arith) ∷ hexes a.contents ∷ []) (ascii ")" []) x tt tt
    of (streamed o) = line_counts (ascii "(attr" []) (number a.flags ∷ hexes a.label ∷ letter 115 (λ e. omega arith) ∷ number o ∷ hexes a.contents ∷ []) (ascii ")" []) x tt tt

pub pairs_length : (d x : List ℕ) → length (pairs d x) ≡ length d + length d + length x
unfolding pairs
pairs_length [] x = omega arith
pairs_length (c ∷ d) x = omega (arith, pairs_length d x)

data_bytes : (d : List ℕ) → (length (ascii "(data x" (pairs d (ascii ")" []))) - 7) / 2 ≡ length d
data_bytes d = omega (arith, pairs_length d (ascii ")" []))

pub contents_counts : (c : Contents) (x : List ℕ) → totals_of (contents_line c x) ≡ plus (counts 0 (shown_bytes c) 0) (totals_of x)
unfolding contents_line line_totals begins if_eq
contents_counts packed x = line_counts (ascii "(packed)" []) [] [] x tt tt
contents_counts (plain d) x =
    line_counts (ascii "(data" []) (hexes d ∷ []) (ascii ")" []) x tt tt
    ∙ ap (λ (n : ℕ). plus (counts 0 n 0) (totals_of x)) (data_bytes d)

pub entry_counts : (e : EntryShown) (x : List ℕ) → totals_of (entry_line e x) ≡ plus no_totals (totals_of x)
unfolding entry_line line_totals begins if_eq
entry_counts e x = line_counts (ascii "(entry" []) (number e.id ∷ number e.date_added ∷ number e.kind ∷ hexes e.label ∷ []) [] x tt tt

pub close_counts : (x : List ℕ) → totals_of (close x) ≡ plus no_totals (totals_of x)
unfolding close line_totals begins if_eq
close_counts x = line_counts (ascii ")" []) [] [] x tt tt

pub volume_counts : (c n : Bool) (l x : List ℕ) → totals_of (volume_line c n l x) ≡ plus no_totals (totals_of x)
unfolding volume_line line_totals begins if_eq
volume_counts c n l x = line_counts (ascii "(volume" []) (number (bit c) ∷ number (bit n) ∷ hexes l ∷ []) [] x tt tt

-- ---- and a tree

attrs_count : (l : List (AttributeShown (List ℕ))) (c : Contents) (x : List ℕ) → totals_of (of_attributes l c x) ≡ plus (counts 0 (shown_bytes c) (length l)) (totals_of x)
attrs_count [] c x = contents_counts c x
attrs_count (a ∷ l) c x =
    let t = totals_of x in
    let e : 1 + length l ≡ suc (length l) = omega arith in
    attribute_counts a _ ∙ ap (plus (counts 0 0 1)) (attrs_count l c x) ∙ sym (plus_assoc (counts 0 0 1) (counts 0 (shown_bytes c) (length l)) t)
    ∙ (λ i. plus (counts 0 (zero-add (shown_bytes c) i) (e i)) t)

mutual
  pub tree_counts : (t : Tree) (x : List ℕ) → totals_of (of_tree t x) ≡ plus (tree_totals t) (totals_of x)
  tree_counts (node f l c es) x =
      let own = counts 0 (shown_bytes c) (length l) in
      let rest = plus (entries_totals es) (totals_of x) in
      node_counts f _ ∙ ap (plus (counts 1 0 0)) (attrs_count l c _ ∙ ap (plus own) (entries_count es x))
      ∙ sym (plus_assoc (counts 1 0 0) own rest)
      ∙ (λ i. plus (counts 1 (zero-add (shown_bytes c) i) (zero-add (length l) i)) rest)
      ∙ sym (plus_assoc (counts 1 (shown_bytes c) (length l)) (entries_totals es) (totals_of x))

  entries_count : (es : Entries) (x : List ℕ) → totals_of (of_entries es x) ≡ plus (entries_totals es) (totals_of x)
  entries_count none x = close_counts x
  entries_count (entry e t es) x =
      entry_counts e _ ∙ totals_start _
      ∙ tree_counts t _ ∙ ap (plus (tree_totals t)) (close_counts _ ∙ totals_start _ ∙ entries_count es x)
      ∙ sym (plus_assoc (tree_totals t) (entries_totals es) (totals_of x))

pub totals_end : (u : Totals) → plus u (totals_of []) ≡ u
unfolding totals_of lines_of all_lines
totals_end u = λ i. counts (add-zero u.nodes i) (add-zero u.bytes i) (add-zero u.attrs i)

pub totals_tree : (c n : Bool) (l : List ℕ) (t : Tree) → totals_of (volume_line c n l (of_tree t [])) ≡ tree_totals t
totals_tree c n l t = volume_counts c n l _ ∙ totals_start _ ∙ tree_counts t [] ∙ totals_end (tree_totals t)
