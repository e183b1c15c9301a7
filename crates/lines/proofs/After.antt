-- A word or a line before a text is the word or the line alone, and then the text; a line from its pieces.
use Prim.Native.Nat.{ℕ}
use mathlib.Core.Path.{◌≡◌, refl, sym, ap}
use mathlib.Core.Bool.{Bool}
use mathlib.Core.List.{List, [], ◌∷◌, ◌++◌}
use Rattle.std.specs.Prelude.{Option, None, Some}
use lib.IntN.{ℤ}
use Rattle.text.specs.Words.{ascii, digits, signed, pairs, bytes, bytes?, two?, words}
use Rattle.text.proofs.Digits.{digits_append, signed_append, pairs_append}
use Rattle.obj.specs.declared.reader.Reader.{Reader}
use Rattle.records.specs.declared.extent.Extent.{Extent}
use Rattle.inode_record.specs.declared.inode.Inode.{Inode}
use Rattle.inode_record.specs.declared.inode.Times.{Times}
use Rattle.inode_record.specs.declared.inode.Owner.{Owner}
use Rattle.lines.specs.Shown.{InodeShown, EntryShown, Form, embedded, streamed, AttributeShown, Contents, packed, plain, name_shown, stream_shown, inode_shown}
use Rattle.lines.specs.Lines.{bit, volume_line, node_line, form_text, attribute_line, contents_line, entry_line, extent_line, total_line, close}
use Rattle.lines.specs.Inner.{form_head, attribute_head, time_words, owner_words, node_head}

-- a word: what follows it only follows it
pub record Word : Type 0 where
  pub put : List ℕ → List ℕ
  pub after : (y x : List ℕ) → put (y ++ x) ≡ put y ++ x

pub bytes_append : (b y x : List ℕ) → bytes b (y ++ x) ≡ bytes b y ++ x
bytes_append b y x = rw (pairs_append b y x)

pub bytes?_append : (b : Option (List ℕ)) (y x : List ℕ) → bytes? b (y ++ x) ≡ bytes? b y ++ x
bytes?_append None y x = refl
bytes?_append (Some b) y x = bytes_append b y x

pub two?_append : (s : Option (ℕ × ℕ)) (y x : List ℕ) → two? s (y ++ x) ≡ two? s y ++ x
two?_append None y x = refl
two?_append (Some p) y x = rw (digits_append p.1 y x) (digits_append p.0 _ x)

abbrev pub num : ℕ → Word
num n = record { put = digits n; after = digits_append n }

abbrev pub int : ℤ → Word
int z = record { put = signed z; after = signed_append z }

abbrev pub hex : List ℕ → Word
hex b = record { put = bytes b; after = bytes_append b }

abbrev pub hex? : Option (List ℕ) → Word
hex? b = record { put = bytes? b; after = bytes?_append b }

abbrev pub nums? : Option (ℕ × ℕ) → Word
nums? s = record { put = two? s; after = two?_append s }

abbrev pub each : List Word → List (List ℕ → List ℕ)
each [] = []
each (w ∷ ws) = w.put ∷ each ws

pub words_append : (ws : List Word) (y x : List ℕ) → words (each ws) (y ++ x) ≡ words (each ws) y ++ x
words_append [] y x = refl
words_append (w ∷ ws) y x = rw (words_append ws y x) (ap (λ (t : List ℕ). 32 ∷ t) (w.after (words (each ws) y) x))

-- the lines, and what follows them
pub volume_append : (c n : Bool) (l x : List ℕ) → volume_line c n l x ≡ volume_line c n l [] ++ x
unfolding volume_line
volume_append c n l x = ap (ascii "(volume") (words_append (num (bit c) ∷ num (bit n) ∷ hex l ∷ []) (10 ∷ []) x)

pub node_append : (f : InodeShown) (x : List ℕ) → node_line f x ≡ node_line f [] ++ x
unfolding node_line
node_append f x = ap (ascii "(node") (words_append (
    num f.id ∷ num f.parent ∷ num f.own ∷ num f.create ∷ num f.modify ∷ num f.change ∷ num f.access
    ∷ num f.iflags ∷ int f.links ∷ num f.bsd ∷ num f.owner ∷ num f.group ∷ num f.mode
    ∷ hex? f.label ∷ nums? f.stream ∷ []) (10 ∷ []) x)

form_append : (v : Form) (d x : List ℕ) → form_text v d x ≡ form_text v d [] ++ x
unfolding form_text
form_append embedded d x = ap (ascii "e") (words_append (hex d ∷ []) (41 ∷ 10 ∷ []) x)
form_append (streamed o) d x = ap (ascii "s") (words_append (num o ∷ hex d ∷ []) (41 ∷ 10 ∷ []) x)

pub attribute_append : (a : AttributeShown (List ℕ)) (x : List ℕ) → attribute_line a x ≡ attribute_line a [] ++ x
unfolding attribute_line
attribute_append a x =
    rw (form_append a.form a.contents x)
    (ap (ascii "(attr") (words_append (num a.flags ∷ hex a.label ∷ []) (32 ∷ form_text a.form a.contents []) x))

pub contents_append : (c : Contents) (x : List ℕ) → contents_line c x ≡ contents_line c [] ++ x
unfolding contents_line
contents_append packed x = refl
contents_append (plain d) x = ap (ascii "(data") (words_append (hex d ∷ []) (41 ∷ 10 ∷ []) x)

pub entry_append : (e : EntryShown) (x : List ℕ) → entry_line e x ≡ entry_line e [] ++ x
unfolding entry_line
entry_append e x = ap (ascii "(entry") (words_append (num e.id ∷ num e.date_added ∷ num e.kind ∷ hex e.label ∷ []) (10 ∷ []) x)

pub extent_append : (e : Extent) (x : List ℕ) → extent_line e x ≡ extent_line e [] ++ x
unfolding extent_line
extent_append e x = ap (ascii "(extent") (words_append (num e.logical ∷ num e.len ∷ num e.phys_block ∷ []) (41 ∷ 10 ∷ []) x)

pub total_append : (n b a : ℕ) (x : List ℕ) → total_line n b a x ≡ total_line n b a [] ++ x
unfolding total_line
total_append n b a x = ap (ascii "(total") (words_append (num n ∷ num b ∷ num a ∷ []) (41 ∷ 10 ∷ []) x)

pub close_append : (x : List ℕ) → close x ≡ close [] ++ x
unfolding close
close_append x = refl

-- an attribute's line is its head, the digits of its contents, and the end
pub attribute_pieces : (a : AttributeShown (List ℕ)) (x : List ℕ)
    → attribute_line a x ≡ attribute_head a.flags a.label a.form (pairs a.contents (ascii ")\n" x))
unfolding attribute_line attribute_head form_text form_head
attribute_pieces a x = ap (λ (t : List ℕ). ascii "(attr" (words (digits a.flags ∷ bytes a.label ∷ []) t)) (of a.form)
  where
    of : (f : Form) → ascii " " (form_text f a.contents x) ≡ form_head f (pairs a.contents (ascii ")\n" x))
    of embedded = refl
    of (streamed o) = refl

formhead_append : (f : Form) (x : List ℕ) → form_head f x ≡ form_head f [] ++ x
unfolding form_head
formhead_append embedded x = refl
formhead_append (streamed o) x = ap (ascii " s") (words_append (num o ∷ []) (ascii " x" []) x)

pub attributehead_append : (n : ℕ) (l : List ℕ) (f : Form) (x : List ℕ) → attribute_head n l f x ≡ attribute_head n l f [] ++ x
unfolding attribute_head
attributehead_append n l f x = rw (formhead_append f x) (ap (ascii "(attr") (words_append (num n ∷ hex l ∷ []) (form_head f []) x))

-- and so is what a caller writes that has the contents
pub attribute_texts : (a : AttributeShown (List ℕ))
    → attribute_head a.flags a.label a.form [] ++ (pairs a.contents [] ++ ascii ")\n" []) ≡ attribute_line a []
attribute_texts a =
    rw (← pairs_append a.contents [] (ascii ")\n" []), ← attributehead_append a.flags a.label a.form (pairs a.contents (ascii ")\n" [])))
    (sym (attribute_pieces a []))

-- a file's line likewise
pub contents_pieces : (d x : List ℕ) → contents_line (plain d) x ≡ ascii "(data x" (pairs d (ascii ")\n" x))
unfolding contents_line
contents_pieces d x = refl

-- a node's line is its head, then its name and its stream
pub node_pieces : (r : Reader) (b : List ℕ) (i : Inode)
    → node_line (inode_shown r b i) [] ≡ node_head i (words (bytes? (name_shown r b i.place i.fields.name) ∷ two? (stream_shown i.fields.stream) ∷ []) (ascii "\n" []))
unfolding node_line inode_shown node_head time_words owner_words
node_pieces r b i = refl

pub times_append : (t : Times) (y x : List ℕ) → time_words t (y ++ x) ≡ time_words t y ++ x
unfolding time_words
times_append t = words_append (num t.create ∷ num t.modify ∷ num t.change ∷ num t.access ∷ [])

pub owner_append : (o : Owner) (y x : List ℕ) → owner_words o (y ++ x) ≡ owner_words o y ++ x
unfolding owner_words
owner_append o = words_append (num o.internal_flags ∷ int o.links ∷ num o.bsd_flags ∷ num o.owner ∷ num o.group ∷ num o.mode ∷ [])

pub nodehead_append : (i : Inode) (x : List ℕ) → node_head i x ≡ node_head i [] ++ x
unfolding node_head
nodehead_append i x =
    rw (owner_append i.owner [] x, times_append i.times (owner_words i.owner []) x)
    (ap (ascii "(node") (words_append (num i.id ∷ num i.ids.parent ∷ num i.ids.private_id ∷ []) (time_words i.times (owner_words i.owner [])) x))
