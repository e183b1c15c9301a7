-- Lines as they are written: piece after piece.
use Prim.Native.Nat.{ℕ}
use mathlib.Core.Path.{◌≡◌, ◌∙◌}
use mathlib.Core.Bool.{Bool}
use mathlib.Core.List.{List, [], ◌∷◌}
use Rattle.std.specs.Prelude.{Option}
use lib.IntN.{ℤ}
use Rattle.utf8.specs.Text.{lossy}
use Rattle.text.specs.Output.{Output, puts}
use Rattle.text.specs.Words.{ascii, digits, signed, pairs, bytes, bytes?, two?, words}
use Rattle.text.proofs.Writing.{then, then_pairs}
use Rattle.text.proofs.Writing as text-laws
use Rattle.byte_fields.specs.declared.Span.{Span}
use Rattle.names.specs.declared.Name.{Name}
use Rattle.obj.specs.declared.reader.Reader.{Reader}
use Rattle.node.specs.declared.place.Place.{Place}
use Rattle.records.specs.Attribute.{attribute_name}
use Rattle.inode_record.specs.Inode.{inode_name}
use Rattle.records.specs.declared.attribute.Attribute.{Attribute}
use Rattle.records.specs.declared.attribute.AttributeData.{AttributeData}
use Rattle.records.specs.declared.attribute.AttributeData.TheVariants as contents
use Rattle.records.specs.declared.attribute.StreamData.{StreamData}
use Rattle.inode_record.specs.declared.fields.Dstream.{Dstream}
use Rattle.inode_record.specs.declared.inode.Inode.{Inode}
use Rattle.inode_record.specs.declared.inode.Times.{Times}
use Rattle.inode_record.specs.declared.inode.Owner.{Owner}
use Rattle.lines.specs.Shown.{Form, name_shown, stream_shown, inode_shown, form_shown, attribute_shown}
use Rattle.lines.specs.Lines.{bit, node_line, attribute_line}
use Rattle.lines.specs.Inner.{form_head, attribute_head, time_words, owner_words, node_head}
use Rattle.lines.proofs.After.{num, int, hex, hex?, nums?, words_append, times_append, owner_append, nodehead_append, attributehead_append, attribute_pieces, node_pieces}
use Rattle.std.specs.Prelude.{None, Some}

-- a piece is written from o to p, and then what follows it
module _ (room : ℕ) (o p z : Output) where
  pub then_number : (n : ℕ) (x : List ℕ) → p ≡ puts room (words (digits n ∷ []) []) o → z ≡ puts room x p → z ≡ puts room (words (digits n ∷ []) x) o
  then_number n x = then room o p z _ x _ (words_append (num n ∷ []) [] x)

  pub then_three : (l m n : ℕ) (x : List ℕ) → p ≡ puts room (words (digits l ∷ digits m ∷ digits n ∷ []) []) o → z ≡ puts room x p → z ≡ puts room (words (digits l ∷ digits m ∷ digits n ∷ []) x) o
  then_three l m n x = then room o p z _ x _ (words_append (num l ∷ num m ∷ num n ∷ []) [] x)

  -- a number that is passed on is read from its bits, so that m is n only by a law
  pub then_signed_number : (m n : ℤ) (x : List ℕ) → p ≡ puts room (words (signed m ∷ []) []) o → m ≡ n → z ≡ puts room x p → z ≡ puts room (words (signed n ∷ []) x) o
  then_signed_number m n x h e k = rw (← e) (then room o p z _ x _ (words_append (int m ∷ []) [] x) h k)

  -- C and N
  pub then_rule : (c n : Bool) (x : List ℕ) → p ≡ puts room (words (digits (bit c) ∷ digits (bit n) ∷ []) []) o → z ≡ puts room x p → z ≡ puts room (words (digits (bit c) ∷ digits (bit n) ∷ []) x) o
  then_rule c n x = then room o p z _ x _ (words_append (num (bit c) ∷ num (bit n) ∷ []) [] x)

  -- a name that was read in s, which is u
  pub then_name : (s u x : List ℕ) → p ≡ puts room (words (bytes (lossy s) ∷ []) []) o → s ≡ u → z ≡ puts room x p → z ≡ puts room (words (bytes (lossy u) ∷ []) x) o
  then_name s u x h e k = rw (← e) (then room o p z _ x _ (words_append (hex (lossy s) ∷ []) [] x) h k)

  pub then_times : (t : Times) (x : List ℕ) → p ≡ puts room (time_words t []) o → z ≡ puts room x p → z ≡ puts room (time_words t x) o
  then_times t x = then room o p z _ x _ (times_append t [] x)

  pub then_owner : (w : Owner) (x : List ℕ) → p ≡ puts room (owner_words w []) o → z ≡ puts room x p → z ≡ puts room (owner_words w x) o
  then_owner w x = then room o p z _ x _ (owner_append w [] x)

  pub then_label : (l : Option (List ℕ)) (x : List ℕ) → p ≡ puts room (words (bytes? l ∷ []) []) o → z ≡ puts room x p → z ≡ puts room (words (bytes? l ∷ []) x) o
  then_label l x = then room o p z _ x _ (words_append (hex? l ∷ []) [] x)

  pub then_stream : (s : Option (ℕ × ℕ)) (x : List ℕ) → p ≡ puts room (words (two? s ∷ []) []) o → z ≡ puts room x p → z ≡ puts room (words (two? s ∷ []) x) o
  then_stream s x = then room o p z _ x _ (words_append (nums? s ∷ []) [] x)

  pub then_head : (n : ℕ) (l : List ℕ) (f : Form) (x : List ℕ) → p ≡ puts room (attribute_head n l f []) o → z ≡ puts room x p → z ≡ puts room (attribute_head n l f x) o
  then_head n l f x = then room o p z _ x _ (attributehead_append n l f x)

  -- a node's line from what comes before its name
  pub node_line_lem : (r : Reader) (b : List ℕ) (i : Inode) → p ≡ puts room (node_head i []) o
      → z ≡ puts room (words (bytes? (name_shown r b i.place i.fields.name) ∷ two? (stream_shown i.fields.stream) ∷ []) (ascii "\n" [])) p
      → z ≡ puts room (node_line (inode_shown r b i) []) o
  node_line_lem r b i = then room o p z _ _ _ (node_pieces r b i ∙ nodehead_append i _)

  -- an attribute's line, with the bytes s, which are d, from its head
  pub attribute_line_lem : (r : Reader) (b : List ℕ) (a : Attribute) (s d : List ℕ) (q : Output) → p ≡ puts room (attribute_head a.flags (lossy (attribute_name r b a)) (form_shown a.contents) []) o
      → q ≡ puts room (pairs s []) p → s ≡ d → z ≡ puts room (ascii ")\n" []) q → z ≡ puts room (attribute_line (attribute_shown r b a d) []) o
  unfolding attribute_shown
  attribute_line_lem r b a s d q h k e l = rw (attribute_pieces (attribute_shown r b a d) [], ← e) (then_head _ _ _ _ h (then_pairs room p q z s _ k l))

  -- C and N from their numbers
  pub rule_words : (c n : Bool) (k l : ℕ) → p ≡ puts room (words (digits k ∷ []) []) o → k ≡ bit c → z ≡ puts room (words (digits l ∷ []) []) p → l ≡ bit n
      → z ≡ puts room (words (digits (bit c) ∷ digits (bit n) ∷ []) []) o
  rule_words c n k l h e i f = rw (← e, ← f) (then_number k _ h i)

pub signed_is : (room : ℕ) (o z : Output) (m n : ℤ) → z ≡ puts room (signed m []) o → m ≡ n → z ≡ puts room (signed n []) o
signed_is room o z m n h e = rw e at h

-- by what an inode has
module _ (room : ℕ) (o z : Output) where
  module _ (r : Reader) (b : List ℕ) (p : Place) (f : Option Name) where
    pub label_absent : f ≡ None → z ≡ puts room (ascii " -" []) o → z ≡ puts room (words (bytes? (name_shown r b p f) ∷ []) []) o
    label_absent e h = rw e h

    pub label_at : (n : Name) (l : List ℕ) → f ≡ Some n → z ≡ puts room (words (bytes (lossy l) ∷ []) []) o → l ≡ inode_name r b p n → z ≡ puts room (words (bytes? (name_shown r b p f) ∷ []) []) o
    label_at n l e h k = rw (e, ← k) h

  module _ (s : Option Dstream) where
    pub stream_absent : s ≡ None → z ≡ puts room (ascii " -" []) o → z ≡ puts room (words (two? (stream_shown s) ∷ []) []) o
    stream_absent e h = rw e h

    pub stream_at : (d : Dstream) → s ≡ Some d → z ≡ puts room (words (digits d.size ∷ []) (ascii "," (digits d.alloced_size []))) o → z ≡ puts room (words (two? (stream_shown s) ∷ []) []) o
    stream_at d e h = rw e h

  module _ (a : AttributeData) where
    pub form_embedded : (s : Span) → a ≡ contents.Embedded s → z ≡ puts room (ascii " e x" []) o → z ≡ puts room (form_head (form_shown a) []) o
    unfolding form_head
    form_embedded s e h = rw e h

    pub form_stream : (d : StreamData) → a ≡ contents.Stream d → z ≡ puts room (ascii " s" (words (digits d.object ∷ []) (ascii " x" []))) o → z ≡ puts room (form_head (form_shown a) []) o
    unfolding form_head
    form_stream d e h = rw e h

pub ruleset all = (text-laws.all, then_number, then_three, then_signed_number, then_rule, then_name, then_times, then_owner, then_label, then_stream, then_head, signed_is, rule_words, node_line_lem, attribute_line_lem, label_absent, label_at, stream_absent, stream_at, form_embedded, form_stream)
