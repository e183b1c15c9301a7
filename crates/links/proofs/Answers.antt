-- What the reading of a link answers, by its steps.
use Prim.Native.Nat.{ℕ}
use mathlib.Core.Path.{◌≡◌, refl}
use mathlib.Core.Bool.{Bool, true, false}
use mathlib.Core.List.{List}
use Rattle.error.specs.Answer.{Answer, Ok, Err}
use Rattle.error.specs.declared.Refusal.{Refusal}
use Rattle.byte_fields.specs.Part.{up_to_zero}
use Rattle.utf8.specs.Text.{lossy, reading}
use Rattle.feed.specs.Fed.{written_as}
use Rattle.lookup.specs.Counted.{after, onto}
use Rattle.volume.specs.declared.Volume.{Volume}
use Rattle.records.specs.declared.attribute.Attribute.{Attribute}
use Rattle.inode_record.specs.declared.inode.Inode.{Inode}
use Rattle.calls.specs.Filled.{Filled, filled, Answered, answered}
use Rattle.links.specs.Link.{contents_of, target_of, link_of}
use Rattle.links.specs.Inner.{settled_contents, content_bytes, begun_as, read_as, read_contents, link_attribute}
use Rattle.links.proofs.Targets.{contents_settled, link_by}
use Rattle.lookup.specs.declared.counted.Counted.{Counted}
use Rattle.extents.specs.Verdict.{fine}

module _ (raw : Bool) (b : List ℕ) (v : Volume) (a : Attribute) (s : ℕ) (o : List ℕ) (r : Counted (Unit {0})) (p : r ≡ settled_contents b v a s) where
  pub contents_fine : (x : Filled) → r.answer ≡ fine → x ≡ filled (read_as raw (content_bytes b v a s)) o → record { nodes = r.nodes; result = x } ≡ answered (read_contents raw b v a s) o
  unfolding read_contents
  contents_fine x q h = rw (contents_settled b v a.place a.contents s, ← p, q, h)

  pub contents_no : (w : Refusal) → r.answer ≡ Err w → record { nodes = r.nodes; result = record { answer = Err w; buffer = o } } ≡ answered (read_contents raw b v a s) o
  unfolding read_contents
  contents_no w q = rw (contents_settled b v a.place a.contents s, ← p, q)

-- raw it is the contents, and else the link's text
raw_is : (b : List ℕ) (v : Volume) (a : Attribute) (s : ℕ) → read_contents true b v a s ≡ contents_of b v a s
unfolding read_contents begun_as
raw_is b v a s = of (contents_of b v a s).nodes (contents_of b v a s).answer
  where
    of : (n : ℕ) (c : Answer (List ℕ)) → (onto (after n c) λ x t. after t (Ok x)) ≡ after n c
    of n (Ok x) = refl
    of n (Err w) = refl

text_is : (b : List ℕ) (v : Volume) (a : Attribute) (s : ℕ) → read_contents false b v a s ≡ (onto (target_of b v a s) λ r t. after t (Ok r.text))
unfolding read_contents begun_as written_as target_of
text_is b v a s = of (contents_of b v a s).nodes (contents_of b v a s).answer
  where
    of : (n : ℕ) (c : Answer (List ℕ)) → (onto (after n c) λ x t. after t (Ok (lossy (up_to_zero x)))) ≡ (onto (onto (after n c) λ x t. after t (Ok (reading (up_to_zero x)))) λ r t. after t (Ok r.text))
    of n (Ok x) = refl
    of n (Err w) = refl

pub raw_read : (b : List ℕ) (v : Volume) (a : Attribute) (s : ℕ) (o : List ℕ) (z : Answered) → z ≡ answered (read_contents true b v a s) o → z ≡ answered (contents_of b v a s) o
raw_read b v a s o z h = rw (raw_is b v a s) at h

module _ (b : List ℕ) (v : Volume) (i : Inode) (s : ℕ) (o : List ℕ) (f : Counted Attribute) (p : f ≡ link_attribute b v i s) where
  pub link_at : (a : Attribute) (z : Answered) → f.answer ≡ Ok a → z ≡ answered (read_contents false b v a f.nodes) o → z ≡ answered (link_of b v i s) o
  unfolding link_of
  link_at a z q h = rw (link_by b v i s, ← p, q) (rw (text_is b v a f.nodes) at h)

  pub link_no : (w : Refusal) → f.answer ≡ Err w → record { nodes = f.nodes; result = record { answer = Err w; buffer = o } } ≡ answered (link_of b v i s) o
  unfolding link_of
  link_no w q = rw (link_by b v i s, ← p, q)
