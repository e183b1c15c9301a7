-- A lookup with its node counts left out: what it answers goes by the answers of the entries and inodes that it reads.
-- Document 01, "The listing": "A lookup goes by its whole answer, less what is left out of the comparison".
use Prim.Native.Nat.{ℕ}
use mathlib.Core.Path.{◌≡◌, refl, ap, ◌∙◌}
use mathlib.Core.Bool.{Bool, true, false}
use mathlib.Core.List.{List, [], ◌∷◌, map}
use Rattle.error.specs.Answer.{Answer, Ok, Err, ◌>>=◌, pick}
use Rattle.error.specs.declared.Refusal.TheVariants.{NotFound, CharacterNotCovered, PathNotUtf8}
use Rattle.utf8.specs.Text.{same_bytes, strict}
use Rattle.lookup.specs.declared.counted.Counted.{Counted}
use Rattle.lookup.specs.Counted.{after, onto}
use Rattle.volume.specs.declared.Volume.{Volume}
use Rattle.records.specs.declared.directory.Entry.{Entry}
use Rattle.inode_record.specs.declared.inode.Inode.{Inode}
use Rattle.lists.specs.Lists.{entries_of, inode_of}
use Rattle.paths.specs.Parts.{parts_of}
use Rattle.volume.specs.Rule.{rule_of, insensitive}
use Rattle.paths.specs.Names.{wide, same_keys}
use Rattle.paths.specs.Find.{exact_match, key_match, find_entry}
use Rattle.paths.specs.Lookup.{name_read, entry_in, part_inode, walk_parts, lookup_path}
use Rattle.volume.specs.declared.rule.NameRule.{NameRule}

-- what is found goes by the names alone
module _ {A B : Type 0} (g : A → B) (name : A → List ℕ) (label : B → List ℕ) (same : (e : A) → label (g e) ≡ name e) (rule : NameRule) (p : List ℕ) where
  abbrev shown : Answer A → Answer B
  shown a = a >>= λ e. Ok (g e)

  exact_map : (es : List A) (other : Answer A) → exact_match label p (map g es) (shown other) ≡ shown (exact_match name p es other)
  unfolding exact_match
  exact_map [] other = refl
  exact_map (e ∷ es) other = rw (same e) (of (exact_map es other) (same_bytes p (name e)))
    where
      of : exact_match label p (map g es) (shown other) ≡ shown (exact_match name p es other) → (d : Bool) → pick d (Ok (g e)) (exact_match label p (map g es) (shown other)) ≡ shown (pick d (Ok e) (exact_match name p es other))
      of h true = refl
      of h false = h

  key_map : (es : List A) → key_match rule label p (map g es) ≡ shown (key_match rule name p es)
  unfolding key_match
  key_map [] = refl
  key_map (e ∷ es) = rw (same e) (of (key_map es) (wide (name e)) (same_keys rule.case_insensitive rule.normalization_insensitive p (name e)))
    where
      of : key_match rule label p (map g es) ≡ shown (key_match rule name p es) → (d t : Bool)
          → pick d (Err CharacterNotCovered) (pick t (Ok (g e)) (key_match rule label p (map g es))) ≡ shown (pick d (Err CharacterNotCovered) (pick t (Ok e) (key_match rule name p es)))
      of h true t = refl
      of h false true = refl
      of h false false = h

  pub find_map : (es : List A) → find_entry rule label p (map g es) ≡ (find_entry rule name p es >>= λ e. Ok (g e))
  unfolding find_entry
  find_map es = ap (exact_match label p (map g es)) (of (insensitive rule) (wide p)) ∙ exact_map es _
    where
      of : (d t : Bool) → pick d (pick t (Err CharacterNotCovered) (key_match rule label p (map g es))) (Err NotFound) ≡ shown (pick d (pick t (Err CharacterNotCovered) (key_match rule name p es)) (Err NotFound))
      of true true = refl
      of true false = key_map es
      of false t = refl

-- part after part, by the entries and the inode of an id
module _ (rule : NameRule) (name : Entry → List ℕ) (entries : ℕ → Answer (List Entry)) (inode : ℕ → Answer Inode) where
  unfoldable pub walk_answers : Answer Inode → List (List ℕ) → Answer Inode
  walk_answers a [] = a
  walk_answers a (p ∷ ps) = walk_answers (a >>= λ f. entries f.id >>= λ es. find_entry rule name p es >>= λ e. inode e.file_id) ps

module _ (b : List ℕ) (v : Volume) (entries : ℕ → Answer (List Entry)) (inode : ℕ → Answer Inode)
    (entries-are : (id s : ℕ) → (entries_of b v id s).answer ≡ entries id) (inode-is : (id s : ℕ) → (inode_of b v id s).answer ≡ inode id) where
  entry_answer : (id : ℕ) (p : List ℕ) (s : ℕ) → (entry_in b v id p s).answer ≡ (entries id >>= λ es. find_entry (rule_of v) (name_read v.reader b) p es)
  unfolding entry_in
  entry_answer id p s = rw (← entries-are id s) (of (entries_of b v id s).nodes (entries_of b v id s).answer)
    where
      of : (n : ℕ) (a : Answer (List Entry)) → (onto (after n a) λ es t. after t (find_entry (rule_of v) (name_read v.reader b) p es)).answer ≡ (a >>= λ es. find_entry (rule_of v) (name_read v.reader b) p es)
      of n (Ok es) = refl
      of n (Err w) = refl

  part_answer : (p : List ℕ) (id s : ℕ) → (part_inode b v p id s).answer ≡ (entries id >>= λ es. find_entry (rule_of v) (name_read v.reader b) p es >>= λ e. inode e.file_id)
  unfolding part_inode
  part_answer p id s = of (entry_in b v id p s).nodes (entry_in b v id p s).answer ∙ ap (λ (a : Answer Entry). a >>= λ e. inode e.file_id) (entry_answer id p s) ∙ joined (entries id)
    where
      of : (n : ℕ) (a : Answer Entry) → (onto (after n a) λ e t. inode_of b v e.file_id t).answer ≡ (a >>= λ e. inode e.file_id)
      of n (Ok e) = inode-is e.file_id n
      of n (Err w) = refl

      joined : (a : Answer (List Entry)) → ((a >>= λ es. find_entry (rule_of v) (name_read v.reader b) p es) >>= λ e. inode e.file_id) ≡ (a >>= λ es. find_entry (rule_of v) (name_read v.reader b) p es >>= λ e. inode e.file_id)
      joined (Ok es) = refl
      joined (Err w) = refl

  walk_answers_lem : (c : Counted Inode) (ps : List (List ℕ)) → (walk_parts b v c ps).answer ≡ walk_answers (rule_of v) (name_read v.reader b) entries inode c.answer ps
  unfolding walk_parts walk_answers
  walk_answers_lem c [] = refl
  walk_answers_lem c (p ∷ ps) = walk_answers_lem (onto c λ f t. part_inode b v p f.id t) ps ∙ ap (λ (a : Answer Inode). walk_answers (rule_of v) (name_read v.reader b) entries inode a ps) (of c.nodes c.answer)
    where
      of : (n : ℕ) (a : Answer Inode) → (onto (after n a) λ f t. part_inode b v p f.id t).answer ≡ (a >>= λ f. entries f.id >>= λ es. find_entry (rule_of v) (name_read v.reader b) p es >>= λ e. inode e.file_id)
      of n (Ok f) = part_answer p f.id n
      of n (Err w) = refl

  pub lookup_answers : (path : List ℕ) (s : ℕ) → (lookup_path b v path s).answer ≡ pick (strict path) (walk_answers (rule_of v) (name_read v.reader b) entries inode (inode 2) (parts_of path)) (Err PathNotUtf8)
  unfolding lookup_path
  lookup_answers path s = of (strict path)
    where
      of : (d : Bool) → (pick d (walk_parts b v (inode_of b v 2 s) (parts_of path)) (after s (Err PathNotUtf8))).answer ≡ pick d (walk_answers (rule_of v) (name_read v.reader b) entries inode (inode 2) (parts_of path)) (Err PathNotUtf8)
      of true = walk_answers_lem _ (parts_of path) ∙ ap (λ (a : Answer Inode). walk_answers (rule_of v) (name_read v.reader b) entries inode a (parts_of path)) (inode-is 2 s)
      of false = refl
