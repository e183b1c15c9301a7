-- How the loop over a directory's records chooses the entry that a part names.
use Prim.Native.Nat.{ℕ}
use mathlib.Core.Path.{◌≡◌, refl, sym, ap, ◌∙◌}
use mathlib.Core.List.{List}
use Rattle.error.specs.Answer.{Answer, Ok, Err}
use Rattle.lookup.specs.declared.counted.Counted.{Counted}
use Rattle.lookup.specs.Counted.{after, onto}
use Rattle.btree.specs.Scan.{Run, scan_of}
use Rattle.btree.specs.declared.entries.Search.{Search}
use Rattle.node.specs.declared.place.Place.{Place}
use Rattle.obj.specs.declared.reader.Reader.{Reader}
use Rattle.cursor.specs.Left.{run_at, in_step}
use Rattle.cursor.specs.declared.steps.Step.{Step}
use Rattle.volume.specs.declared.Volume.{Volume}
use Rattle.records.specs.Directory.{entry_at, entry_name}
use Rattle.records.specs.declared.directory.Entry.{Entry}
use Rattle.lists.specs.Lists.{search_of, list_of, entries_of}
use Rattle.lists.specs.declared.seen.Seen.{Seen}
use Rattle.lists.specs.declared.seen.Seen.TheVariants.{Over, Element}
use Rattle.lists.specs.Seen.{seen_in}
use Rattle.lists.proofs.Reading.{reading, list_start, list_over, list_at}
use Rattle.utf8.specs.Text.{lossy}
use Rattle.volume.specs.Rule.{rule_of}
use Rattle.paths.specs.Find.{find_entry}
use Rattle.paths.specs.Inner.{none_yet, weighed, settled}
use Rattle.paths.specs.Lookup.{name_read, entry_in}
use Rattle.volume.specs.declared.rule.NameRule.{NameRule}
use Rattle.paths.specs.declared.choose.Choice.{Choice}
use Rattle.paths.proofs.Chosen.{chosen, chosen_start, chosen_next, chosen_end}

module _ (rule : NameRule) (rd : Reader) (b : List ℕ) (p : List ℕ) where
  -- what is chosen in the list that is left, c being known
  abbrev pub choosing : Choice → List Entry → Answer Entry
  choosing c = chosen rule (name_read rd b) p c

  -- what is found in the whole list
  unfoldable pub found_in : (Place → Answer Entry) → Run → Counted Entry
  found_in g n = onto (list_of g n) λ es t. after t (find_entry rule (name_read rd b) p es)

  module _ (g : Place → Answer Entry) where
    pub entries_start : (r n : Run) (c : Choice) → c ≡ none_yet rule p → r ≡ n → reading g (choosing c) r ≡ found_in g n
    unfolding found_in
    entries_start r n c e h = (rw (e, h) (list_start g (choosing (none_yet rule p)) n)) ∙ of (list_of g n).nodes (list_of g n).answer
      where
        of : (m : ℕ) (a : Answer (List Entry)) → (onto (after m a) λ es t. after t (choosing (none_yet rule p) es)) ≡ (onto (after m a) λ es t. after t (find_entry rule (name_read rd b) p es))
        of m (Ok es) = ap (after m) (chosen_start rule (name_read rd b) p es)
        of m (Err e) = refl

    module _ (q : Search) (s : Step) (i : ℕ) (x : Seen Entry) (t : x ≡ seen_in g (in_step b q s.reached i)) (c : Choice) (whole : Counted Entry) (inv : reading g (choosing c) (run_at b q s i) ≡ whole) where
      pub entries_end : (r : Answer Entry) → x ≡ Over → r ≡ settled c → after s.nodes r ≡ whole
      entries_end r e h = ap (after s.nodes) (h ∙ sym (chosen_end rule (name_read rd b) p c)) ∙ list_over g b q s i x t (choosing c) whole inv e

      pub entries_next : (e : Entry) (a : ℕ) (name : List ℕ) (z : Choice) → x ≡ Element e a → name ≡ entry_name rd b e → z ≡ weighed rule (lossy name) p e c → reading g (choosing z) (run_at b q s a) ≡ whole
      unfolding name_read
      entries_next e a name z h k w =
          let m : z ≡ weighed rule (name_read rd b e) p e c = rw k at w in
          list_at g b q s i x t (choosing c) whole inv (choosing z) e a h (λ es. rw m (chosen_next rule (name_read rd b) p c e es))

pub entries_done : (b : List ℕ) (v : Volume) (id s n : ℕ) (p : List ℕ) (rule : NameRule) (q : Search) (x : Answer Entry) → q ≡ search_of v id 9 → rule ≡ rule_of v
    → after n x ≡ found_in rule v.reader b p (entry_at q.keys.hashed q.keys.reader b) (scan_of b q s) → after n x ≡ entry_in b v id p s
unfolding entry_in entries_of found_in
entries_done b v id s n p rule q x e f g = rw (e, f) at g
