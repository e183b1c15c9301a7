-- The turns of the loop over a node's attributes.
use Prim.Native.Nat.{ℕ}
use mathlib.Core.Path.{◌≡◌, sym, ap, ◌∙◌}
use mathlib.Core.List.{List, []}
use borrow.Author.Rules.{rules}
use Rattle.error.specs.declared.Refusal.{Refusal}
use Rattle.btree.specs.declared.entries.Search.{Search}
use Rattle.cursor.specs.Left.{left, run_at, in_step, Begins}
use Rattle.cursor.specs.declared.steps.Step.{Step}
use Rattle.volume.specs.declared.Volume.{Volume}
use Rattle.records.specs.Attribute.{attribute_at}
use Rattle.records.specs.declared.attribute.Attribute.{Attribute}
use Rattle.lists.specs.Lists.{search_of}
use Rattle.lists.specs.Inner.{readable}
use Rattle.lists.specs.declared.seen.Seen.{Seen}
use Rattle.lists.specs.declared.seen.Seen.TheVariants.{Over, Passed, Element, Refused}
use Rattle.lists.specs.Seen.{seen_in}
use Rattle.lists.proofs.Reading.{less_at, less_passed, readable_over, readable_no, readable_at, readable_passed}
use Rattle.forms.specs.Course.{Course, attribute_course, attribute_courses}
use Rattle.forms.specs.Inner.{Stand, stand_of, go_through, go}
use Rattle.forms.proofs.Going.{go_then, stays_no}
use Rattle.error.specs.Answer.{Err}
use Rattle.lookup.specs.declared.counted.Counted.{Counted}

module _ (room : ℕ) (b : List ℕ) (v : Volume) (q : Search) (s : Step) (i : ℕ) (o w : Stand) (inv : go room (attribute_courses b v (readable (attribute_at q.keys.reader b) (run_at b q s i))) o ≡ w)
    (x : Seen Attribute) (t : x ≡ seen_in (attribute_at q.keys.reader b) (in_step b q s.reached i)) where
  none_left : readable (attribute_at q.keys.reader b) (run_at b q s i) ≡ [] → o ≡ w
  unfolding attribute_courses go go_through
  none_left e = ap (λ (l : List Attribute). go room (attribute_courses b v l) o) (sym e) ∙ inv

  pub attributes_over : x ≡ Over → o ≡ w
  attributes_over e = none_left (readable_over (attribute_at q.keys.reader b) b q s i x t e)

  pub attributes_no : (z : Refusal) → x ≡ Refused z → o ≡ w
  attributes_no z e = none_left (readable_no (attribute_at q.keys.reader b) b q s i x t z e)

  pub attributes_passed : (n : Step) → x ≡ Passed → Begins b q n (left b q s.path s.level s.nodes) → go room (attribute_courses b v (readable (attribute_at q.keys.reader b) (run_at b q n n.from))) o ≡ w
  attributes_passed n e h = rw (readable_passed (attribute_at q.keys.reader b) b q s i x t n e h) inv

  pub attributes_next : (a : Attribute) (c : ℕ) (p : Stand) → x ≡ Element a c → p ≡ go room (attribute_course b v a) o → go room (attribute_courses b v (readable (attribute_at q.keys.reader b) (run_at b q s c))) p ≡ w
  unfolding attribute_courses
  attributes_next a c p e g =
      ap (go room (attribute_courses b v (readable (attribute_at q.keys.reader b) (run_at b q s c)))) g
      ∙ sym (go_then room (attribute_course b v a) (attribute_courses b v (readable (attribute_at q.keys.reader b) (run_at b q s c))) o)
      ∙ ap (λ (l : List Attribute). go room (attribute_courses b v l) o) (sym (readable_at (attribute_at q.keys.reader b) b q s i x t a c e)) ∙ inv

pub attributes_done : (room : ℕ) (b : List ℕ) (v : Volume) (id : ℕ) (q : Search) (s : Step) (o z : Stand) → q ≡ search_of v id 4
    → z ≡ go room (attribute_courses b v (readable (attribute_at q.keys.reader b) (run_at b q s s.from))) o → z ≡ go room (attribute_courses b v (readable (attribute_at v.reader b) (run_at b (search_of v id 4) s s.from))) o
attributes_done room b v id q s o z e h = rw e at h

pub attributes_stopped : (room : ℕ) (c : Course) (p : Counted ℕ) (b : List ℕ) (e : Refusal) (w : Stand) → go room c (stand_of p b) ≡ w → p.answer ≡ Err e → stand_of p b ≡ w
attributes_stopped room c p b e w h q = stays_no p room c e b q ∙ h

pub ruleset walks = (rules, less_at, less_passed, attributes_over, attributes_no, attributes_passed, attributes_done, attributes_stopped)
