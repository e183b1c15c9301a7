-- A node up to its entries: its lists are read before the first of them is written.
use Prim.Native.Nat.{ℕ}
use mathlib.Core.Path.{◌≡◌, refl, sym, ap, ◌∙◌}
use mathlib.Core.List.{List, []}
use Rattle.std.specs.Prelude.{Option}
use borrow.Author.Rules.{rules}
use Rattle.error.specs.Answer.{Answer, Ok, Err}
use Rattle.error.specs.declared.Refusal.{Refusal}
use Rattle.lookup.specs.declared.counted.Counted.{Counted}
use Rattle.lookup.specs.Counted.{after, onto}
use Rattle.text.specs.Output.{output_of, puts}
use Rattle.btree.specs.Scan.{Run, scan_of}
use Rattle.cursor.specs.Left.{run_at, Begins}
use Rattle.cursor.specs.declared.steps.Reached.{Reached}
use Rattle.cursor.specs.declared.steps.Step.{Step}
use Rattle.node.specs.declared.place.Place.{Place}
use Rattle.btree.specs.declared.entries.Search.{Search}
use Rattle.volume.specs.Rule.{hashed_keys}
use Rattle.records.specs.Directory.{entry_at}
use Rattle.volume.specs.declared.Volume.{Volume}
use Rattle.records.specs.Attribute.{attribute_at}
use Rattle.records.specs.declared.directory.Entry.{Entry}
use Rattle.records.specs.declared.attribute.Attribute.{Attribute}
use Rattle.inode_record.specs.declared.inode.Inode.{Inode}
use Rattle.lists.specs.Lists.{search_of, list_of, element_at, placed, attributes_of}
use Rattle.lists.specs.Inner.{readable}
use Rattle.lists.proofs.Reading.{listed}
use Rattle.extents.specs.Verdict.{fine}
use Rattle.lines.specs.Shown.{inode_shown}
use Rattle.lines.specs.Lines.{node_line}
use Rattle.forms.specs.Course.{Course, writes, readings, ◌and_then◌, attribute_courses, data_course}
use Rattle.forms.specs.Inner.{Stand, stand_of, go, reads, settled, head_course}
use Rattle.forms.proofs.Going.{go_then, go_writes, read_got, read_no, reads_stays, reads_over, reads_settled, stays_no}
use Rattle.forms.proofs.After.{reads_shut}
use Rattle.std.specs.Prelude.{None, Some}

-- an element by place says whether its list could be read
settled_placed : {A : Type 0} (c : Counted (List A)) (k : ℕ) → settled (placed k c) ≡ settled c
settled_placed {A} c k = of c.answer
  where
    of : (a : Answer (List A)) → settled (placed k (after c.nodes a)) ≡ settled (after c.nodes a)
    of (Ok xs) = refl
    of (Err e) = refl

-- a list that has ended where it begins
pub settled_none : {A : Type 0} (g : Place → Answer A) (b : List ℕ) (q : Search) (t : Step) (i : ℕ) → t.reached ≡ Reached.End → after t.nodes fine ≡ settled (list_of g (run_at b q t i))
unfolding list_of run_at
settled_none g b q t i e = rw e

module _ (k : ℕ) where
  module _ {A : Type 0} (c : Counted (List A)) (r : Counted (Option A)) (h : r ≡ placed k c) where
    settled_as : (x : Answer (Option A)) → r.answer ≡ x → settled (record { nodes = r.nodes; answer = x }) ≡ settled c
    settled_as x q = ap (λ (y : Answer (Option A)). settled (record { nodes = r.nodes; answer = y })) (sym q) ∙ ap settled h ∙ settled_placed c k

    pub list_refused : (w : Refusal) → r.answer ≡ Err w → after r.nodes (Err w) ≡ settled c
    list_refused w q = settled_as (Err w) q

    pub list_settled : (y : Option A) → r.answer ≡ Ok y → after r.nodes fine ≡ settled c
    list_settled y q = settled_as (Ok y) q

-- the one list, then the other
module _ {A B : Type 0} (c : Counted A) (d : Counted B) (s : Counted (Unit {0})) (p q : Counted ℕ) (e : s ≡ settled c) (h : (b : List ℕ) → stand_of q b ≡ reads s (stand_of p b)) where
  first_read : (b : List ℕ) → stand_of q b ≡ reads c (stand_of p b)
  first_read b = h b ∙ ap (λ (x : Counted (Unit {0})). reads x (stand_of p b)) e ∙ reads_settled c (stand_of p b)

  pub lists_stopped : (w : Refusal) → q.answer ≡ Err w → (b : List ℕ) → stand_of q b ≡ reads d (reads c (stand_of p b))
  lists_stopped w x b = reads_shut d q w b x ∙ ap (reads d) (first_read b)

  pub lists_read : (t : Counted (Unit {0})) (r : Counted ℕ) → t ≡ settled d → ((b : List ℕ) → stand_of r b ≡ reads t (stand_of q b)) → (b : List ℕ) → stand_of r b ≡ reads d (reads c (stand_of p b))
  lists_read t r f g b = g b ∙ ap (λ (x : Counted (Unit {0})). reads x (stand_of q b)) f ∙ reads_settled d (stand_of q b) ∙ ap (reads d) (first_read b)

-- the attributes are those of the run m, the entries those of the run n
module _ (room : ℕ) (b : List ℕ) (v : Volume) (i : Inode) (m n : Run) (o p : Stand) (h : p ≡ go room (writes (node_line (inode_shown v.reader b i) [])) o) (whole : m ≡ scan_of b (search_of v i.id 4) 0) where
  abbrev attributes : Counted (List Attribute)
  attributes = list_of (attribute_at v.reader b) m

  abbrev entries : Counted (List Entry)
  entries = list_of (entry_at (hashed_keys v) v.reader b) n

  -- what follows the line
  abbrev lists : Counted (List Attribute) → Course
  lists l = readings l λ x. readings entries λ y. attribute_courses b v x and_then data_course b v i

  after_line : go room (lists attributes) p ≡ go room (head_course b v i n) o
  unfolding head_course attributes_of
  after_line = ap (go room (lists attributes)) h ∙ sym (go_then room (writes (node_line (inode_shown v.reader b i) [])) (lists attributes) o) ∙ rw whole

  -- the attributes, as the loop writes them, and the data
  abbrev body : Stand → Stand
  body x = go room (data_course b v i) (go room (attribute_courses b v (readable (attribute_at v.reader b) m)) x)

  head_whole : body (reads entries (reads attributes p)) ≡ go room (head_course b v i n) o
  head_whole = of attributes.answer entries.answer refl refl ∙ after_line
    where
      of : (l : Answer (List Attribute)) (es : Answer (List Entry)) → attributes.answer ≡ l → entries.answer ≡ es → body (reads entries (reads attributes p)) ≡ go room (lists attributes) p
      of (Err w) es k j =
          let shut : (c : Course) → go room c (reads attributes p) ≡ reads attributes p = λ c. reads_stays attributes room c p w k in
          let skip : reads entries (reads attributes p) ≡ reads attributes p = reads_over entries attributes w k p in
          ap body skip ∙ ap (go room (data_course b v i)) (shut _) ∙ shut _ ∙ sym (read_no attributes _ room p w k)
      of (Ok l) (Err w) k j =
          let shut : (c : Course) → go room c (reads entries (reads attributes p)) ≡ reads entries (reads attributes p) = λ c. reads_stays entries room c (reads attributes p) w j in
          ap (go room (data_course b v i)) (shut _) ∙ shut _ ∙ sym (read_no entries _ room (reads attributes p) w j) ∙ sym (read_got attributes _ room p l k)
      of (Ok l) (Ok es) k j =
          let u : readable (attribute_at v.reader b) m ≡ l = listed (attribute_at v.reader b) m l k in
          ap (λ (x : List Attribute). go room (data_course b v i) (go room (attribute_courses b v x) (reads entries (reads attributes p)))) u
          ∙ sym (go_then room (attribute_courses b v l) (data_course b v i) _) ∙ sym (read_got entries _ room (reads attributes p) es j) ∙ sym (read_got attributes _ room p l k)

-- the same, by what the code has
module _ (room : ℕ) (b : List ℕ) (v : Volume) (i : Inode) (u : Step) (o : Stand) (a : Counted ℕ) (l : List ℕ) (h : output_of a.answer l ≡ puts room (node_line (inode_shown v.reader b i) []) o.output) (f : a.nodes ≡ o.nodes) where
  abbrev run : Run
  run = run_at b (search_of v i.id 9) u u.from

  line_done : stand_of a l ≡ go room (writes (node_line (inode_shown v.reader b i) [])) o
  line_done = ap (λ (n : ℕ). record { output = output_of a.answer l; nodes = n }) f ∙ go_writes room _ o (output_of a.answer l) h

  pub head_refused : (w : Refusal) → a.answer ≡ Err w → stand_of a l ≡ go room (head_course b v i run) o
  unfolding head_course
  head_refused w e = stays_no a room _ w l e ∙ ap (go room _) line_done ∙ sym (go_then room (writes (node_line (inode_shown v.reader b i) [])) _ o)

  pub head_all : (t : Step) (c : Counted ℕ) (r z : Stand) → Begins b (search_of v i.id 4) t (scan_of b (search_of v i.id 4) 0)
      → ((x : List ℕ) → stand_of c x ≡ reads (list_of (entry_at (hashed_keys v) v.reader b) run) (reads (list_of (attribute_at v.reader b) (run_at b (search_of v i.id 4) t t.from)) (stand_of a x)))
      → r ≡ go room (attribute_courses b v (readable (attribute_at v.reader b) (run_at b (search_of v i.id 4) t t.from))) (stand_of c l) → z ≡ go room (data_course b v i) r
      → z ≡ go room (head_course b v i run) o
  head_all t c r z k x f g =
      g ∙ ap (go room (data_course b v i)) (f ∙ ap (go room (attribute_courses b v (readable (attribute_at v.reader b) (run_at b (search_of v i.id 4) t t.from)))) (x l))
      ∙ head_whole room b v i (run_at b (search_of v i.id 4) t t.from) run o (stand_of a l) line_done k.run

pub ruleset heads = (rules, settled_none, list_refused, list_settled, lists_stopped, lists_read, head_refused, head_all)
