-- The turns of the two writers.
use Prim.Native.Nat.{ℕ, suc, ◌+◌, ◌-◌, ◌≤◌, ◌<◌}
use mathlib.Core.Path.{◌≡◌, refl, sym, ap, ◌∙◌}
use mathlib.Core.List.{List, [], ◌∷◌}
use native.Mathlib.Omega.{arith}
use borrow.Author.Rules.{rules}
use Rattle.error.specs.Answer.{Answer, Ok, Err}
use Rattle.error.specs.declared.Refusal.{Refusal}
use Rattle.error.specs.declared.Refusal.TheVariants.{TooDeep}
use Rattle.lookup.specs.declared.counted.Counted.{Counted}
use Rattle.lookup.specs.Counted.{after}
use Rattle.text.specs.Output.{Output, output_of, puts}
use Rattle.text.specs.Words.{ascii}
use Rattle.btree.specs.Scan.{Run, scan_of}
use Rattle.btree.specs.declared.entries.Search.{Search}
use Rattle.cursor.specs.Left.{left, run_at, in_step, Begins}
use Rattle.cursor.specs.Way.{Leads}
use Rattle.cursor.specs.declared.steps.Step.{Step}
use Rattle.cursor.specs.declared.way.Way.{Way}
use Rattle.volume.specs.declared.Volume.{Volume}
use Rattle.volume.specs.Rule.{hashed_keys}
use Rattle.records.specs.Directory.{entry_at}
use Rattle.records.specs.declared.directory.Entry.{Entry}
use Rattle.records.specs.declared.attribute.Attribute.{Attribute}
use Rattle.inode_record.specs.declared.inode.Inode.{Inode}
use Rattle.lists.specs.Lists.{search_of, inode_of, attributes_of, entries_of, list_of}
use Rattle.lists.specs.Inner.{readable}
use Rattle.lists.specs.declared.seen.Seen.{Seen}
use Rattle.lists.specs.declared.seen.Seen.TheVariants.{Passed, Element}
use Rattle.lists.specs.Seen.{seen_in}
use Rattle.lists.proofs.Reading.{listed, less_at, less_passed, readable_over, readable_no, readable_at, readable_passed}
use Rattle.lines.specs.Shown.{inode_shown, entry_shown}
use Rattle.lines.specs.Lines.{node_line, entry_line, close}
use Rattle.demand.specs.Trace.{stop}
use Rattle.demand.proofs.Inodes.{inode_placed}
use Rattle.forms.specs.Course.{Course, writes, readings, ◌and_then◌, attribute_courses, data_course, entry_course, entry_courses, node_course}
use Rattle.forms.specs.Inner.{ending, Stand, stand_of, go_through, go, reads, head_course}
use Rattle.forms.proofs.Going.{go_then, go_writes, read_got, read_no, reads_stays, stays_no}

pub closed : (room : ℕ) (p : Counted ℕ) (l : List ℕ) (z : Output) → z ≡ puts room (ascii ")\n" []) (output_of p.answer l) → ◌≡◌ {A = Stand} (record { output = z; nodes = p.nodes }) (go room (writes (close [])) (stand_of p l))
unfolding close
closed room p l z h = go_writes room _ (stand_of p l) z h

-- ---- a node's course is its head's, its entries' and its end, as the code goes through them

module _ (b : List ℕ) (v : Volume) (id : ℕ) (i : Inode) (h : (inode_of b v id 0).answer ≡ Ok i) where
  same_id : i.id ≡ id
  same_id = (inode_placed b v id 0 i h).parts.named

  -- the run from the first step is the whole scan
  begun : (t : Step) → Begins b (search_of v id 9) t (scan_of b (search_of v id 9) 0) → run_at b (search_of v i.id 9) t t.from ≡ scan_of b (search_of v i.id 9) 0
  begun t g = rw same_id g.run

  own_way : (w : Way) → Leads b (search_of v id 3) 0 w → Leads b (search_of v i.id 3) 0 w
  own_way w l = rw same_id l

  module _ (room d : ℕ) (xs : List Entry) (k : (ys : List Entry) → (entries_of b v i.id 0).answer ≡ Ok ys → xs ≡ ys) where
    abbrev attributes : Counted (List Attribute)
    attributes = attributes_of b v i.id 0

    abbrev entries : Counted (List Entry)
    entries = entries_of b v i.id 0

    abbrev body : List Attribute → List Entry → Course
    body l es = attribute_courses b v l and_then data_course b v i

    abbrev whole : List Attribute → List Entry → Course
    whole l es = attribute_courses b v l and_then data_course b v i and_then entry_courses (node_course b v d) b v es and_then writes (close [])

    abbrev rest : Stand → Stand
    rest s = go room (writes (close [])) (go room (entry_courses (node_course b v d) b v xs) s)

    all_done : (l : List Attribute) (s : Stand) → go room (whole l xs) s ≡ rest (go room (body l xs) s)
    all_done l s =
        go_then room (attribute_courses b v l) _ s ∙ go_then room (data_course b v i) _ _ ∙ go_then room (entry_courses (node_course b v d) b v xs) _ _
        ∙ ap rest (sym (go_then room (attribute_courses b v l) (data_course b v i) s))

    lists_done : (s : Stand) → go room (readings attributes λ l. readings entries λ es. whole l es) s ≡ rest (go room (readings attributes λ l. readings entries λ es. body l es) s)
    lists_done s = of attributes.answer entries.answer refl refl
      where
        of : (l : Answer (List Attribute)) (es : Answer (List Entry)) → attributes.answer ≡ l → entries.answer ≡ es →
            go room (readings attributes λ l. readings entries λ es. whole l es) s ≡ rest (go room (readings attributes λ l. readings entries λ es. body l es) s)
        of (Err w) es p q =
            let shut : (c : Course) → go room c (reads attributes s) ≡ reads attributes s = λ c. reads_stays attributes room c s w p in
            read_no attributes _ room s w p ∙ sym (ap rest (read_no attributes _ room s w p) ∙ ap (go room (writes (close []))) (shut _) ∙ shut _)
        of (Ok l) (Err w) p q =
            let shut : (c : Course) → go room c (reads entries (reads attributes s)) ≡ reads entries (reads attributes s) = λ c. reads_stays entries room c (reads attributes s) w q in
            read_got attributes _ room s l p ∙ read_no entries _ room _ w q
            ∙ sym (ap rest (read_got attributes _ room s l p ∙ read_no entries _ room _ w q) ∙ ap (go room (writes (close []))) (shut _) ∙ shut _)
        of (Ok l) (Ok es) p q =
            let e : es ≡ xs = sym (k es q) in
            read_got attributes _ room s l p ∙ read_got entries _ room _ es q ∙ ap (λ (y : List Entry). go room (whole l y) (reads entries (reads attributes s))) e ∙ all_done l _
            ∙ sym (ap rest (read_got attributes _ room s l p ∙ read_got entries _ room _ es q))

    node_go : (s : Stand) → go room (node_course b v (suc d) id) s ≡ rest (go room (head_course b v i (scan_of b (search_of v i.id 9) 0)) (reads (inode_of b v id 0) s))
    unfolding node_course head_course entries_of
    node_go s =
        read_got (inode_of b v id 0) _ room s i h
        ∙ go_then room (writes (node_line (inode_shown v.reader b i) [])) _ _
        ∙ lists_done _
        ∙ ap rest (sym (go_then room (writes (node_line (inode_shown v.reader b i) [])) _ _))

  read_entries : (ys : List Entry) → (entries_of b v i.id 0).answer ≡ Ok ys → readable (entry_at (hashed_keys v) v.reader b) (scan_of b (search_of v id 9) 0) ≡ ys
  unfolding entries_of
  read_entries ys e = listed (entry_at (hashed_keys v) v.reader b) (scan_of b (search_of v id 9) 0) ys (sym (ap (λ (n : ℕ). (entries_of b v n 0).answer) same_id) ∙ e)

-- ---- as the code has it

-- the way down to an inode, which has the id that it was found by
pub inode_way_same : (b : List ℕ) (v : Volume) (id : ℕ) (r : Counted Inode) (i : Inode) (w : Way) → r ≡ inode_of b v id 0 → r.answer ≡ Ok i →
    Leads b (search_of v id 3) 0 w → Leads b (search_of v i.id 3) 0 w
inode_way_same b v id r i w p q = own_way b v id i (ap (λ (c : Counted Inode). c.answer) (sym p) ∙ q) w

module _ (room : ℕ) (b : List ℕ) (v : Volume) (id levels : ℕ) where
  pub node_deep : (p : Counted ℕ) (l : List ℕ) (z : Answer ℕ) → levels ≡ 0 → ((m : List ℕ) → output_of z m ≡ ending (stop TooDeep) (output_of p.answer m))
      → ◌≡◌ {A = Stand} (record { output = output_of z l; nodes = p.nodes }) (go room (node_course b v levels id) (stand_of p l))
  unfolding node_course go go_through
  node_deep p l z e h = rw e (ap (λ (o : Output). record { output = o; nodes = p.nodes }) (h l))

  module _ (k : levels ≡ 0 → ⊥) (r : Counted Inode) (p : r ≡ inode_of b v id 0) (s : Counted ℕ) (l : List ℕ) where
    read_as_lem : (x : Answer Inode) → r.answer ≡ x → inode_of b v id 0 ≡ after r.nodes x
    read_as_lem x q = sym p ∙ ap (λ (y : Answer Inode). after r.nodes y) q

    pub node_no : (w : Refusal) (z : Counted ℕ) → r.answer ≡ Err w → ((m : List ℕ) → stand_of z m ≡ reads {A = Unit {0}} (after r.nodes (Err w)) (stand_of s m)) → stand_of z l ≡ go room (node_course b v levels id) (stand_of s l)
    unfolding node_course reads
    node_no w z q h =
        let n : levels ≡ suc (levels - 1) = omega arith in
        let e : (inode_of b v id 0).answer ≡ Err w = ap (λ (c : Counted Inode). c.answer) (read_as_lem (Err w) q) in
        h l ∙ ap (λ (c : Counted Inode). reads c (stand_of s l)) (sym (read_as_lem (Err w) q)) ∙ sym (read_no (inode_of b v id 0) _ room (stand_of s l) w e)
        ∙ ap (λ (m : ℕ). go room (node_course b v m id) (stand_of s l)) (sym n)

    -- the head, the loop that ended, and the end of the node
    pub node_whole : (i : Inode) (a : Counted ℕ) (x y z : Stand) (q : Search) (t u : Step) (n : ℕ) → r.answer ≡ Ok i → q ≡ search_of v id 9 → Begins b (search_of v id 9) t (scan_of b (search_of v id 9) 0)
        → ((m : List ℕ) → stand_of a m ≡ reads {A = Unit {0}} (after r.nodes (Ok tt)) (stand_of s m))
        → x ≡ go room (head_course b v i (run_at b (search_of v i.id 9) t t.from)) (stand_of a l)
        → go room (entry_courses (node_course b v (levels - 1)) b v (readable (entry_at q.keys.hashed q.keys.reader b) (run_at b q u n))) y
        ≡ go room (entry_courses (node_course b v (levels - 1)) b v (readable (entry_at q.keys.hashed q.keys.reader b) (run_at b q t t.from))) x
        → readable (entry_at q.keys.hashed q.keys.reader b) (run_at b q u n) ≡ [] → z ≡ go room (writes (close [])) y → z ≡ go room (node_course b v levels id) (stand_of s l)
    unfolding entry_courses go go_through reads
    node_whole i a x y z q t u n f e g first head inv over last =
        let m : levels ≡ suc (levels - 1) = omega arith in
        let w = read_as_lem (Ok i) f in
        let c : (inode_of b v id 0).answer ≡ Ok i = ap (λ (k : Counted Inode). k.answer) w in
        let all : readable (entry_at q.keys.hashed q.keys.reader b) (run_at b q t t.from) ≡ readable (entry_at (hashed_keys v) v.reader b) (scan_of b (search_of v id 9) 0) = ap (λ (a : Search). readable (entry_at a.keys.hashed a.keys.reader b) (run_at b a t t.from)) e ∙ ap (readable (entry_at (hashed_keys v) v.reader b)) g.run in
        let there : y ≡ go room (entry_courses (node_course b v (levels - 1)) b v (readable (entry_at (hashed_keys v) v.reader b) (scan_of b (search_of v id 9) 0))) x
        = ap (λ (es : List Entry). go room (entry_courses (node_course b v (levels - 1)) b v es) y) (sym over) ∙ inv
        ∙ ap (λ (es : List Entry). go room (entry_courses (node_course b v (levels - 1)) b v es) x) all in
        let start : x ≡ go room (head_course b v i (scan_of b (search_of v i.id 9) 0)) (reads (inode_of b v id 0) (stand_of s l))
        = head ∙ (λ j. go room (head_course b v i (begun b v id i c t g j)) ((first l ∙ ap (λ (k : Counted Inode). reads k (stand_of s l)) (sym w)) j)) in
        last ∙ ap (go room (writes (close []))) (there ∙ ap (go room (entry_courses (node_course b v (levels - 1)) b v (readable (entry_at (hashed_keys v) v.reader b) (scan_of b (search_of v id 9) 0)))) start)
        ∙ sym (node_go b v id i c room (levels - 1) _ (read_entries b v id i c) (stand_of s l))
        ∙ ap (λ (k : ℕ). go room (node_course b v k id) (stand_of s l)) (sym m)

-- the turns of the loop over the entries
module _ (room : ℕ) (form : ℕ → Course) (b : List ℕ) (v : Volume) (q : Search) (s : Step) (i : ℕ) (o w : Stand) (inv : go room (entry_courses form b v (readable (entry_at q.keys.hashed q.keys.reader b) (run_at b q s i))) o ≡ w)
    (x : Seen Entry) (t : x ≡ seen_in (entry_at q.keys.hashed q.keys.reader b) (in_step b q s.reached i)) where
  pub entries_passed : (n : Step) → x ≡ Passed → Begins b q n (left b q s.path s.level s.nodes) → go room (entry_courses form b v (readable (entry_at q.keys.hashed q.keys.reader b) (run_at b q n n.from))) o ≡ w
  entries_passed n e h = rw (readable_passed (entry_at q.keys.hashed q.keys.reader b) b q s i x t n e h) inv

  pub entries_next : (e : Entry) (c : ℕ) (p : Stand) → x ≡ Element e c → p ≡ go room (entry_course form b v e) o
      → go room (entry_courses form b v (readable (entry_at q.keys.hashed q.keys.reader b) (run_at b q s c))) p ≡ w
  unfolding entry_courses
  entries_next e c p g k =
      ap (go room (entry_courses form b v (readable (entry_at q.keys.hashed q.keys.reader b) (run_at b q s c)))) k ∙ sym (go_then room (entry_course form b v e) _ o)
      ∙ ap (λ (es : List Entry). go room (entry_courses form b v es) o) (sym (readable_at (entry_at q.keys.hashed q.keys.reader b) b q s i x t e c g)) ∙ inv

-- an entry's form
module _ (room : ℕ) (form : ℕ → Course) (b : List ℕ) (v : Volume) (e : Entry) (p a : Counted ℕ) (l m : List ℕ) (f : a.nodes ≡ p.nodes) (h : output_of a.answer m ≡ puts room (entry_line (entry_shown v.reader b e) []) (output_of p.answer l)) where
  line_done : stand_of a m ≡ go room (writes (entry_line (entry_shown v.reader b e) [])) (stand_of p l)
  line_done = ap (λ (n : ℕ). record { output = output_of a.answer m; nodes = n }) f ∙ go_writes room _ (stand_of p l) (output_of a.answer m) h

  pub entry_refused : (w : Refusal) → a.answer ≡ Err w → stand_of a m ≡ go room (entry_course form b v e) (stand_of p l)
  unfolding entry_course
  entry_refused w k = stays_no a room _ w m k ∙ ap (go room _) line_done ∙ sym (go_then room _ _ (stand_of p l))

  pub entry_whole : (x z : Stand) → x ≡ go room (form e.file_id) (stand_of a m) → z ≡ go room (writes (close [])) x → z ≡ go room (entry_course form b v e) (stand_of p l)
  unfolding entry_course
  entry_whole x z g k =
      k ∙ ap (go room (writes (close []))) (g ∙ ap (go room (form e.file_id)) line_done)
      ∙ sym (go_then room _ _ (stand_of p l) ∙ go_then room _ _ _)

pub some_left : (n : ℕ) → (n ≡ 0 → ⊥) → 1 ≤ n
some_left n h = omega arith

pub less_left : (n t : ℕ) → (n ≡ 0 → ⊥) → n + n ≡ t → (n - 1) + (n - 1) + 1 < t
less_left n t h e = omega arith

pub ruleset nodes = (rules, closed, node_deep, node_no, readable_over, readable_no, less_at, less_passed, entries_passed, entry_refused, entry_whole)
