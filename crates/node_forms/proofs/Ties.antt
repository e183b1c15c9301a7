-- The course of a listing is the listing's: its text and its end are those of `trace`.
use Prim.Native.Nat.{ℕ, zero, suc, ◌+◌, ◌-◌, ◌/◌, ◌%◌, ◌≤◌, ◌<◌}
use mathlib.Core.Path.{◌≡◌, refl, sym, ap, ◌∙◌}
use mathlib.Core.Bool.{Bool, true, false}
use mathlib.Core.List.{List, [], ◌∷◌, ◌++◌, map, append-nil, append_assoc}
use native.Mathlib.Omega.{arith}
use borrow.Author.Tests.{eqb-false}
use lib.Dec.{eqb}
use lib.ListN.{length}
use Rattle.error.specs.Answer.{Answer, Ok, Err, ◌>>=◌, pick, if_eq}
use Rattle.error.specs.declared.Refusal.{Refusal}
use Rattle.lookup.specs.declared.counted.Counted.{Counted}
use Rattle.volume.specs.declared.Volume.{Volume}
use Rattle.records.specs.declared.attribute.Attribute.{Attribute}
use Rattle.records.specs.declared.directory.Entry.{Entry}
use Rattle.inode_record.specs.declared.inode.Inode.{Inode}
use Rattle.lists.specs.Lists.{inode_of, attributes_of, entries_of}
use Rattle.files.specs.File.{read_plain, read_whole}
use Rattle.inode_record.specs.Inode.{compressed}
use Rattle.links.specs.Link.{contents_of}
use Rattle.contents.proofs.Plain.{plain_whole}
use Rattle.lines.specs.Shown.{InodeShown, EntryShown, AttributeShown, inode_shown, entry_shown, attribute_shown, plain}
use Rattle.lines.specs.Lines.{volume_line, node_line, attribute_line, entry_line, contents_line, close}
use Rattle.demand.specs.Trace.{End, done, stop, Trace, says, refuses, go_on, ◌then◌, reading}
use Rattle.demand.specs.Listing.{attribute_lines, data_line, entry_forms, node_form, levels, foot_lines, footed, trace}
use Rattle.volume.specs.Rule.{rule_of}
use Rattle.lists.specs.Lists.{root_id}
use Rattle.totals.specs.Totals.{totals_of}
use Rattle.demand.specs.Demand.{label_shown, view_of, with_contents, inode_answer, entries_answer, attributes_answer, contents_answer}
use Rattle.demand.proofs.Inodes.{inode_placed}
use Rattle.forms.specs.Course.{Deed, through, line, Course, writes, goes_on, ◌and_then◌, read_as, passing, readings, attribute_course, attribute_courses, data_course, entry_course, entry_courses, node_course, body_course, course_of, text_in, trace_in}
use Rattle.node_forms.specs.Tie.{Tied}

text_append : (ds es : List Deed) → text_in (ds ++ es) ≡ text_in ds ++ text_in es
unfolding text_in
text_append [] es = refl
text_append (through n ∷ ds) es = text_append ds es
text_append (line t ∷ ds) es = ap (λ (x : List ℕ). t ++ x) (text_append ds es) ∙ sym (append_assoc t (text_in ds) (text_in es))

trace_then : (c d : Course) → trace_in (c and_then d) ≡ trace_in c then trace_in d
unfolding ◌and_then◌ ◌then◌
trace_then c d = of c.ended
  where
    of : (x : End) → trace_in (goes_on c.deeds x d) ≡ go_on (text_in c.deeds) x (trace_in d)
    of done = ap (λ (t : List ℕ). record { text = t; ended = d.ended }) (text_append c.deeds d.deeds)
    of (stop e) = refl

trace_reading : {A : Type 0} (c : Counted A) (f : A → Course) → trace_in (readings c f) ≡ reading c.answer (λ a. trace_in (f a))
unfolding readings reading text_in
trace_reading {A} c f = of c.answer
  where
    of : (x : Answer A) → trace_in (passing c.nodes (read_as x f)) ≡ reading x (λ a. trace_in (f a))
    of (Ok a) = refl
    of (Err e) = refl

trace_writes : (t : List ℕ) → trace_in (writes t) ≡ says t
unfolding text_in
trace_writes t = ap (λ (x : List ℕ). says x) (append-nil t)

-- a reading whose answer is made into something else
reading_made : {A B : Type 0} (a : Answer A) (g : A → B) (k : B → Trace) → reading (a >>= λ x. Ok (g x)) k ≡ reading a (λ x. k (g x))
unfolding reading
reading_made (Ok x) g k = refl
reading_made (Err e) g k = refl

reading_same : {A : Type 0} (a : Answer A) (f g : A → Trace) → ((x : A) → a ≡ Ok x → f x ≡ g x) → reading a f ≡ reading a g
unfolding reading
reading_same (Ok x) f g h = h x refl
reading_same (Err e) f g h = refl

attributes_tie : (b : List ℕ) (v : Volume) (l : List Attribute) → trace_in (attribute_courses b v l) ≡ attribute_lines (map (with_contents b v) l)
unfolding attribute_courses attribute_course attribute_lines attribute_shown text_in
attributes_tie b v [] = refl
attributes_tie b v (a ∷ l) =
    trace_then (attribute_course b v a) (attribute_courses b v l)
    ∙ (ap (λ (t : Trace). t then trace_in (attribute_courses b v l))
    (trace_reading (contents_of b v a 0) _ ∙ reading_same (contents_of b v a 0).answer _ _ (λ d e. trace_writes (attribute_line (attribute_shown v.reader b a d) [])))
    ∙ ap (λ (t : Trace). reading (contents_of b v a 0).answer (λ d. says (attribute_line (attribute_shown v.reader b a d) [])) then t) (attributes_tie b v l))

packed_as : (x : Trace) (y z : Trace) (n : ℕ) → ((n ≡ 1 → ⊥) → y ≡ z) → pick (eqb n 1) x y ≡ if_eq n 1 x z
unfolding if_eq
packed_as x y z n h = of (eqb n 1) refl
  where
    of : (d : Bool) → eqb n 1 ≡ d → pick d x y ≡ pick d x z
    of true e = refl
    of false e = h (eqb-false n 1 e)

trace_test : (n : ℕ) (c d : Course) (x y : Trace) → trace_in c ≡ x → trace_in d ≡ y → trace_in (if_eq n 1 c d) ≡ if_eq n 1 x y
unfolding if_eq
trace_test n c d x y p q = of (eqb n 1)
  where
    of : (e : Bool) → trace_in (pick e c d) ≡ pick e x y
    of true = p
    of false = q

then_assoc : (t u w : Trace) → (t then u) then w ≡ t then u then w
unfolding ◌then◌
then_assoc t u w = of t.ended
  where
    of : (x : End) → go_on (go_on t.text x u).text (go_on t.text x u).ended w ≡ go_on t.text x (go_on u.text u.ended w)
    of done = by u.ended
      where
        by : (y : End) → go_on (t.text ++ u.text) y w ≡ record { text = t.text ++ (go_on u.text y w).text; ended = (go_on u.text y w).ended }
        by done = ap (λ (x : List ℕ). record { text = x; ended = w.ended }) (append_assoc t.text u.text w.text)
        by (stop e) = refl
    of (stop e) = refl

module _ (b : List ℕ) (v : Volume) where
  module _ (id : ℕ) (i : Inode) (h : (inode_of b v id 0).answer ≡ Ok i) where
    same_id : i.id ≡ id
    same_id = (inode_placed b v id 0 i h).parts.named

    own : (inode_of b v i.id 0).answer ≡ Ok i
    own = ap (λ (n : ℕ). (inode_of b v n 0).answer) same_id ∙ h

    data_tie : trace_in (data_course b v i) ≡ data_line (view_of b v) (inode_shown v.reader b i)
    unfolding data_course data_line inode_shown contents_answer
    data_tie =
        trace_test (compressed i) _ _ _ _ (trace_writes _)
        (trace_reading (read_plain b v i 0) _ ∙ reading_same (read_plain b v i 0).answer _ (λ d. says (contents_line (plain d) [])) (λ d e. trace_writes (contents_line (plain d) [])))
        ∙ sym (packed_as _ _ _ (compressed i) (λ q.
        ap (λ (a : Answer (List ℕ)). reading a λ d. says (contents_line (plain d) []))
        (ap (λ (a : Answer Inode). a >>= λ j. (read_whole b v j 0).answer) own ∙ ap (λ (c : Counted (List ℕ)). c.answer) (plain_whole b v i 0 q))))

  entries_tie : (f : ℕ → Course) (g : ℕ → Trace) → ((id : ℕ) → trace_in (f id) ≡ g id) → (es : List Entry) →
      trace_in (entry_courses f b v es) ≡ entry_forms g (map (entry_shown v.reader b) es)
  unfolding entry_courses entry_course entry_forms entry_shown text_in
  entries_tie f g h [] = refl
  entries_tie f g h (e ∷ es) =
      trace_then (entry_course f b v e) (entry_courses f b v es)
      ∙ (λ i. entry_tie i then entries_tie f g h es i)
      ∙ then_assoc (says (entry_line (entry_shown v.reader b e) [])) _ _
      ∙ ap (λ (t : Trace). says (entry_line (entry_shown v.reader b e) []) then t) (then_assoc (g e.file_id) (says (close [])) _)
    where
      entry_tie : trace_in (entry_course f b v e) ≡ says (entry_line (entry_shown v.reader b e) []) then g e.file_id then says (close [])
      entry_tie =
          trace_then (writes (entry_line (entry_shown v.reader b e) [])) _
          ∙ (λ i. trace_writes (entry_line (entry_shown v.reader b e) []) i then trace_then (f e.file_id) (writes (close [])) i)
          ∙ ap (λ (t : Trace). says (entry_line (entry_shown v.reader b e) []) then t) (λ i. h e.file_id i then trace_writes (close []) i)

  node_tie : (d id : ℕ) → trace_in (node_course b v d id) ≡ node_form (view_of b v) d id
  unfolding node_course node_form text_in inode_answer attributes_answer entries_answer inode_shown
  node_tie zero id = refl
  node_tie (suc d) id =
      trace_reading (inode_of b v id 0) _
      ∙ (reading_same (inode_of b v id 0).answer _ _ (λ i h. below i h (node_tie d))
      ∙ sym (reading_made (inode_of b v id 0).answer (inode_shown v.reader b) _))
    where
      after : Inode → List Attribute → List Entry → Course
      after i l es = attribute_courses b v l and_then data_course b v i and_then entry_courses (node_course b v d) b v es and_then writes (close [])

      seen : InodeShown → List (AttributeShown (Answer (List ℕ))) → List EntryShown → Trace
      seen f l es = attribute_lines l then data_line (view_of b v) f then entry_forms (node_form (view_of b v) d) es then says (close [])

      rest : (i : Inode) → (inode_of b v id 0).answer ≡ Ok i → ((n : ℕ) → trace_in (node_course b v d n) ≡ node_form (view_of b v) d n) → (l : List Attribute) (es : List Entry) →
          trace_in (after i l es) ≡ seen (inode_shown v.reader b i) (map (with_contents b v) l) (map (entry_shown v.reader b) es)
      rest i h k l es =
          trace_then (attribute_courses b v l) _
          ∙ (ap (λ (t : Trace). t then trace_in (data_course b v i and_then entry_courses (node_course b v d) b v es and_then writes (close []))) (attributes_tie b v l)
          ∙ ap (λ (t : Trace). attribute_lines (map (with_contents b v) l) then t)
          (trace_then (data_course b v i) _
          ∙ (ap (λ (t : Trace). t then trace_in (entry_courses (node_course b v d) b v es and_then writes (close []))) (data_tie id i h)
          ∙ ap (λ (t : Trace). data_line (view_of b v) (inode_shown v.reader b i) then t)
          (trace_then (entry_courses (node_course b v d) b v es) (writes (close []))
          ∙ (ap (λ (t : Trace). t then trace_in (writes (close []))) (entries_tie (node_course b v d) (node_form (view_of b v) d) k es)
          ∙ ap (λ (t : Trace). entry_forms (node_form (view_of b v) d) (map (entry_shown v.reader b) es) then t) (trace_writes (close [])))))))

      below : (i : Inode) → (inode_of b v id 0).answer ≡ Ok i → ((n : ℕ) → trace_in (node_course b v d n) ≡ node_form (view_of b v) d n) →
          trace_in (writes (node_line (inode_shown v.reader b i) []) and_then readings (attributes_of b v i.id 0) λ l. readings (entries_of b v i.id 0) λ es. after i l es)
          ≡ (says (node_line (inode_shown v.reader b i) []) then reading (attributes_answer b v i.id) λ l. reading (entries_answer b v i.id) λ es. seen (inode_shown v.reader b i) l es)
      below i h k =
          trace_then (writes (node_line (inode_shown v.reader b i) [])) _
          ∙ (ap (λ (t : Trace). t then trace_in (readings (attributes_of b v i.id 0) λ l. readings (entries_of b v i.id 0) λ es. after i l es)) (trace_writes _)
          ∙ ap (λ (t : Trace). says (node_line (inode_shown v.reader b i) []) then t)
          (trace_reading (attributes_of b v i.id 0) _
          ∙ (reading_same (attributes_of b v i.id 0).answer _ _ (λ l p.
          trace_reading (entries_of b v i.id 0) _
          ∙ (reading_same (entries_of b v i.id 0).answer _ _ (λ es q. rest i h k l es)
          ∙ sym (reading_made (entries_of b v i.id 0).answer (map (entry_shown v.reader b)) _)))
          ∙ sym (reading_made (attributes_of b v i.id 0).answer (map (with_contents b v)) _))))

  abbrev first : List ℕ
  first = volume_line (rule_of v).case_insensitive (rule_of v).normalization_insensitive (label_shown b v) []

  pub body_tie : trace_in (body_course b v) ≡ says first then node_form (view_of b v) levels root_id
  unfolding body_course
  body_tie = trace_then (writes first) _ ∙ (λ i. trace_writes first i then node_tie levels root_id i)

  -- the course's text and end are the listing's
  course_trace : trace_in (course_of b v) ≡ trace (view_of b v)
  unfolding course_of trace footed
  course_trace = trace_then (body_course b v) _ ∙ (λ i. trace_in (body_course b v) then trace_writes (foot_lines (totals_of (text_in (body_course b v).deeds))) i) ∙ ap footed body_tie

pub tied : Tied
tied = record { course = course_trace }
