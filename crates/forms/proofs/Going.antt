-- A course gone through: one law of composition, with no side condition; what it leaves is what `run` leaves of its text, and what `spent` counts.
use Prim.Native.Nat.{ℕ, zero, suc, ◌+◌, ◌-◌, ◌^◌, ◌≤◌, ◌<◌}
use mathlib.Core.Path.{◌≡◌, refl, sym, ap, ◌∙◌}
use mathlib.Core.List.{List, [], ◌∷◌, ◌++◌}
use native.Mathlib.Decide.{dec_le}
use native.Mathlib.Nat.{add-zero}
use native.Mathlib.Omega.{arith}
use lib.ListN.{length, set}
use Rattle.error.specs.Answer.{Answer, Ok, Err, if_le}
use Rattle.error.specs.declared.Refusal.{Refusal}
use Rattle.error.specs.declared.Refusal.TheVariants.{BufferTooShort}
use Rattle.error.proofs.Laws.{at_most_lem, above}
use Rattle.lookup.specs.declared.counted.Counted.{Counted}
use Rattle.lookup.specs.Counted.{after}
use Rattle.text.specs.Output.{Output, at, refused, output_of, put, puts}
use Rattle.text.proofs.Writing.{puts_append, puts_refused}
use Rattle.calls.specs.Nodes.{capped}
use Rattle.calls.proofs.Counts.{plus_none}
use Rattle.demand.specs.Trace.{End, done, stop, Trace}
use Rattle.forms.specs.Course.{Deed, through, line, Course, writes, goes_on, ◌and_then◌, read_as, readings, text_in, trace_in, spent}
use Rattle.forms.specs.Inner.{ending, run, Stand, stand_of, unless_refused, passes, deed, go_through, ended_with, go, end_of, reads, settled}

abbrev over : Refusal → ℕ → Stand
over e s = record { output = refused e; nodes = s }

-- what is refused stays, with its count
shut : (room : ℕ) (ds : List Deed) (e : Refusal) (s : ℕ) → go_through room ds (over e s) ≡ over e s
unfolding go_through deed
shut room [] e s = refl
shut room (through n ∷ ds) e s = shut room ds e s
shut room (line t ∷ ds) e s = ap (λ (o : Output). go_through room ds (record { output = o; nodes = s })) (puts_refused room t e) ∙ shut room ds e s

through_append : (room : ℕ) (ds es : List Deed) (p : Stand) → go_through room (ds ++ es) p ≡ go_through room es (go_through room ds p)
unfolding go_through
through_append room [] es p = refl
through_append room (d ∷ ds) es p = through_append room ds es (deed room d p)

shut_end : (x : End) (e : Refusal) (s : ℕ) → ended_with x (over e s) ≡ over e s
shut_end done e s = refl
shut_end (stop w) e s = refl

pub go_shut : (room : ℕ) (c : Course) (e : Refusal) (s : ℕ) → go room c (over e s) ≡ over e s
unfolding go
go_shut room c e s = ap (ended_with c.ended) (shut room c.deeds e s) ∙ shut_end c.ended e s

-- how something ends, the rest changes nothing
go_stopped : (room : ℕ) (c : Course) (e : Refusal) (o : Output) (n : ℕ) → go room c (record { output = ending (stop e) o; nodes = n }) ≡ record { output = ending (stop e) o; nodes = n }
go_stopped room c e (at b k) n = go_shut room c e n
go_stopped room c e (refused w) n = go_shut room c w n

pub go_then : (room : ℕ) (c d : Course) (p : Stand) → go room (c and_then d) p ≡ go room d (go room c p)
unfolding go ◌and_then◌
go_then room c d p = of c.ended
  where
    of : (x : End) → ended_with (goes_on c.deeds x d).ended (go_through room (goes_on c.deeds x d).deeds p)
        ≡ ended_with d.ended (go_through room d.deeds (ended_with x (go_through room c.deeds p)))
    of done = ap (ended_with d.ended) (through_append room c.deeds d.deeds p)
    of (stop e) = sym (go_stopped room d e (go_through room c.deeds p).output (go_through room c.deeds p).nodes)

-- a line
pub go_writes : (room : ℕ) (t : List ℕ) (s : Stand) (o : Output) → o ≡ puts room t s.output → ◌≡◌ {A = Stand} (record { output = o; nodes = s.nodes }) (go room (writes t) s)
unfolding go go_through deed
go_writes room t s o h = ap (λ (x : Output). record { output = x; nodes = s.nodes }) h

-- ---- a reading

module _ {A : Type 0} (c : Counted A) (f : A → Course) (room : ℕ) (s : Stand) where
  pub read_got : (x : A) → c.answer ≡ Ok x → go room (readings c f) s ≡ go room (f x) (reads c s)
  unfolding readings reads go go_through deed
  read_got x e = rw e

  pub read_no : (w : Refusal) → c.answer ≡ Err w → go room (readings c f) s ≡ reads c s
  unfolding readings reads go go_through deed
  read_no w e = rw e

-- what was refused in it stays
pub reads_stays : {A : Type 0} (c : Counted A) (room : ℕ) (d : Course) (s : Stand) (w : Refusal) → c.answer ≡ Err w → go room d (reads c s) ≡ reads c s
unfolding reads
reads_stays c room d s w e = rw e (go_stopped room d w s.output (passes c.nodes s).nodes)

-- and nothing more is read
pub reads_over : {A B : Type 0} (d : Counted B) (c : Counted A) (w : Refusal) → c.answer ≡ Err w → (s : Stand) → reads d (reads c s) ≡ reads c s
unfolding reads
reads_over d c w e s = rw e (of s.output (passes c.nodes s).nodes)
  where
    of : (o : Output) (n : ℕ) → ended_with (end_of d.answer) (passes d.nodes (record { output = ending (stop w) o; nodes = n })) ≡ record { output = ending (stop w) o; nodes = n }
    of (at b k) n = shut_end (end_of d.answer) w n
    of (refused y) n = shut_end (end_of d.answer) y n

pub reads_settled : {A : Type 0} (c : Counted A) (s : Stand) → reads (settled c) s ≡ reads c s
unfolding reads
reads_settled {A} c s = of c.answer
  where
    of : (a : Answer A) → reads (settled (after c.nodes a)) s ≡ reads (after c.nodes a) s
    of (Ok x) = refl
    of (Err e) = refl

-- one that goes through no node
pub reads_none : {A : Type 0} (x : A) (s : Stand) → s.nodes < 2 ^ 64 → reads (after 0 (Ok x)) s ≡ s
unfolding reads
reads_none x s h = of s.output
  where
    of : (o : Output) → ◌≡◌ {A = Stand} (record { output = o; nodes = unless_refused o (capped (s.nodes + 0)) s.nodes }) (record { output = o; nodes = s.nodes })
    of (at b n) = ap (λ (k : ℕ). record { output = at b n; nodes = k }) (sym (plus_none s.nodes h))
    of (refused e) = refl

-- ---- of a position

module _ (p : Counted ℕ) where
  -- after a refusal
  pub stays_no : (room : ℕ) (c : Course) (w : Refusal) (b : List ℕ) → p.answer ≡ Err w → stand_of p b ≡ go room c (stand_of p b)
  stays_no room c w b e = rw e (sym (go_shut room c w p.nodes))

-- ---- what is left

through_run : (room : ℕ) (ds : List Deed) (s : Stand) → (go_through room ds s).output ≡ puts room (text_in ds) s.output
unfolding go_through deed text_in puts
through_run room [] s = refl
through_run room (through n ∷ ds) s = through_run room ds (passes n s)
through_run room (line t ∷ ds) s = through_run room ds (record { output = puts room t s.output; nodes = s.nodes }) ∙ sym (puts_append room t (text_in ds) s.output)

pub go_run : (room : ℕ) (c : Course) (s : Stand) → (go room c s).output ≡ run room (trace_in c) s.output
unfolding go run
go_run room c s = ap (ending c.ended) (through_run room c.deeds s)

-- a line that fits, and one that does not
fits : (room : ℕ) (t b : List ℕ) (n : ℕ) → n + length t ≤ room → (x : List ℕ) × (puts room t (at b n) ≡ at x (n + length t))
unfolding puts put
fits room [] b n h = (b, ap (at b) (sym (add-zero n)))
fits room (c ∷ t) b n h =
    let r = fits room t (set b n c) (n + 1) (omega arith) in
    let q : n + 1 + length t ≡ n + suc (length t) = omega arith in
    (r.0, ap (puts room t) (sym (above _ _ _ _ _ (omega arith) refl)) ∙ (r.1 ∙ ap (at r.0) q))

full : (room : ℕ) (t b : List ℕ) (n : ℕ) → n ≤ room → room < n + length t → puts room t (at b n) ≡ refused BufferTooShort
unfolding puts put
full room [] b n h k = absurd (omega arith)
full room (c ∷ t) b n h k = of (dec_le room n) (full room t (set b n c) (n + 1))
  where
    of : Dec (room ≤ n) → (n + 1 ≤ room → room < n + 1 + length t → puts room t (at (set b n c) (n + 1)) ≡ refused BufferTooShort) →
        puts room t (if_le room n (refused BufferTooShort) (at (set b n c) (n + 1))) ≡ refused BufferTooShort
    of (Dec.yes d) g = ap (puts room t) (sym (at_most_lem _ _ _ _ _ d refl)) ∙ puts_refused room t BufferTooShort
    of (Dec.no d) g = ap (puts room t) (sym (above _ _ _ _ _ (omega arith) refl)) ∙ g (omega arith) (omega arith)

-- the count of a course into a buffer
through_spent : (room : ℕ) (ds : List Deed) (b : List ℕ) (n s : ℕ) → n ≤ room → (go_through room ds (record { output = at b n; nodes = s })).nodes ≡ spent (room - n) ds s
unfolding go_through deed spent
through_spent room [] b n s h = refl
through_spent room (through m ∷ ds) b n s h = through_spent room ds b n (capped (s + m)) h
through_spent room (line t ∷ ds) b n s h = of (dec_le (length t) (room - n)) (λ x. through_spent room ds x (n + length t) s)
  where
    of : Dec (length t ≤ room - n) → ((x : List ℕ) → n + length t ≤ room → (go_through room ds (record { output = at x (n + length t); nodes = s })).nodes ≡ spent (room - (n + length t)) ds s) →
        (go_through room ds (record { output = puts room t (at b n); nodes = s })).nodes ≡ if_le (length t) (room - n) (spent (room - n - length t) ds s) s
    of (Dec.yes d) g =
        let r = fits room t b n (omega arith) in
        let q : room - (n + length t) ≡ room - n - length t = omega arith in
        at_most_lem _ _ _ _ _ d (ap (λ (o : Output). (go_through room ds (record { output = o; nodes = s })).nodes) r.1 ∙ (g r.0 (omega arith) ∙ ap (λ (k : ℕ). spent k ds s) q))
    of (Dec.no d) g =
        above _ _ _ _ _ (omega arith)
        (ap (λ (o : Output). (go_through room ds (record { output = o; nodes = s })).nodes) (full room t b n h (omega arith)) ∙ ap (λ (p : Stand). p.nodes) (shut room ds BufferTooShort s))

pub go_spent : (room : ℕ) (c : Course) (b : List ℕ) (s : ℕ) → (go room c (record { output = at b 0; nodes = s })).nodes ≡ spent room c.deeds s
unfolding go
go_spent room c b s = through_spent room c.deeds b 0 s (omega arith) ∙ ap (λ (k : ℕ). spent k c.deeds s) (omega arith)

-- a line after all reading counts nothing
last_line : (room : ℕ) (ds : List Deed) (t : List ℕ) (s : ℕ) → spent room (ds ++ (line t ∷ [])) s ≡ spent room ds s
unfolding spent
last_line room [] t s = of (dec_le (length t) room)
  where
    of : Dec (length t ≤ room) → if_le (length t) room s s ≡ s
    of (Dec.yes d) = sym (at_most_lem _ _ _ _ _ d refl)
    of (Dec.no d) = sym (above _ _ _ _ _ (omega arith) refl)
last_line room (through n ∷ ds) t s = last_line room ds t (capped (s + n))
last_line room (line x ∷ ds) t s = ap (λ (k : ℕ). if_le (length x) room k s) (last_line (room - length x) ds t s)

pub spent_last : (room : ℕ) (c : Course) (t : List ℕ) (s : ℕ) → spent room (c and_then writes t).deeds s ≡ spent room c.deeds s
unfolding ◌and_then◌
spent_last room c t s = of c.ended
  where
    of : (e : End) → spent room (goes_on c.deeds e (writes t)).deeds s ≡ spent room c.deeds s
    of done = last_line room c.deeds t s
    of (stop e) = refl
