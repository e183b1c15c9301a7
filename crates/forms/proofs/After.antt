-- What a reading leaves.
use Prim.Native.Nat.{ℕ, ◌+◌}
use mathlib.Core.Path.{◌≡◌, refl, sym, ap, ◌∙◌}
use mathlib.Core.List.{List}
use borrow.Author.Rules.{rules}
use Rattle.error.specs.Answer.{Answer, Ok, Err}
use Rattle.error.specs.declared.Refusal.{Refusal}
use Rattle.lookup.specs.declared.counted.Counted.{Counted}
use Rattle.lookup.specs.Counted.{after, onto}
use Rattle.text.specs.Output.{Output, at, refused, output_of}
use Rattle.calls.specs.Nodes.{capped}
use Rattle.demand.specs.Trace.{End, done, stop}
use Rattle.forms.specs.Course.{Course, readings}
use Rattle.forms.specs.Inner.{ending, Stand, stand_of, ended_with, go, end_of, reads}
use Rattle.forms.proofs.Going.{read_got, read_no, reads_stays}
use Rattle.extents.specs.Verdict.{Verdict, fine}

module _ (p : Answer ℕ) where
  pub refuse_at : (e : Refusal) (n : ℕ) → p ≡ Ok n → (b : List ℕ) → refused e ≡ ending (stop e) (output_of p b)
  refuse_at e n q b = rw q

  pub refuse_no : (e w : Refusal) → p ≡ Err w → (b : List ℕ) → refused w ≡ ending (stop e) (output_of p b)
  refuse_no e w q b = rw q

pub ruleset refusals = (rules, refuse_at, refuse_no)

-- where something was refused before
pub reads_shut : {A : Type 0} (c : Counted A) (p : Counted ℕ) (w : Refusal) (b : List ℕ) → p.answer ≡ Err w → stand_of p b ≡ reads c (stand_of p b)
unfolding reads
reads_shut c p w b e = rw e (of (end_of c.answer))
  where
    of : (x : End) → ◌≡◌ {A = Stand} (record { output = refused w; nodes = p.nodes }) (ended_with x (record { output = refused w; nodes = p.nodes }))
    of done = refl
    of (stop y) = refl

module _ (p : Counted ℕ) (s : Counted (Unit {0})) where
  pub read_before : (w : Refusal) → p.answer ≡ Err w → (b : List ℕ) → stand_of p b ≡ reads s (stand_of p b)
  read_before w e b = reads_shut s p w b e

  module _ (n m : ℕ) (e : p.answer ≡ Ok n) (h : m ≡ capped (p.nodes + s.nodes)) where
    pub read_fine : s.answer ≡ fine → (b : List ℕ) → ◌≡◌ {A = Stand} (record { output = output_of p.answer b; nodes = m }) (reads s (stand_of p b))
    unfolding reads
    read_fine q b = rw (e, q, h)

    pub read_refused : (w : Refusal) → s.answer ≡ Err w → (b : List ℕ) → ◌≡◌ {A = Stand} (record { output = refused w; nodes = m }) (reads s (stand_of p b))
    unfolding reads
    read_refused w q b = rw (e, q, h)

pub ruleset readings_left = (rules, read_before, read_fine, read_refused)

-- where it is settled that y is read
pub settled_go : {A : Type 0} (room : ℕ) (c : Counted A) (f : A → Course) (y : A) (s : Counted (Unit {0})) (p : Stand) → c ≡ (onto s λ u t. after t (Ok y)) →
    go room (readings c f) p ≡ go room (f y) (reads s p)
unfolding reads
settled_go {A} room c f y s p e = ap (λ (k : Counted A). go room (readings k f) p) e ∙ of s.answer
  where
    of : (r : Verdict) → go room (readings (onto (after s.nodes r) λ u t. after t (Ok y)) f) p ≡ go room (f y) (reads (after s.nodes r) p)
    of (Ok u) = read_got (after s.nodes (Ok y)) f room p y refl
    of (Err w) = read_no (after {A = A} s.nodes (Err w)) f room p w refl ∙ sym (reads_stays (after {A = Unit {0}} s.nodes (Err w)) room (f y) p w refl)
