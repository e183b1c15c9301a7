-- The line, by what was measured.
use Prim.Native.Nat.{ℕ}
use mathlib.Core.Path.{◌≡◌, sym, ap, ◌∙◌}
use mathlib.Core.List.{List, []}
use borrow.Author.Rules.{rules}
use Rattle.error.specs.Answer.{Answer, Ok, Err, ◌>>=◌}
use Rattle.error.specs.declared.Refusal.{Refusal}
use Rattle.lookup.specs.declared.counted.Counted.{Counted}
use Rattle.lookup.specs.Counted.{onto}
use Rattle.volume.specs.Open.{volume_of_image}
use Rattle.volume.specs.declared.Volume.{Volume}
use Rattle.volume.specs.declared.Which.{Which}
use Rattle.calls.specs.Filled.{Filled, filled, filled_by, filled_at, Answered, answered}
use Rattle.demand.specs.Demand.{view_of, view_of_part}
use Rattle.demand.specs.Measure.{Measure, most, measured}
use Rattle.forms.specs.Course.{nodes_into}
use Rattle.measure.specs.declared.gauge.Measured.{Measured}
use Rattle.measure.specs.Line.{measured_told, numbers_line, measure_line, volume_text, measure_text, measured_on, measure_counted}

module _ (image : List ℕ) (v : Volume) (s : ℕ) (out : List ℕ) (r : Counted Measured) (p : measured_told r.answer ≡ measured (view_of image v)) (k : r.nodes ≡ nodes_into most image v s) where
  on_volume_lem : (x : Filled) → x ≡ filled_by (volume_text (view_of image v)) out → ◌≡◌ {A = Answered} (record { nodes = r.nodes; result = x }) (answered (measured_on image v s) out)
  unfolding measured_on
  on_volume_lem x h = λ i. record { nodes = k i; result = h i }

  pub line_got : (m : Measured) (z : Filled) → r.answer ≡ Ok m → z ≡ filled (numbers_line m.length m.depth []) out → ◌≡◌ {A = Answered} (record { nodes = r.nodes; result = z }) (answered (measured_on image v s) out)
  unfolding volume_text
  line_got m z q h = on_volume_lem z (rw (← p, q) h)

  pub line_no : (e : Refusal) → r.answer ≡ Err e → ◌≡◌ {A = Answered} (record { nodes = r.nodes; result = filled_at (Err e) out }) (answered (measured_on image v s) out)
  unfolding volume_text
  line_no e q = on_volume_lem (filled_at (Err e) out) (rw (← p, q))

module _ (image : List ℕ) (index : Which) (out : List ℕ) (r : Counted Volume) (p : r ≡ volume_of_image image index) where
  opened : (x : Answer Volume) → r.answer ≡ x → measure_text image index ≡ (x >>= (λ v. Ok (view_of image v)) >>= volume_text)
  unfolding measure_counted view_of_part
  opened x q =
      ap (λ (c : Counted Volume). c.answer >>= (λ v. Ok (view_of image v)) >>= volume_text) (sym p)
      ∙ ap (λ (y : Answer Volume). y >>= (λ v. Ok (view_of image v)) >>= volume_text) q

  nodes_opened : (x : Answer Volume) → r.answer ≡ x → (measure_counted image index).nodes ≡ (onto (record { nodes = r.nodes; answer = x }) (λ v s. measured_on image v s)).nodes
  unfolding measure_counted
  nodes_opened x q =
      ap (λ (c : Counted Volume). (onto c (λ v s. measured_on image v s)).nodes) (sym p) ∙ ap (λ (y : Answer Volume). (onto (record { nodes = r.nodes; answer = y }) (λ v s. measured_on image v s)).nodes) q

  pub text_opened : (v : Volume) (z : Answered) → r.answer ≡ Ok v → z ≡ answered (measured_on image v r.nodes) out → z ≡ answered (measure_counted image index) out
  unfolding measured_on
  text_opened v z q h = h ∙ λ i. record { nodes = sym (nodes_opened (Ok v) q) i; result = filled_by (sym (opened (Ok v) q) i) out }

  pub text_refused : (e : Refusal) → r.answer ≡ Err e → ◌≡◌ {A = Answered} (record { nodes = r.nodes; result = filled_at (Err e) out }) (answered (measure_counted image index) out)
  text_refused e q = λ i. record { nodes = sym (nodes_opened (Err e) q) i; result = filled_by (sym (opened (Err e) q) i) out }

pub ruleset lines = (rules, line_got, line_no, text_opened, text_refused)
