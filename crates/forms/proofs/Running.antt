-- A trace written into a buffer: one law of composition.
use Prim.Native.Nat.{ℕ}
use mathlib.Core.Path.{◌≡◌, refl, sym, ap, ◌∙◌}
use mathlib.Core.List.{List}
use Rattle.error.specs.declared.Refusal.{Refusal}
use Rattle.text.specs.Output.{Output, at, refused, puts}
use Rattle.text.proofs.Writing.{puts_append, puts_refused}
use Rattle.demand.specs.Trace.{End, done, stop, Trace, says, ◌then◌, go_on}
use Rattle.forms.specs.Inner.{ending, run}

module _ (room : ℕ) where
  pub run_says : (s : List ℕ) (o z : Output) → z ≡ puts room s o → z ≡ run room (says s) o
  unfolding run
  run_says s o z h = h

  pub run_refused : (t : Trace) (w : Refusal) → run room t (refused w) ≡ refused w
  unfolding run
  run_refused t w = rw (puts_refused room t.text w) (of t.ended)
    where
      of : (e : End) → ending e (refused w) ≡ refused w
      of done = refl
      of (stop e) = refl

  -- a refusal stays
  stays : (t : Trace) (w : Refusal) (o : Output) → run room t (ending (stop w) o) ≡ ending (stop w) o
  stays t w (at b n) = run_refused t w
  stays t w (refused e) = run_refused t e

  pub run_then : (t u : Trace) (o : Output) → run room (t then u) o ≡ run room u (run room t o)
  unfolding run ◌then◌
  run_then t u o = of t.ended
    where
      of : (e : End) → ending (go_on t.text e u).ended (puts room (go_on t.text e u).text o) ≡ ending u.ended (puts room u.text (ending e (puts room t.text o)))
      of done = ap (ending u.ended) (puts_append room t.text u.text o)
      of (stop e) = sym (stays u e (puts room t.text o))
