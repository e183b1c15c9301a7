-- Answers with the nodes that were gone through to them. Document 01, btree.rs: "Its answer counts the nodes it went through".
-- Nothing is counted here: a path is a list of blocks, and a count is taken of it.
use Rattle.std.specs.Prelude.{ℕ, List, [], ◌∷◌, ◌++◌}
use Rattle.error.specs.Answer.{Answer, Ok, Err}
use Rattle.arith.specs.Checked.{ticked}
use Rattle.lookup.specs.declared.counted.Counted.{Counted}
use Rattle.lookup.specs.Counted.{after}

-- an answer, and the blocks of the nodes that were gone through to it, in order
pub record Through (A : Type 0) : Type 0 where
  pub path : List ℕ
  pub answer : Answer A

-- an answer with no node gone through
abbrev pub at_once : {A : Type 0} → Answer A → Through A
at_once a = record { path = []; answer = a }

-- the node of a block gone through, then t
abbrev pub by : {A : Type 0} → ℕ → Through A → Through A
by p t = record { path = p ∷ t.path; answer = t.answer }

-- f of what an answer gives
abbrev pub on : {A B : Type 0} → Answer A → (A → Through B) → Through B
on (Ok a) f = f a
on (Err e) f = at_once (Err e)

-- t, then f of what it gives
unfoldable pub and_then : {A B : Type 0} → Through A → (A → Through B) → Through B
and_then t f = record { path = t.path ++ (on t.answer f).path; answer = (on t.answer f).answer }

-- the count after a path, s nodes having been gone through before it: each of its nodes counts one, up to 2^64 − 1
unfoldable pub count_along : ℕ → List ℕ → ℕ
count_along s [] = s
count_along s (p ∷ ps) = count_along (ticked s) ps

-- an answer, counted
unfoldable pub counted : {A : Type 0} → ℕ → Through A → Counted A
counted s t = after (count_along s t.path) t.answer
