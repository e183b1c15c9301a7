-- A test that only lets pass or refuses. Document 01, "Answers other than success": "the first fault in the Rust's order of reading counts".
use Rattle.std.specs.Prelude.{ℕ}
use Rattle.error.specs.Answer.{Answer, Ok, Err, if_le}
use Rattle.error.specs.declared.Refusal.{Refusal}

abbrev pub Verdict : Type 0
Verdict = Answer (Unit {0})

abbrev pub fine : Verdict
fine = Ok tt

infixl 20 ◌>>◌
-- what comes after a refusal is not asked
abbrev pub ◌>>◌ : {B : Type 0} → Verdict → Answer B → Answer B
Ok a >> b = b
Err e >> b = Err e

-- a must be at most b, else it is the refusal e
abbrev pub at_most : {A : Type 0} → ℕ → ℕ → Refusal → Answer A → Answer A
at_most a b e x = if_le a b x (Err e)
