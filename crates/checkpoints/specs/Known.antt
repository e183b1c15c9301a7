-- Yes-or-no questions: where a refusal says only that something is not there, its number is dropped.
use Rattle.std.specs.Prelude.{Option, None, Some}
use Rattle.error.specs.Answer.{Answer, Ok, Err}

abbrev pub known : {A : Type 0} → Answer A → Option A
known (Ok a) = Some a
known (Err e) = None

infixl 20 ◌>>?◌
abbrev pub ◌>>?◌ : {A B : Type 0} → Option A → (A → Option B) → Option B
Some a >>? f = f a
None >>? f = None
