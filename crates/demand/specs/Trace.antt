-- A text that is written piece by piece until something is refused: the text so far, and how it ended. Document 01, "The listing (added)": "A listing
-- is refused for a fault met in opening or in this reading, or with 6 or 10, and otherwise is the text above".
use Rattle.std.specs.Prelude.{ℕ, List, [], ◌++◌, length}
use Rattle.error.specs.Answer.{Answer, Ok, Err, if_le}
use Rattle.error.specs.declared.Refusal.{Refusal}
use Rattle.error.specs.declared.Refusal.TheVariants.{BufferTooShort}

pub data End : Type 0 where
  done : End
  stop : Refusal → End

pub record Trace : Type 0 where
  pub text : List ℕ
  pub ended : End

abbrev pub says : List ℕ → Trace
says s = record { text = s; ended = done }

abbrev pub refuses : Refusal → Trace
refuses e = record { text = []; ended = stop e }

abbrev pub go_on : List ℕ → End → Trace → Trace
go_on s done u = record { text = s ++ u.text; ended = u.ended }
go_on s (stop e) u = record { text = s; ended = stop e }

infixr 50 ◌then◌
-- the one and, where it was done, the other
unfoldable pub ◌then◌ : Trace → Trace → Trace
t then u = go_on t.text t.ended u

-- what is written of what is read, and where that is refused, the refusal
unfoldable pub reading : {A : Type 0} → Answer A → (A → Trace) → Trace
reading (Ok a) f = f a
reading (Err e) f = refuses e

abbrev pub text_or : List ℕ → End → Answer (List ℕ)
text_or s done = Ok s
text_or s (stop e) = Err e

-- "6 (added) buffer shorter than the answer: .. in a listing, at the first line that was read without fault and does not fit": all that a line
-- needs is read before its first byte, so that a text longer than the room is one whose first line past it does not fit
unfoldable pub within : ℕ → Trace → Answer (List ℕ)
within room t = if_le (length t.text) room (text_or t.text t.ended) (Err BufferTooShort)
