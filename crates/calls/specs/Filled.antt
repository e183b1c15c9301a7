-- What a call leaves that answers into a buffer which the caller lends. Document 01, "Answers other than success": "any other refusal leaves
-- buffers unchanged. Success writes nothing past its answer"; "6 (added) buffer shorter than the answer".
use Rattle.std.specs.Prelude.{ℕ, ◌*◌, List, ◌++◌, length, drop}
use Rattle.error.specs.Answer.{Answer, Ok, Err, if_le}
use Rattle.error.specs.declared.Refusal.TheVariants.{BufferTooShort}
use Rattle.lookup.specs.declared.counted.Counted.{Counted}

-- how many bytes were written, or the refusal; and the buffer
pub record Filled : Type 0 where
  pub answer : Answer ℕ
  pub buffer : List ℕ

-- a text that is answered into a buffer
unfoldable pub filled : List ℕ → List ℕ → Filled
filled t b =
    if_le (length t) (length b)
    (record { answer = Ok (length t); buffer = t ++ drop (length t) b })
    (record { answer = Err BufferTooShort; buffer = b })

-- n entries of k bytes each, together t: how many they are is answered
abbrev pub entries_in : ℕ → ℕ → List ℕ → List ℕ → Filled
entries_in k n t b =
    if_le (k * n) (length b)
    (record { answer = Ok n; buffer = t ++ drop (k * n) b })
    (record { answer = Err BufferTooShort; buffer = b })

-- a text or a refusal
abbrev pub filled_by : Answer (List ℕ) → List ℕ → Filled
filled_by (Ok t) b = filled t b
filled_by (Err e) b = record { answer = Err e; buffer = b }

abbrev pub filled_at : Answer ℕ → List ℕ → Filled
filled_at p b = record { answer = p; buffer = b }

-- the same with the nodes gone through
pub record Answered : Type 0 where
  pub nodes : ℕ
  pub result : Filled

abbrev pub answered : Counted (List ℕ) → List ℕ → Answered
answered c b = record { nodes = c.nodes; result = filled_by c.answer b }

-- what such a call says, and the buffer as it leaves it
abbrev pub written_told : Counted ℕ → List ℕ → Answered
written_told r b = record { nodes = r.nodes; result = record { answer = r.answer; buffer = b } }

abbrev pub called_by : Counted ℕ → List ℕ → Answered
called_by r b = record { nodes = r.nodes; result = filled_at r.answer b }
