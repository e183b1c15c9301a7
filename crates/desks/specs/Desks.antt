-- Eight counts, one for each desk. Document 02, request 06.
use Rattle.std.specs.Prelude.{ℕ, ◌+◌, List, get_or, set}
use Rattle.error.specs.Answer.{if_le}
use Rattle.calls.specs.Nodes.{capped}

-- a desk's count goes up by n; "A desk number above 7 changes no count"
unfoldable pub added : List ℕ → ℕ → ℕ → List ℕ
added cs d n = if_le 8 d cs (set cs d (capped (get_or cs d 0 + n)))
