-- The totals of a listing, counted over its lines. Document 02, request 08: "node forms printed, bytes shown in data forms, and attr forms. Each equals
-- the count over the lines above it".
use Rattle.std.specs.Prelude.{ℕ, suc, ◌+◌, ◌-◌, ◌/◌, Bool, true, false, List, [], ◌∷◌, length}
use Rattle.error.specs.Answer.{pick, if_eq}
use Rattle.text.specs.Words.{ascii}
use Rattle.totals.specs.declared.Totals.{Totals}

-- ---- the lines of a text: document 01, "The listing (added)", "One form a line, ended by LF"

-- a byte before the first of these lines
abbrev pub longer : ℕ → List (List ℕ) → List (List ℕ)
longer c [] = (c ∷ []) ∷ []
longer c (l ∷ ls) = (c ∷ l) ∷ ls

-- each line without its LF
unfoldable pub lines_of : List ℕ → List (List ℕ)
lines_of [] = []
lines_of (c ∷ x) = if_eq c 10 ([] ∷ lines_of x) (longer c (lines_of x))

-- how many bytes stand before the first LF
unfoldable pub line_length : List ℕ → ℕ
line_length [] = 0
line_length (c ∷ x) = if_eq c 10 0 (suc (line_length x))

-- ---- what they count for

-- whether a line begins so
unfoldable pub begins : List ℕ → List ℕ → Bool
begins [] l = true
begins (c ∷ s) [] = false
begins (c ∷ s) (d ∷ l) = if_eq c d (begins s l) false

abbrev pub counts : ℕ → ℕ → ℕ → Totals
counts n b a = record { nodes = n; bytes = b; attrs = a }

abbrev pub no_totals : Totals
no_totals = counts 0 0 0

-- what one line counts for: of `(data x`, two digits for each byte and `)` the bytes
unfoldable pub line_totals : List ℕ → Totals
line_totals l =
    pick (begins (ascii "(node " []) l) (counts 1 0 0)
    (pick (begins (ascii "(attr " []) l) (counts 0 0 1)
    (pick (begins (ascii "(data x" []) l) (counts 0 ((length l - 7) / 2) 0) no_totals))

abbrev pub plus : Totals → Totals → Totals
plus t u = counts (t.nodes + u.nodes) (t.bytes + u.bytes) (t.attrs + u.attrs)

unfoldable pub all_lines : List (List ℕ) → Totals
all_lines [] = no_totals
all_lines (l ∷ ls) = plus (line_totals l) (all_lines ls)

-- "the count over the lines"
unfoldable pub totals_of : List ℕ → Totals
totals_of x = all_lines (lines_of x)
