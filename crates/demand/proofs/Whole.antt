-- Whole lines: what the parts of a listing count for, each by itself and whatever follows it; and no count passes the length of its text.
use Prim.Native.Nat.{zero-le, ℕ, suc, ◌+◌, ◌-◌, ◌/◌, ◌≤◌}
use mathlib.Core.Path.{◌≡◌, refl, sym, ap, ◌∙◌}
use mathlib.Core.Bool.{Bool, true, false}
use mathlib.Core.List.{List, [], ◌∷◌, ◌++◌, append_assoc, append-nil}
use native.Mathlib.Omega.{arith}
use borrow.Author.Rules.{rules}
use lib.ListN.{length}
use Rattle.error.specs.Answer.{Answer, Ok, Err, pick}
use Rattle.error.proofs.Laws.{eq_cases}
use Rattle.text.specs.Words.{ascii}
use Rattle.lines.specs.Shown.{InodeShown, EntryShown, AttributeShown, Contents, packed, plain}
use Rattle.lines.specs.Lines.{volume_line, node_line, attribute_line, entry_line, close}
use Rattle.volume.specs.declared.rule.NameRule.{NameRule}
use Rattle.totals.specs.declared.Totals.{Totals}
use Rattle.totals.specs.Totals.{longer, lines_of, begins, counts, no_totals, line_totals, plus, all_lines, totals_of}
use Rattle.totals.proofs.Lines.{plus_assoc}
use Rattle.totals.proofs.Turns.{Few, begins_least, totals_start}
use Rattle.demand.specs.Trace.{says}
use Rattle.demand.specs.View.{View}
use Rattle.demand.specs.Listing.{holding, attribute_lines, is_packed, data_line, entry_forms, node_form}
use Rattle.demand.specs.Shows.{ShowsContents}
use Rattle.demand.specs.Tree.{shown_bytes}
use Rattle.demand.proofs.TreeLaws.{Writes, volume_writes, node_writes, attribute_writes, entry_writes, close_writes}
use Rattle.demand.proofs.Shows.{then_done, reading_done, contents_done, node_done}
use Rattle.demand.proofs.TreeTotals.{node_counts, attribute_counts, contents_counts, entry_counts, close_counts, volume_counts, tree_counts, totals_end}

-- whole lines, and what they count for
pub record Lines (s : List ℕ) (t : Totals) : Type 0 where
  pub total : totals_of s ≡ t
  pub whole : (x : List ℕ) → totals_of (s ++ x) ≡ plus (totals_of s) (totals_of x)

counted : {s : List ℕ} {t : Totals} → ((x : List ℕ) → totals_of (s ++ x) ≡ plus t (totals_of x)) → Lines s t
counted {s} {t} h =
    let e : totals_of s ≡ t = ap totals_of (sym (append-nil s)) ∙ h [] ∙ totals_end t in
    record { total = e; whole = λ x. h x ∙ ap (λ (u : Totals). plus u (totals_of x)) (sym e) }

-- of a text that is put before what follows
written : {f : List ℕ → List ℕ} {s : List ℕ} {t : Totals} → Writes f s → ((x : List ℕ) → totals_of (f x) ≡ plus t (totals_of x)) → Lines s t
written p h = counted (λ x. ap totals_of (sym (p.before x)) ∙ h x)

pub lines_none : Lines [] no_totals
lines_none = counted (λ x. sym (totals_start (totals_of x)))

infixr 50 ◌with◌
-- the one and then the other
pub ◌with◌ : {s r : List ℕ} {t u : Totals} → Lines s t → Lines r u → Lines (s ++ r) (plus t u)
◌with◌ {s} {r} {t} {u} p q =
    counted (λ x. ap totals_of (append_assoc s r x) ∙ p.whole (r ++ x) ∙ rw (q.whole x, p.total, q.total) (sym (plus_assoc t u (totals_of x))))

itself : {s : List ℕ} {t : Totals} → Lines s t → Lines s (totals_of s)
itself p = record { total = refl; whole = p.whole }

-- ---- one line

pub volume_line_lem : (r : NameRule) (l : List ℕ) → Lines (volume_line r.case_insensitive r.normalization_insensitive l []) no_totals
volume_line_lem r l = written (volume_writes r l) (volume_counts _ _ l)

pub node_line_lem : (f : InodeShown) → Lines (node_line f []) (counts 1 0 0)
node_line_lem f = written (node_writes f) (node_counts f)

pub attribute_line_lem : (a : AttributeShown (List ℕ)) → Lines (attribute_line a []) (counts 0 0 1)
attribute_line_lem a = written (attribute_writes a) (attribute_counts a)

pub entry_line_lem : (e : EntryShown) → Lines (entry_line e []) no_totals
entry_line_lem e = written (entry_writes e) (entry_counts e)

pub close_line : Lines (close []) no_totals
close_line = written close_writes close_counts

-- ---- the parts of a listing that were not refused

moved : {r s : List ℕ} {t u : Totals} → Lines r t → r ≡ s → t ≡ u → Lines s u
moved p e f = rw (← e, ← f) p

said : {r s : List ℕ} {t : Totals} → Lines r t → says r ≡ says s → Lines s t
said p h = moved p (ap (λ z. z.text) h) refl

pub attributes_whole : (l : List (AttributeShown (Answer (List ℕ)))) {s : List ℕ} → attribute_lines l ≡ says s → Lines s (counts 0 0 (length l))
unfolding attribute_lines
attributes_whole [] h = said lines_none h
attributes_whole (a ∷ l) h =
    then_done _ _ h λ p q hp hq e.
    reading_done _ _ hp λ d hd k.
    let n : 1 + length l ≡ suc (length l) = omega arith in
    moved (said (attribute_line_lem (holding a d)) k with attributes_whole l hq) e (ap (counts 0 0) n)

-- the bytes that a file's line shows
abbrev pub length_in : Answer (List ℕ) → ℕ
length_in (Ok d) = length d
length_in (Err e) = 0

abbrev pub file_bytes : View → InodeShown → ℕ
file_bytes v f = pick (is_packed f) 0 (length_in (v.contents f.id))

file_bytes_lem : (v : View) (f : InodeShown) (c : Contents) → ShowsContents v f c → shown_bytes c ≡ file_bytes v f
file_bytes_lem v f packed h = rw h
file_bytes_lem v f (plain d) h = rw (h.0, h.1)

pub data_whole : (v : View) (f : InodeShown) {s : List ℕ} → data_line v f ≡ says s → Lines s (counts 0 (file_bytes v f) 0)
data_whole v f h =
    let c = contents_done v f h in
    moved (written c.text (contents_counts c.it)) refl (ap (λ (n : ℕ). counts 0 n 0) (file_bytes_lem v f c.it c.shows))

pub node_whole : (v : View) (d i : ℕ) {s : List ℕ} → node_form v d i ≡ says s → Lines s (totals_of s)
node_whole v d i h = let t = node_done v d i _ h in itself (written t.text (tree_counts t.tree))

pub node_whole_lines : (v : View) (d i : ℕ) (s : List ℕ) → node_form v d i ≡ says s → (x : List ℕ) → totals_of (s ++ x) ≡ plus (totals_of s) (totals_of x)
node_whole_lines v d i s h = (node_whole v d i h).whole

pub entries_whole : (v : View) (d : ℕ) (es : List EntryShown) {s : List ℕ} → entry_forms (node_form v d) es ≡ says s → Lines s (totals_of s)
unfolding entry_forms
entries_whole v d [] h = itself (said lines_none h)
entries_whole v d (e ∷ es) h =
    then_done _ _ h λ a b ha hb p.
    then_done _ _ hb λ c k hc hk q.
    then_done _ _ hk λ x y hx hy z.
    itself (moved (said (entry_line_lem e) ha with node_whole v d e.id hc with said close_line hx with entries_whole v d es hy) (rw (z, q) p) refl)

-- ---- no more than the text is long

line_few : (l : List ℕ) → Few (length l) (line_totals l)
unfolding line_totals
line_few l =
    of (begins (ascii "(node " []) l) (begins (ascii "(attr " []) l) (begins (ascii "(data x" []) l) (begins_least (ascii "(node " []) l) (begins_least (ascii "(attr " []) l)
  where
    of : (b c d : Bool) → (b ≡ true → 6 ≤ length l) → (c ≡ true → 6 ≤ length l)
        → Few (length l) (pick b (counts 1 0 0) (pick c (counts 0 0 1) (pick d (counts 0 ((length l - 7) / 2) 0) no_totals)))
    of true c d h k = let n = h refl in search rules
    of false true d h k = let n = k refl in search rules
    of false false true h k = search rules
    of false false false h k = search rules

abbrev lengths : List (List ℕ) → ℕ
lengths [] = 0
lengths (l ∷ ls) = length l + lengths ls

lines_few : (ls : List (List ℕ)) → Few (lengths ls) (all_lines ls)
unfolding all_lines
lines_few [] = search rules
lines_few (l ∷ ls) =
    let a = line_few l in
    let b = lines_few ls in
    record { nodes = omega arith; bytes = omega arith; attrs = omega arith }

longer_length : (c : ℕ) (ls : List (List ℕ)) → lengths (longer c ls) ≡ suc (lengths ls)
longer_length c [] = refl
longer_length c (l ∷ ls) = omega arith

lines_length : (x : List ℕ) → lengths (lines_of x) ≤ length x
unfolding lines_of
lines_length [] = zero-le
lines_length (c ∷ x) =
    let h = lines_length x in eq_cases (λ ls. lengths ls ≤ suc (length x)) (λ e. omega arith) (λ e. omega (arith, longer_length c (lines_of x)))

pub totals_few : (x : List ℕ) → Few (length x) (totals_of x)
unfolding totals_of
totals_few x =
    let a = lines_few (lines_of x) in
    let b = lines_length x in
    record { nodes = omega arith; bytes = omega arith; attrs = omega arith }
