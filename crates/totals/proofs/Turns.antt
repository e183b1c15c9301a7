-- The turns of the loops.
use Prim.Native.Nat.{zero-le, ℕ, suc, ◌+◌, ◌-◌, ◌*◌, ◌/◌, ◌^◌, ◌≤◌, ◌<◌, min}
use mathlib.Core.Path.{◌≡◌, refl, sym, ap, ◌∙◌}
use mathlib.Core.Bool.{Bool, true, false, cond, not, ◌&&◌}
use mathlib.Core.List.{List, [], ◌∷◌, ◌++◌}
use native.Mathlib.Omega.{arith}
use lib.Dec.{eqb, ltb}
use lib.Pointwise.{pointwise}
use borrow.Author.Tests.{ltb-true, ltb-false}
use Rattle.std.specs.List.{position_or_len}
use Rattle.std.specs.Option.{unwrap_or}
use Rattle.std.specs.Prelude.{Some, None}
use native.Mathlib.Nat.{add-zero, zero-add}
use native.Mathlib.Numerals.{add-one}
use lib.ListN.{length, get_or, take, drop, length-take, length-drop, take-append-drop, drop_of_length-le}
use lib.Seq.{drop-cons, take_all, length-take-le}
use Rattle.error.specs.Answer.{pick, if_eq}
use Rattle.error.proofs.Laws.{same, other, eq_cases, picked_by, not_picked_by}
use Rattle.text.specs.Words.{ascii}
use Rattle.totals.specs.declared.Totals.{Totals}
use Rattle.totals.specs.Totals.{lines_of, line_length, begins, counts, no_totals, line_totals, plus, all_lines, totals_of}
use Rattle.totals.specs.Inner.{has_lf}
use Rattle.totals.proofs.Lines.{length_le, first_line, plus_assoc}

-- ---- begins

-- the library's test of a beginning is this one
begins_as : (s l : List ℕ) (d : Bool) → d ≡ pointwise eqb s (take (length s) l) → d ≡ begins s l
unfolding begins if_eq
begins_as [] l d h = h
begins_as (c ∷ s) [] d h = h
begins_as (c ∷ s) (x ∷ l) d h = of (eqb c x) (begins_as s l d) h
  where
    of : (e : Bool) → (d ≡ pointwise eqb s (take (length s) l) → d ≡ begins s l) → d ≡ (e && pointwise eqb s (take (length s) l)) → d ≡ pick e (begins s l) false
    of true f k = f k
    of false f k = k

pub begins_least : (s l : List ℕ) → begins s l ≡ true → length s ≤ length l
unfolding begins
begins_least [] l = λ h. zero-le
begins_least (c ∷ s) [] = λ h. let z : ◌≡◌ {A = ℕ} 0 1 = cc in absurd (omega arith)
begins_least (c ∷ s) (d ∷ l) =
    eq_cases (λ b. b ≡ true → suc (length s) ≤ suc (length l)) (λ e h. omega (arith, begins_least s l h))
    (λ e h. let z : ◌≡◌ {A = ℕ} 0 1 = cc in absurd (omega arith))

-- ---- line_totals: the tests of a line's beginning, one after the other

-- whether a line begins so
abbrev starts : List ℕ → List ℕ → Bool
starts s l = pointwise eqb s (take (length s) l)

module _ (l : List ℕ) (b : Bool) (p : b ≡ starts (ascii "(node " []) l) where
  node : b ≡ begins (ascii "(node " []) l
  node = begins_as (ascii "(node " []) l b p

  pub of_node : b ≡ true → counts 1 0 0 ≡ line_totals l
  unfolding line_totals
  of_node h = picked_by _ _ _ b _ node h refl

  module _ (h : b ≡ false) (c : Bool) (q : c ≡ starts (ascii "(attr " []) l) where
    attr : c ≡ begins (ascii "(attr " []) l
    attr = begins_as (ascii "(attr " []) l c q

    pub of_attr : c ≡ true → counts 0 0 1 ≡ line_totals l
    unfolding line_totals
    of_attr k = not_picked_by _ _ _ b _ node h (picked_by _ _ _ c _ attr k refl)

    module _ (k : c ≡ false) (d : Bool) (r : d ≡ starts (ascii "(data x" []) l) where
      shown : d ≡ begins (ascii "(data x" []) l
      shown = begins_as (ascii "(data x" []) l d r

      pub of_data : d ≡ true → counts 0 ((length l - 7) / 2) 0 ≡ line_totals l
      unfolding line_totals
      of_data m = not_picked_by _ _ _ b _ node h (not_picked_by _ _ _ c _ attr k (picked_by _ _ _ d _ shown m refl))

      pub of_other : d ≡ false → no_totals ≡ line_totals l
      unfolding line_totals
      of_other m = not_picked_by _ _ _ b _ node h (not_picked_by _ _ _ c _ attr k (not_picked_by _ _ _ d _ shown m refl))

pub data_long : (l : List ℕ) (d : Bool) → d ≡ starts (ascii "(data x" []) l → d ≡ true → 7 ≤ length l
data_long l d r m = begins_least (ascii "(data x" []) l (sym (begins_as (ascii "(data x" []) l d r) ∙ m)

pub ruleset by_start = (of_node, of_attr, of_data, of_other)

-- ---- line_end

-- whether a byte is an LF
abbrev pub lf : ℕ → Bool
lf c = eqb c 10

lines_at : (x : List ℕ) → line_length x ≡ position_or_len lf x
unfolding line_length if_eq
lines_at [] = refl
lines_at (c ∷ x) = of (eqb c 10) (lines_at x)
  where
    of : (e : Bool) → line_length x ≡ position_or_len lf x → pick e 0 (suc (line_length x)) ≡ cond (not e) (1 + position_or_len lf x) 0
    of true k = refl
    of false k = omega arith

-- the first LF, or the end of x where there is none
pub line_found : (x : List ℕ) (n : ℕ) → n ≡ unwrap_or (cond (ltb (position_or_len lf x) (length x)) (Some (position_or_len lf x)) None) (length x) → n ≡ line_length x
line_found x n h = h ∙ of (ltb (position_or_len lf x) (length x)) refl
  where
    of : (e : Bool) → ltb (position_or_len lf x) (length x) ≡ e → unwrap_or (cond e (Some (position_or_len lf x)) None) (length x) ≡ line_length x
    of true k = sym (lines_at x)
    of false k = let l = length_le x in let m = lines_at x in omega (arith, ltb-false (position_or_len lf x) (length x) k)

-- ---- has_lf, past_blocks

module _ (x : List ℕ) (i : ℕ) (any whole : Bool) (p : pick any true (has_lf (drop i x)) ≡ whole) where
  pub lf_over : length x ≤ i → any ≡ whole
  unfolding has_lf
  lf_over h = of any (rw (drop_of_length-le x h) at p)
    where
      of : (b : Bool) → pick b true false ≡ whole → b ≡ whole
      of true e = e
      of false e = e

  module _ (h : i < length x) where
    lf_next : pick any true (has_lf (get_or x i 0 ∷ drop (suc i) x)) ≡ whole
    lf_next = rw (drop-cons x i 0 h) at p

    pub lf_here : get_or x i 0 ≡ 10 → pick true true (has_lf (drop (i + 1) x)) ≡ whole
    unfolding has_lf
    lf_here e = of any (rw (← same (get_or x i 0) 10 true (has_lf (drop (suc i) x)) _ e refl) at lf_next)
      where
        of : (b : Bool) → pick b true true ≡ whole → true ≡ whole
        of true k = k
        of false k = k

    pub lf_later : (get_or x i 0 ≡ 10 → ⊥) → pick any true (has_lf (drop (i + 1) x)) ≡ whole
    unfolding has_lf
    lf_later e = rw add-one (rw (← other (get_or x i 0) 10 true (has_lf (drop (suc i) x)) _ e refl) at lf_next)

-- past bytes without LF
passed : (l x : List ℕ) → has_lf l ≡ false → line_length (l ++ x) ≡ length l + line_length x
unfolding has_lf line_length
passed [] x = λ h. sym (zero-add _)
passed (c ∷ l) x =
    eq_cases (λ b. b ≡ false → line_length (c ∷ (l ++ x)) ≡ suc (length l) + line_length x) (λ e h. let z : ◌≡◌ {A = ℕ} 0 1 = cc in absurd (omega arith))
    (λ e h. sym (other c 10 0 (suc (line_length (l ++ x))) _ e refl) ∙ omega (arith, passed l x h))

pub block_passed : (x : List ℕ) (b : Bool) → 64 ≤ length x → b ≡ has_lf (take 64 x) → b ≡ false → line_length x ≡ 64 + line_length (drop 64 x)
block_passed x b k q e =
    let l : length (take 64 x) ≡ 64 = length-take-le 64 x k in
    ap line_length (sym (take-append-drop 64 x)) ∙ passed (take 64 x) (drop 64 x) (sym q ∙ e) ∙ rw l

-- ---- totals_in

-- no line counts for more than it has bytes, its LF counted
pub record Few (n : ℕ) (t : Totals) : Type 0 where
  pub nodes : t.nodes ≤ n
  pub bytes : t.bytes ≤ n
  pub attrs : t.attrs ≤ n

pub few_none : Few 0 no_totals
few_none = record { nodes = zero-le; bytes = zero-le; attrs = zero-le }

line_few : (l : List ℕ) (n : ℕ) → 1 ≤ n → length l ≤ n → Few n (line_totals l)
unfolding line_totals
line_few l n h k = of (begins (ascii "(node " []) l) (begins (ascii "(attr " []) l) (begins (ascii "(data x" []) l)
  where
    of : (b c d : Bool) → Few n (pick b (counts 1 0 0) (pick c (counts 0 0 1) (pick d (counts 0 ((length l - 7) / 2) 0) no_totals)))
    of true c d = record { nodes = omega arith; bytes = omega arith; attrs = omega arith }
    of false true d = record { nodes = omega arith; bytes = omega arith; attrs = omega arith }
    of false false true = record { nodes = omega arith; bytes = omega arith; attrs = omega arith }
    of false false false = record { nodes = omega arith; bytes = omega arith; attrs = omega arith }

-- a text that is not empty counts for its first line and the others
whole_line : (x : List ℕ) → (length x ≡ 0 → ⊥) → totals_of x ≡ plus (line_totals (take (line_length x) x)) (totals_of (drop (suc (line_length x)) x))
unfolding totals_of all_lines
whole_line [] h = absurd (h refl)
whole_line (c ∷ x) h = ap all_lines (first_line c x)

pub totals_start : (t : Totals) → plus no_totals t ≡ t
totals_start t = rw (zero-add, zero-add, zero-add)

pub totals_over : (x : List ℕ) (t whole : Totals) → plus t (totals_of x) ≡ whole → length x ≡ 0 → t ≡ whole
unfolding totals_of lines_of all_lines
totals_over [] t whole p h = rw (add-zero, add-zero, add-zero) at p
totals_over (c ∷ x) t whole p h = absurd (omega arith)

-- what is left of x past m of its bytes
abbrev pub rest : ℕ → List ℕ → List ℕ
rest m x = take (length x - m) (drop m x)

-- x is not empty, and its first line ends at e
module _ (x : List ℕ) (e : ℕ) (h : length x ≡ 0 → ⊥) (p : e ≡ line_length x) where
  pub end_within : e ≤ length x
  end_within = omega (arith, length_le x)

  pub line_whole : e ≡ length (take e x)
  line_whole = sym (length-take-le e x end_within)

  pub end_fits : length x * 1 < 2 ^ 63 → e + 1 < 2 ^ 64
  end_fits s = omega (arith, end_within)

  -- no count grows past the number of bytes of the whole text y
  module _ (l : Totals) (q : l ≡ line_totals (take e x)) (y : List ℕ) (t : Totals) (s : length x ≤ length y) (f : Few (length y - length x) t) (b : length y * 1 < 2 ^ 63) where
    at_most : Few (length x) l
    at_most = rw q (line_few (take e x) (length x) (omega arith) (omega (arith, length-take e x)))

    pub nodes_fit : t.nodes + l.nodes < 2 ^ 64
    nodes_fit = omega (arith, at_most.nodes, f.nodes)

    pub bytes_fit : t.bytes + l.bytes < 2 ^ 64
    bytes_fit = omega (arith, at_most.bytes, f.bytes)

    pub attrs_fit : t.attrs + l.attrs < 2 ^ 64
    attrs_fit = omega (arith, at_most.attrs, f.attrs)

  -- past the line and its LF
  module _ (m : ℕ) (k : m ≡ min (length x) (e + 1)) where
    pub rest_within : m ≤ length x
    rest_within = omega arith

    rest_is : rest m x ≡ drop m x
    rest_is = take_all (length x - m) (drop m x) (omega (arith, length-drop m x))

    rest_length : length (rest m x) ≡ length x - m
    rest_length = rw rest_is (length-drop m x)

    pub rest_less : length (rest m x) < length x
    rest_less = omega (arith, rest_length, end_within)

    past_line : drop m x ≡ drop (suc e) x
    past_line = of (ltb e (length x)) refl
      where
        of : (b : Bool) → ltb e (length x) ≡ b → drop m x ≡ drop (suc e) x
        of true q = let n : m ≡ suc e = omega (arith, ltb-true e (length x) q) in rw n
        of false q =
            let n : length x ≤ m = omega (arith, ltb-false e (length x) q) in
            let u : length x ≤ suc e = omega (arith, ltb-false e (length x) q) in
            rw (drop_of_length-le x n, drop_of_length-le x u)

    module _ (l : Totals) (q : l ≡ line_totals (take e x)) where
      few : Few m l
      few = rw q (line_few (take e x) m (omega arith) (omega (arith, length-take e x)))

      -- each count stays at most the number of bytes that were passed
      module _ (all : ℕ) (t : Totals) (s : length x ≤ all) (f : Few (all - length x) t) where
        pub few_next : Few (all - length (rest m x)) (plus t l)
        few_next =
            let g = few in
            let r = rest_length in
            record { nodes = omega (arith, f.nodes, g.nodes, end_within); bytes = omega (arith, f.bytes, g.bytes, end_within); attrs = omega (arith, f.attrs, g.attrs, end_within) }

      pub totals_next : (t whole : Totals) → plus t (totals_of x) ≡ whole → plus (plus t l) (totals_of (rest m x)) ≡ whole
      totals_next t whole inv = plus_assoc t l _ ∙ ap (plus t) (rw (rest_is, past_line) (first l p q)) ∙ inv
        where
          first : (l : Totals) → e ≡ line_length x → l ≡ line_totals (take e x) → plus l (totals_of (drop (suc e) x)) ≡ totals_of x
          first l p q = rw (q, p) (sym (whole_line x h))

pub ruleset turns = (totals_start, few_none, line_whole, end_within, end_fits, rest_within, rest_less)
