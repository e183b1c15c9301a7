-- What the sums lack gives the list.
use Prim.Native.Nat.{ℕ, zero, suc, ◌+◌, ◌-◌, ◌*◌, ◌/◌, ◌%◌, ◌^◌, ◌≤◌, ◌<◌}
use mathlib.Core.Path.{◌≡◌, refl, sym, ap, ◌∙◌}
use mathlib.Core.Bool.{Bool, true, false}
use mathlib.Core.List.{List, []}
use native.Mathlib.Nat.{mod-add-mod}
use native.Mathlib.Decide.{ℕ_discrete}
use native.Mathlib.Omega.{arith}
use lib.ListN.{length}
use Rattle.error.specs.Answer.{pick, if_eq}
use Rattle.error.proofs.Laws.{same, other, eq_cases}
use Rattle.byte_fields.specs.Number.{little}
use Rattle.checksum.specs.Fletcher.{M, s1, s2, summed, valid}
use Rattle.checksum.specs.declared.Sums.{Sums}
use Rattle.checksum.proofs.Laws.{short, uneven}
use Rattle.wrong_word.specs.Mends.{Mend, replaced, mends_at, mends_from, mends_of}
use Rattle.wrong_word.specs.Inner.{words_of_residue, gap, Closes, gaps_with, solved_at, solved_from, Found}
use Rattle.wrong_word.specs.declared.Gap.{Gap}
use Rattle.wrong_word.proofs.Words.{replaced_length}
use Rattle.wrong_word.proofs.Places.{none_in, place_none, place_some}
use Rattle.std.specs.Prelude.{None, Option}

two : (a b c : ℕ) → (a % M + b + c) % M ≡ (a + b + c) % M
two a b c = omega arith

three : (a b c : ℕ) → (a % M + b % M + c) % M ≡ (a + b + c) % M
three a b c = omega arith

-- where no place has a word, there is no list
places_none : (b : List ℕ) (n p : ℕ) → ((i : ℕ) → i < n → mends_at b (p + 4 * i) (2 ^ 32) 0 ≡ []) → mends_from b n p ≡ []
unfolding mends_from
places_none b zero p f = refl
places_none b (suc n) p f =
    let e : p + 4 * 0 ≡ p = omega arith in
    let h : mends_at b p (2 ^ 32) 0 ≡ [] = rw e at (f 0 (omega arith)) in
    rw h (places_none b n (p + 4) (λ i k. let q : p + 4 + 4 * i ≡ p + 4 * suc i = omega arith in rw q (f (suc i) (omega arith))))

module _ (b : List ℕ) where
  nothing_where : ((i : ℕ) → i < (length b - 8) / 4 → mends_at b (8 + 4 * i) (2 ^ 32) 0 ≡ []) → mends_of b ≡ []
  unfolding mends_of
  nothing_where f = rw (places_none b ((length b - 8) / 4) 8 f) (of (valid b))
    where
      of : (d : Bool) → ◌≡◌ {A = List Mend} (pick d [] []) []
      of true = refl
      of false = refl

  pub found_sound : (d : Bool) → d ≡ valid b → d ≡ true → Found b None
  unfolding mends_of
  found_sound d e h = let q : valid b ≡ true = sym e ∙ h in record { list = rw q; bounds = tt }

  -- a replacement keeps the length
  pub found_short : length b < 32 → Found b None
  found_short h = record {
    list = nothing_where (λ i k. none_in b (8 + 4 * i) (2 ^ 32) 0 (λ v x y. sym (short (replaced b (8 + 4 * i) v) (rw (replaced_length b (8 + 4 * i) v (omega arith)) h))));
    bounds = tt;
  }

  pub found_uneven : (length b % 4 ≡ 0 → ⊥) → Found b None
  found_uneven h = record {
    list = nothing_where (λ i k. none_in b (8 + 4 * i) (2 ^ 32) 0 (λ v x y. sym (uneven (replaced b (8 + 4 * i) v) (rw (replaced_length b (8 + 4 * i) v (omega arith)) h))));
    bounds = tt;
  }

  -- the sums that the code has are reduced
  module _ (s : Sums) (c : s ≡ summed b) where
    first : s.s1 ≡ s1 b % M
    first = ap (λ (z : Sums). z.s1) c

    second : s.s2 ≡ s2 b % M
    second = ap (λ (z : Sums). z.s2) c

  by_same : (s : Sums) (x y : ℕ) → s ≡ summed b → x ≡ little 4 b 0 → y ≡ little 4 b 4 → M - (s.s1 + x + y) % M ≡ gap b
  unfolding gap
  by_same s x y c u v = rw (first s c, u, v) (ap (λ (n : ℕ). M - n) (two (s1 b) (little 4 b 0) (little 4 b 4)))

  rest_same : (s : Sums) (x : ℕ) → s ≡ summed b → x ≡ little 4 b 0 → (s.s1 + s.s2 + x) % M ≡ (s1 b + s2 b + little 4 b 0) % M
  rest_same s x c u = rw (first s c, second s c, u) (three (s1 b) (s2 b) (little 4 b 0))

  -- an object of the right length
  module _ (long : 32 ≤ length b) (even : length b % 4 ≡ 0) (low : little 4 b 0 < 256 ^ 4) (high : little 4 b 4 < 256 ^ 4) where
    none_closes : ((k : ℕ) → Closes b k → ⊥) → mends_of b ≡ []
    none_closes f =
        nothing_where (λ i h. place_none b long even low high i ((length b - 8) / 4 - i) (omega arith) (omega arith) (f ((length b - 8) / 4 - i)))

    module _ (g : Gap) (p : g.by ≡ gap b) (q : g.rest ≡ (s1 b + s2 b + little 4 b 0) % M) (l : 0 < little 4 b 0) (h : 0 < little 4 b 4) where
      meets : (k : ℕ) → (g.rest + (k + 1) * g.by) % M ≡ (s1 b + s2 b + little 4 b 0 + (k + 1) * gap b) % M
      meets k = rw (p, q, mod-add-mod)

      here : (j k : ℕ) → k + j ≡ (length b - 8) / 4 → 0 < k → mends_at b (8 + 4 * j) (2 ^ 32) 0 ≡ solved_at g b k (8 + 4 * j)
      unfolding solved_at
      here j k e z = of (ℕ_discrete ((g.rest + (k + 1) * g.by) % M) 0)
        where
          of : Dec ((g.rest + (k + 1) * g.by) % M ≡ 0) →
              mends_at b (8 + 4 * j) (2 ^ 32) 0 ≡ if_eq ((g.rest + (k + 1) * g.by) % M) 0 (words_of_residue (8 + 4 * j) ((little 4 b (8 + 4 * j) + g.by) % M)) []
          of (Dec.yes y) =
              same _ _ _ _ _ y
              (place_some b long even low high j k e z (record { low = l; high = h; meets = sym (meets k) ∙ y })
              ∙ ap (λ (x : ℕ). words_of_residue (8 + 4 * j) ((little 4 b (8 + 4 * j) + x) % M)) (sym p))
          of (Dec.no y) = other _ _ _ _ _ y (place_none b long even low high j k e z (λ c. y (meets k ∙ c.meets)))

      from_here : (n j : ℕ) → n + j ≡ (length b - 8) / 4 → mends_from b n (8 + 4 * j) ≡ solved_from g b n (8 + 4 * j)
      unfolding mends_from solved_from
      from_here zero j e = refl
      from_here (suc n) j e =
          let r : 8 + 4 * j + 4 ≡ 8 + 4 * suc j = omega arith in
          rw (here j (suc n) e (omega arith), r, from_here n (suc j) (omega arith))

      all_here : valid b ≡ false → mends_of b ≡ solved_from g b ((length b - 8) / 4) 8
      unfolding mends_of
      all_here e = rw e (from_here ((length b - 8) / 4) 0 (omega arith))

    pub found_gaps : (s : Sums) (x y : ℕ) (r : Option Gap) → valid b ≡ false → s ≡ summed b → x ≡ little 4 b 0 → y ≡ little 4 b 4 → r ≡ gaps_with s x y → Found b r
    unfolding gaps_with
    found_gaps s x y r e c u v w =
        rw w
        (eq_cases (Found b) (λ z. record { list = none_closes (λ k m. omega (arith, m.low)); bounds = tt })
        (λ z. eq_cases (Found b) (λ i. record { list = none_closes (λ k m. omega (arith, m.high)); bounds = tt })
        (λ i. record {
          list = all_here (record { by = M - (s.s1 + x + y) % M; rest = (s.s1 + s.s2 + x) % M }) by_is rest_is (omega arith) (omega arith) e;
          bounds = (record { by_most = omega arith; rest_less = omega arith }, omega arith);
        })))
      where
        by_is : M - (s.s1 + x + y) % M ≡ gap b
        by_is = by_same s x y c u v

        rest_is : (s.s1 + s.s2 + x) % M ≡ (s1 b + s2 b + little 4 b 0) % M
        rest_is = rest_same s x c u
