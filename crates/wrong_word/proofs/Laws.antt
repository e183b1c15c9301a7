-- Laws that the proofs of the functions cite.
use Prim.Native.Nat.{ℕ, suc, ◌+◌, ◌-◌, ◌*◌, ◌/◌, ◌%◌, ◌≤◌, ◌<◌}
use mathlib.Core.Path.{◌≡◌, refl, sym, ap, subst, ◌∙◌}
use mathlib.Core.Bool.{Bool, true, false}
use mathlib.Core.List.{List, [], ◌∷◌, ◌++◌, append-nil, append_assoc}
use native.Mathlib.Nat.{mul-le-mul, mul_comm, add_comm}
use native.Mathlib.Omega.{arith}
use mir.Syntax.{w8, w64}
use mir.Val.{Fits}
use borrow.Author.Rules.{Fits-under}
use borrow.Author.Tests.{eqb-true, eqb-false}
use lib.Dec.{eqb}
use lib.ListN.{length, get_or}
use Rattle.error.specs.Answer.{Ok, if_eq}
use Rattle.error.proofs.Laws.{same, other}
use Rattle.byte_fields.specs.Number.{little}
use Rattle.byte_fields.proofs.Laws.{small}
use Rattle.checksum.specs.Fletcher.{M, summed, valid}
use Rattle.checksum.specs.declared.Sums.{Sums}
use Rattle.checksum.proofs.Laws.{summed_reduced}
use Rattle.text.specs.Output.{Output, puts}
use Rattle.text.proofs.Writing.{puts_append, then}
use Rattle.calls.specs.Filled.{Filled, filled, filled_at}
use Rattle.calls.proofs.Filling.{filled_nothing}
use Rattle.byte_fields.specs.Number.{little_bytes}
use Rattle.wrong_word.specs.Mends.{Mend, mend, mends_of, entry, listed}
use Rattle.wrong_word.specs.Inner.{words_of_residue, Within, gaps_with, solved_at, solved_from, solved, GapsWithin, Found}
use Rattle.wrong_word.specs.declared.Gap.{Gap}
use Rattle.wrong_word.proofs.Modulus.{congruent}
use Rattle.wrong_word.proofs.Solved.{found_gaps}
use Rattle.std.specs.Prelude.{None, Option, Some}

pub word_most : (b : List ℕ) (off : ℕ) → ((i : ℕ) → Fits w8 (get_or b i 0)) → little 4 b off ≤ M
word_most b off h = omega (arith, small 4 b off h)

-- the product of a reduced factor
product_most : (a b : ℕ) → a < M → b ≤ M → a * b ≤ 4294967294 * 4294967295
product_most a b h k = let l : a ≤ 4294967294 = omega arith in mul-le-mul l k

-- a reduced weight
module _ (g : Gap) (k : ℕ) (w : Within g) where
  pub weight_fits : Fits w64 (k % M * g.by)
  weight_fits = Fits-under w64 (k % M * g.by) (4294967294 * 4294967295 + 1) (omega (arith, product_most (k % M) g.by (omega arith) w.by_most)) tt

  pub total_fits : Fits w64 (g.rest + k % M * g.by)
  total_fits = Fits-under w64 (g.rest + k % M * g.by) (4294967294 * 4294967295 + 4294967295) (omega (arith, product_most (k % M) g.by (omega arith) w.by_most, w.rest_less)) tt

reduced_same : (g : Gap) (k : ℕ) → (g.rest + (k + 1) % M * g.by) % M ≡ (g.rest + (k + 1) * g.by) % M
reduced_same g k =
    rw (mul_comm ((k + 1) % M) g.by, mul_comm (k + 1) g.by, add_comm g.rest (g.by * ((k + 1) % M)), add_comm g.rest (g.by * (k + 1)))
    (congruent ((k + 1) % M) (k + 1) g.by g.rest (omega arith))

pub weight_reduced : (g : Gap) (k : ℕ) → eqb ((g.rest + (k + 1) % M * g.by) % M) 0 ≡ eqb ((g.rest + (k + 1) * g.by) % M) 0
weight_reduced g k = ap (λ (x : ℕ). eqb x 0) (reduced_same g k)

-- the bytes of a number, one after the other
module _ (room n i : ℕ) (rest : ℕ) (o whole : Output) (p : puts room (little_bytes (n - i) rest) o ≡ whole) where
  pub little_goes : (x : Output) → i < n → x ≡ puts room ((rest % 256) ∷ []) o → puts room (little_bytes (n - (i + 1)) (rest / 256)) x ≡ whole
  unfolding little_bytes
  little_goes x h e =
      let k : n - i ≡ suc (n - (i + 1)) = omega arith in
      rw (e, ← puts_append room ((rest % 256) ∷ []) (little_bytes (n - (i + 1)) (rest / 256)) o) (rw k at p)

  pub little_done : n ≤ i → o ≡ whole
  unfolding little_bytes puts
  little_done h = let k : n - i ≡ 0 = omega arith in rw k at p

pub little_start : (room n x : ℕ) (o : Output) → puts room (little_bytes (n - 0) x) o ≡ puts room (little_bytes n x) o
little_start room n x o = let k : n - 0 ≡ n = omega arith in rw k

-- an entry, and those of a residue
module _ (room : ℕ) (o p z : Output) where
  pub then_word : (place word : ℕ) → p ≡ puts room (little_bytes 8 place) o → z ≡ puts room (little_bytes 4 word) p → z ≡ puts room (entry (mend place word)) o
  unfolding entry
  then_word place word = then room o p z (little_bytes 8 place) (little_bytes 4 word) (little_bytes 8 place ++ little_bytes 4 word) refl

  pub two_words : (place r : ℕ) → r ≡ 0 → p ≡ puts room (entry (mend place 0)) o → z ≡ puts room (entry (mend place 4294967295)) p → z ≡ puts room (listed (words_of_residue place r)) o
  unfolding listed words_of_residue
  two_words place r h a c =
      let q : mend place 0 ∷ mend place 4294967295 ∷ [] ≡ if_eq r 0 (mend place 0 ∷ mend place 4294967295 ∷ []) (mend place r ∷ []) = same _ _ _ _ _ h refl in
      let k : entry (mend place 4294967295) ≡ entry (mend place 4294967295) ++ [] = sym (append-nil (entry (mend place 4294967295))) in
      then room o p z (entry (mend place 0)) (entry (mend place 4294967295)) _ (ap listed (sym q) ∙ ap (λ (l : List ℕ). entry (mend place 0) ++ l) (sym k)) a c

pub one_word : (room : ℕ) (o z : Output) (place r : ℕ) → (r ≡ 0 → ⊥) → z ≡ puts room (entry (mend place r)) o → z ≡ puts room (listed (words_of_residue place r)) o
unfolding listed words_of_residue
one_word room o z place r h a =
    let q : mend place r ∷ [] ≡ if_eq r 0 (mend place 0 ∷ mend place 4294967295 ∷ []) (mend place r ∷ []) = other _ _ _ _ _ h refl in
    a ∙ ap (λ (l : List ℕ). puts room l o) (sym (append-nil (entry (mend place r))) ∙ ap listed q)

-- what is listed at one place
module _ (room : ℕ) (o : Output) (g : Gap) (b : List ℕ) (k p : ℕ) (d : Bool) (e : d ≡ eqb ((g.rest + (k + 1) * g.by) % M) 0) where
  pub place_listed : (z : Output) (w r : ℕ) → d ≡ true → w ≡ little 4 b p → r ≡ (w + g.by) % M → z ≡ puts room (listed (words_of_residue p r)) o → z ≡ puts room (listed (solved_at g b k p)) o
  unfolding solved_at
  place_listed z w r t u v h =
      let q : (g.rest + (k + 1) * g.by) % M ≡ 0 = eqb-true _ _ (sym e ∙ t) in
      h ∙ ap (λ (l : List Mend). puts room (listed l) o) (same _ _ _ _ _ q (rw (v, u)))

  pub place_passed : d ≡ false → o ≡ puts room (listed (solved_at g b k p)) o
  unfolding solved_at listed puts
  place_passed t =
      let q : (g.rest + (k + 1) * g.by) % M ≡ 0 → ⊥ = eqb-false _ _ (sym e ∙ t) in
      let w : [] ≡ if_eq ((g.rest + (k + 1) * g.by) % M) 0 (words_of_residue p ((little 4 b p + g.by) % M)) [] = other _ _ _ _ _ q refl in
      ap (λ (l : List Mend). puts room (listed l) o) w

listed_append : (xs ys : List Mend) → listed (xs ++ ys) ≡ listed xs ++ listed ys
unfolding listed
listed_append [] ys = refl
listed_append (x ∷ xs) ys = rw (listed_append xs ys, append_assoc)

-- the turns of the loop over the places
pub places_start : (room : ℕ) (g : Gap) (b : List ℕ) (n : ℕ) (o : Output) → puts room (listed (solved_from g b (n - 0) (8 + 4 * 0))) o ≡ puts room (listed (solved_from g b n 8)) o
places_start room g b n o = let k : n - 0 ≡ n = omega arith in rw k

module _ (room : ℕ) (g : Gap) (b : List ℕ) (n i : ℕ) (o whole : Output) (p : puts room (listed (solved_from g b (n - i) (8 + 4 * i))) o ≡ whole) where
  pub places_goes : (x : Output) → i < n → x ≡ puts room (listed (solved_at g b (n - i) (8 + 4 * i))) o → puts room (listed (solved_from g b (n - (i + 1)) (8 + 4 * (i + 1)))) x ≡ whole
  unfolding solved_from
  places_goes x h e =
      let k : n - i ≡ suc (n - (i + 1)) = omega arith in
      let w : 8 + 4 * (i + 1) ≡ 8 + 4 * i + 4 = omega arith in
      rw (w, e, ← puts_append room (listed (solved_at g b (n - i) (8 + 4 * i))) (listed (solved_from g b (n - (i + 1)) (8 + 4 * i + 4))) o, ← listed_append) (of (n - i) k p)
    where
      of : (m : ℕ) → m ≡ suc (n - (i + 1)) → puts room (listed (solved_from g b m (8 + 4 * i))) o ≡ whole → puts room (listed (solved_at g b m (8 + 4 * i) ++ solved_from g b (n - (i + 1)) (8 + 4 * i + 4))) o ≡ whole
      of m q h = rw q (rw q at h)

  pub places_done : n ≤ i → o ≡ whole
  unfolding solved_from listed puts
  places_done h = let k : n - i ≡ 0 = omega arith in rw k at p

-- the whole call
module _ (b : List ℕ) (r : Option Gap) (f : Found b r) where
  pub none_filled : (out : List ℕ) → r ≡ None → filled_at (Ok 0) out ≡ filled (listed (mends_of b)) out
  unfolding listed
  none_filled out e = filled_nothing out ∙ ap (λ (l : List Mend). filled (listed l) out) (sym (f.list ∙ ap (λ (z : Option Gap). solved z b) e))

  pub some_filled : (g : Gap) (out : List ℕ) (x : Filled) → r ≡ Some g → x ≡ filled (listed (solved_from g b ((length b - 8) / 4) 8)) out → x ≡ filled (listed (mends_of b)) out
  some_filled g out x e h = h ∙ ap (λ (l : List Mend). filled (listed l) out) (sym (f.list ∙ ap (λ (z : Option Gap). solved z b) e))

  pub found_within : (g : Gap) → r ≡ Some g → Within g
  found_within g e = (subst (GapsWithin b) e f.bounds).0

  pub found_long : (g : Gap) → r ≡ Some g → 8 ≤ length b
  found_long g e = (subst (GapsWithin b) e f.bounds).1

pub fails_so : (b : List ℕ) (d : Bool) → d ≡ valid b → d ≡ false → valid b ≡ false
fails_so b d e h = sym e ∙ h

-- an object of the right length that fails
pub found_in_lem : (b : List ℕ) (s : Sums) (x y : ℕ) (r : Option Gap) → ((i : ℕ) → Fits w8 (get_or b i 0)) → 32 ≤ length b → length b % 4 ≡ 0 → valid b ≡ false →
    s ≡ summed b → x ≡ little 4 b 0 → y ≡ little 4 b 4 → r ≡ gaps_with s x y → Found b r
found_in_lem b s x y r f h k v c u w e = found_gaps b h k (small 4 b 0 f) (small 4 b 4 f) s x y r v c u w e

pub summed_first : (s : Sums) (b : List ℕ) → s ≡ summed b → s.s1 < M
summed_first s b e = (summed_reduced s b e).first

pub summed_second : (s : Sums) (b : List ℕ) → s ≡ summed b → s.s2 < M
summed_second s b e = (summed_reduced s b e).second
