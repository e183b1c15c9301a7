-- Laws of the turns of the loops, and of the cases of a character.
use Prim.Native.Nat.{ℕ, suc, ◌+◌, ◌%◌, ◌^◌, ◌-◌, ◌≤◌, ◌<◌}
use mathlib.Core.Path.{◌≡◌, refl, sym, ◌∙◌}
use mathlib.Core.Bool.{Bool, true, false}
use mathlib.Core.List.{List, [], ◌∷◌}
use mir.Syntax.{w8}
use mir.Val.{Fits}
use native.Mathlib.Omega.{arith}
use native.Mathlib.Numerals.{add-one}
use lib.Dec.{leb}
use lib.ListN.{length, get_or, drop}
use lib.Seq.{drop-cons, drop-length}
use borrow.Author.Rules.{rules, Fits-under}
use borrow.Author.Tests.{leb-true}
use Rattle.error.specs.Answer.{Answer, Ok, Err, ◌>>=◌, pick, if_le}
use Rattle.error.specs.declared.Refusal.{Refusal}
use Rattle.error.specs.declared.Refusal.TheVariants.{CharacterNotCovered}
use Rattle.error.proofs.Laws.{tests, picks}
use Rattle.byte_fields.proofs.Laws.{answers}
use Rattle.crc.specs.Crc.{crc}
use Rattle.crc.specs.Tabled.{TableRule}
use Rattle.crc.proofs.Tables.{crc_tabled}
use Rattle.name_hash.specs.Hash.{castagnoli, lower, fold_case, fold_all, utf32, name_hash}

-- a character as 4 bytes, by a table
module _ (ws : List ℕ) (rule : TableRule castagnoli ws) where
  pub table_long : 256 ≤ length ws
  table_long = rule.long

pub ruleset by_table = (rules, table_long, crc_tabled)

-- the hash of the characters left, from the register that those before gave
unfoldable pub hash_from : Bool → ℕ → List ℕ → Answer ℕ
hash_from m c b = fold_all m b >>= λ s. Ok (crc castagnoli c (utf32 s) % 2 ^ 22)

hash_cons : (m : Bool) (c x : ℕ) (b : List ℕ) → hash_from m c (x ∷ b) ≡ (fold_case m x >>= λ y. hash_from m (crc castagnoli c (y ∷ 0 ∷ 0 ∷ 0 ∷ [])) b)
unfolding hash_from fold_all utf32 crc
hash_cons m c x b = of (fold_case m x) (fold_all m b)
  where
    of : (f : Answer ℕ) (s : Answer (List ℕ)) →
        ((f >>= λ y. s >>= λ ys. Ok (y ∷ ys)) >>= λ ys. Ok (crc castagnoli c (utf32 ys) % 2 ^ 22)) ≡ (f >>= λ y. s >>= λ ys. Ok (crc castagnoli (crc castagnoli c (y ∷ 0 ∷ 0 ∷ 0 ∷ [])) (utf32 ys) % 2 ^ 22))
    of (Ok y) (Ok ys) = refl
    of (Ok y) (Err e) = refl
    of (Err e) s = refl

pub hash_start : (m : Bool) (b : List ℕ) → hash_from m (2 ^ 32 - 1) (drop 0 b) ≡ name_hash m b
unfolding hash_from name_hash
hash_start m b = refl

module _ (m : Bool) (b : List ℕ) (i c : ℕ) (whole : Answer ℕ) (p : hash_from m c (drop i b) ≡ whole) where
  next : i < length b → (fold_case m (get_or b i 0) >>= λ y. hash_from m (crc castagnoli c (y ∷ 0 ∷ 0 ∷ 0 ∷ [])) (drop (i + 1) b)) ≡ whole
  next h = rw add-one (sym (hash_cons m c (get_or b i 0) (drop (suc i) b)) ∙ (rw (drop-cons b i 0 h) at p))

  pub hash_goes : (r : Answer ℕ) (y d : ℕ) → i < length b → r ≡ fold_case m (get_or b i 0) → r ≡ Ok y → d ≡ crc castagnoli c (y ∷ 0 ∷ 0 ∷ 0 ∷ []) → hash_from m d (drop (i + 1) b) ≡ whole
  hash_goes r y d h f q e = rw e (rw (← f, q) at (next h))

  pub hash_stops : (r : Answer ℕ) (e : Refusal) → i < length b → r ≡ fold_case m (get_or b i 0) → r ≡ Err e → Err e ≡ whole
  hash_stops r e h f q = rw (← f, q) at (next h)

  pub hash_done : i ≤ length b → length b ≤ i → Ok (c % 2 ^ 22) ≡ whole
  unfolding hash_from fold_all utf32 crc
  hash_done h k = let e : i ≡ length b = omega arith in rw (e, drop-length) at p

folded_le : (m : Bool) (x : ℕ) → pick m (lower x) x ≤ x + 32
unfolding lower if_le
folded_le m x = of m (leb 65 x) (leb x 90)
  where
    of : (m d e : Bool) → pick m (pick d (pick e (x + 32) x) x) x ≤ x + 32
    of true true true = omega arith
    of true true false = omega arith
    of true false e = omega arith
    of false d e = omega arith

-- a character that is covered fits a byte
pub folded_fits : (r : Answer ℕ) (m : Bool) (x y : ℕ) → r ≡ fold_case m x → r ≡ Ok y → Fits w8 y
unfolding fold_case if_le
folded_fits r m x y p q = of (leb x 127) (leb-true x 127) (sym (q) ∙ p)
  where
    of : (d : Bool) → (d ≡ true → x ≤ 127) → Ok y ≡ pick d (Ok (pick m (lower x) x)) (Err CharacterNotCovered) → Fits w8 y
    of true h e =
        let k : y ≡ pick m (lower x) x = cc in
        Fits-under w8 y 256 (omega (arith, h refl, folded_le m x)) tt
    of false h e = let z : ◌≡◌ {A = ℕ} 0 1 = cc in absurd (omega arith)

pub hash_fits : (r : Answer ℕ) (m : Bool) (b : List ℕ) (h : ℕ) → r ≡ name_hash m b → r ≡ Ok h → h < 2 ^ 22
unfolding name_hash
hash_fits r m b h p q = of (fold_all m b) (sym (q) ∙ p)
  where
    of : (s : Answer (List ℕ)) → Ok h ≡ (s >>= λ ys. Ok (crc castagnoli (2 ^ 32 - 1) (utf32 ys) % 2 ^ 22)) → h < 2 ^ 22
    of (Ok ys) e = let k : h ≡ crc castagnoli (2 ^ 32 - 1) (utf32 ys) % 2 ^ 22 = cc in omega (arith, k)
    of (Err r) e = let z : ◌≡◌ {A = ℕ} 0 1 = cc in absurd (omega arith)

pub ruleset all = (rules, tests, answers, picks, folded_fits, hash_fits)

pub ruleset hashes = (all, hash_start, hash_goes, hash_stops, hash_done)
