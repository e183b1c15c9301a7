-- Whether a name is covered, and what its lossy reading is.
use Prim.Native.Nat.{ℕ, zero, suc, ◌+◌, ◌-◌, ◌≤◌, ◌<◌}
use mathlib.Core.Path.{◌≡◌, refl, sym, ap, ◌∙◌}
use mathlib.Core.Bool.{Bool, true, false, not}
use mathlib.Core.List.{List, [], ◌∷◌}
use borrow.Author.Tests.{not-true, not-false}
use lib.ListN.{length, take, drop, length-drop, drop_of_length-le}
use lib.Seq.{drop-drop}
use native.Mathlib.Omega.{arith}
use native.Mathlib.Nat.{le_refl}
use Rattle.error.specs.Answer.{pick}
use Rattle.error.specs.Answer.{if_le}
use Rattle.utf8.specs.Text.{if_in, piece_of, size_of, lossy, one_if_replaced, replaced}
use Rattle.utf8.specs.Characters.{scalar_of, before, characters}
use Rattle.utf8.specs.declared.Piece.{Piece}
use Rattle.utf8.specs.declared.Piece.TheVariants.{End, WellFormed, IllFormed}
use Rattle.utf8.proofs.Characters.{characters_end, characters_next, characters_reading}
use Rattle.utf8.proofs.Reading.{shorter, replaced_end, replaced_next, strict_true, strict_text, text_lossy}
use Rattle.utf8.proofs.Pieces.{size_some}
use Rattle.unicode_forms.specs.Data.{any_in, covered}
use Rattle.unicode_forms.specs.Keys.{all_covered, covered_text}
use Rattle.keys.specs.Told.{character_in, character_of}
use Rattle.keys.specs.declared.characters.Character.{Character}
use Rattle.keys.specs.declared.characters.Character.TheVariants as character
use Rattle.keys.proofs.StreamLaws.{here, end_first, size_first}

covered_none : covered_text [] ≡ true
unfolding covered_text all_covered
covered_none = rw characters_end

covered_first : (b : List ℕ) (x n : ℕ) → character.At x n ≡ character_of b → covered_text b ≡ pick (covered x) (covered_text (drop n b)) false
unfolding covered_text all_covered
covered_first b x n e = of (piece_of b) (characters_next b) e
  where
    of : (p : Piece) → characters b ≡ before p b (characters (drop (size_of p) b)) → character.At x n ≡ character_in p b
        → all_covered (characters b) ≡ pick (covered x) (all_covered (characters (drop n b))) false
    of End q k = absurd (let z : ◌≡◌ {A = ℕ} 0 1 = cc in omega arith)
    of (WellFormed m) q k =
        let f : x ≡ scalar_of (take m b) = cc in
        let g : n ≡ m = cc in
        rw (q, f, g)
    of (IllFormed m) q k =
        let f : x ≡ 0xFFFD = cc in
        let g : n ≡ m = cc in
        rw (q, f, g)

size_some_first : (b : List ℕ) (x n : ℕ) → character.At x n ≡ character_of b → 1 ≤ n
size_some_first b x n e = of (piece_of b) refl e
  where
    of : (p : Piece) → piece_of b ≡ p → character.At x n ≡ character_in p b → 1 ≤ n
    of End q k = absurd (let z : ◌≡◌ {A = ℕ} 0 1 = cc in omega arith)
    of (WellFormed m) q k = let g : n ≡ m = cc in let s : size_of (piece_of b) ≡ m = ap size_of q in omega (arith, size_some b (λ z. let w : ◌≡◌ {A = ℕ} 0 1 = cc in omega arith))
    of (IllFormed m) q k = let g : n ≡ m = cc in let s : size_of (piece_of b) ≡ m = ap size_of q in omega (arith, size_some b (λ z. let w : ◌≡◌ {A = ℕ} 0 1 = cc in omega arith))

module _ (b : List ℕ) (at : ℕ) (whole : Bool) (i : covered_text (drop at b) ≡ whole) where
  pub covers_done : length b ≤ at → true ≡ whole
  covers_done h = sym covered_none ∙ (rw (drop_of_length-le b h) at i)

  module _ (r : Character) (p : r ≡ character_of (take (length b - at) (drop at b))) where
    pub covers_end : r ≡ character.End → true ≡ whole
    covers_end e = sym covered_none ∙ ap covered_text (sym (end_first (drop at b) (sym e ∙ here b at r p))) ∙ i

    module _ (x n : ℕ) (e : r ≡ character.At x n) where
      pub covers_some : 1 ≤ n
      covers_some = size_some_first (drop at b) x n (sym e ∙ here b at r p)

      pub covers_fits : at < length b → at + n ≤ length b
      covers_fits h = omega (arith, size_first (drop at b) x n (sym e ∙ here b at r p), length-drop at b)

      next : pick (covered x) (covered_text (drop (at + n) b)) false ≡ whole
      next = rw (← drop-drop n at b) (sym (covered_first (drop at b) x n (sym e ∙ here b at r p)) ∙ i)

      pub covers_stops : (t : Bool) → t ≡ covered x → not t ≡ true → false ≡ whole
      covers_stops t f h = let k : covered x ≡ false = sym f ∙ not-true t h in rw k at next

      pub covers_goes : (t : Bool) → t ≡ covered x → not t ≡ false → covered_text (drop (at + n) b) ≡ whole
      covers_goes t f h = let k : covered x ≡ true = sym f ∙ not-false t h in rw k at next

-- ---- a name and its lossy reading

-- they are covered together
pub covered_reading : (b : List ℕ) → covered_text (lossy b) ≡ covered_text b
unfolding covered_text
covered_reading b = ap all_covered (characters_reading b)

replacement_outside : covered 0xFFFD ≡ false
unfolding any_in if_in if_le
replacement_outside = refl

-- of a covered text the first piece is well formed
whole_piece : (b : List ℕ) (p : Piece) → piece_of b ≡ p → covered_text b ≡ true → one_if_replaced p ≡ 0
unfolding covered_text all_covered
whole_piece b End e h = refl
whole_piece b (WellFormed n) e h = refl
whole_piece b (IllFormed n) e h =
    let q : characters b ≡ 0xFFFD ∷ characters (drop n b) = characters_next b ∙ ap (λ z. before z b (characters (drop (size_of z) b))) e in
    let k : false ≡ true = sym (ap (λ z. pick z (all_covered (characters (drop n b))) false) replacement_outside) ∙ (rw q at h) in
    absurd (let z : ◌≡◌ {A = ℕ} 0 1 = cc in omega arith)

covered_rest : (b : List ℕ) (p : Piece) → piece_of b ≡ p → covered_text b ≡ true → covered_text (drop (size_of p) b) ≡ true
covered_rest b End e h = h
covered_rest b (WellFormed n) e h = of (covered (scalar_of (take n b))) (sym (covered_first b (scalar_of (take n b)) n (ap (λ z. character_in z b) (sym e))) ∙ h)
  where
    of : (d : Bool) → pick d (covered_text (drop n b)) false ≡ true → covered_text (drop n b) ≡ true
    of true k = k
    of false k = absurd (let z : ◌≡◌ {A = ℕ} 0 1 = cc in omega arith)
covered_rest b (IllFormed n) e h = absurd (omega (arith, whole_piece b (IllFormed n) e h))

unreplaced : (n : ℕ) (b : List ℕ) → length b ≤ n → covered_text b ≡ true → replaced b ≡ 0
unreplaced zero [] h c = replaced_end
unreplaced zero (x ∷ b) h c = absurd (omega arith)
unreplaced (suc n) [] h c = replaced_end
unreplaced (suc n) (x ∷ b) h c =
    let k = whole_piece (x ∷ b) (piece_of (x ∷ b)) refl c in
    let r = unreplaced n (drop (size_of (piece_of (x ∷ b))) (x ∷ b)) (omega (arith, shorter x b)) (covered_rest (x ∷ b) (piece_of (x ∷ b)) refl c) in
    omega (arith, replaced_next (x ∷ b))

-- a covered name is well formed, so that it reads as itself
pub covered_text_lem : (b : List ℕ) → covered_text b ≡ true → lossy b ≡ b
covered_text_lem b c = text_lossy (strict_text b (sym (strict_true b (unreplaced (length b) b (le_refl _) c))))
