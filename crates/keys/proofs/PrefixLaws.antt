-- What two names begin with: ASCII byte by byte, any other character as it stands.
use Prim.Native.Nat.{zero-le, ℕ, suc, ◌+◌, ◌-◌, ◌≤◌, ◌<◌}
use mathlib.Core.Path.{◌≡◌, refl, sym, ap, subst, ◌∙◌}
use mathlib.Core.Bool.{Bool, true, false, not}
use mathlib.Core.Logic.{inl, inr}
use mathlib.Core.List.{List, [], ◌∷◌, ◌++◌, map}
use borrow.Author.Tests.{eqb-true, eqb-false, not-false}
use lib.Dec.{eqb}
use lib.ListN.{length, get_or, take, drop, length-drop, length-append}
use lib.Seq.{drop-cons, drop-drop}
use native.Mathlib.Omega.{arith}
use native.Mathlib.Numerals.{add-one}
use Rattle.error.specs.Answer.{pick, if_eq}
use Rattle.error.proofs.Laws.{same, other, le_cases}
use Rattle.utf8.specs.Text.{same_bytes, ascii}
use Rattle.utf8.proofs.Equal.{same_equal, equal_same, unlike}
use Rattle.utf8.proofs.Pieces.{below, in_cases}
use Rattle.unicode_forms.specs.Data.{class_of}
use Rattle.unicode_forms.specs.Keys.{canonical, key_of, same_keys}
use Rattle.unicode_forms.specs.Stream.{letters_of, letters, small_of, without}
use Rattle.keys.specs.Told.{character_of, unpacked, Shares, left_of, step_told, same_left, Passes}
use Rattle.keys.specs.declared.characters.Character.{Character}
use Rattle.keys.specs.declared.characters.Character.TheVariants as character
use Rattle.keys.specs.declared.compare.Passing.{Passing}
use Rattle.keys.specs.declared.compare.Passing.TheVariants as passing
use Rattle.keys.specs.declared.stream.Cursor.{Cursor}
use Rattle.keys.specs.declared.stream.Pending.TheVariants as pending
use Rattle.keys.specs.declared.stream.Step.{Step}
use Rattle.keys.specs.declared.stream.Step.TheVariants as step
use Rattle.keys.proofs.AsciiLaws.{ascii_at, ascii_letters}
use Rattle.unicode_forms.proofs.Order.{drops, keeps, canonical_same, canonical_back}
use Rattle.unicode_forms.proofs.RunLaws.{canonical_starter}
use Rattle.keys.proofs.LetterLaws.{some_letters}
use Rattle.keys.proofs.StreamLaws.{here, letters_none, letters_first, size_first}
use Rattle.unicode_forms.proofs.Same.{key_letters, keys_letters}

small_bound : (caseless : Bool) (x : ℕ) → small_of caseless x ≤ x + 32
unfolding small_of
small_bound true x = in_cases (λ z. z ≤ x + 32) (λ h k. omega arith) (omega arith)
small_bound false x = omega arith

small_least : (caseless : Bool) (x : ℕ) → x ≤ small_of caseless x
unfolding small_of
small_least true x = in_cases (λ z. x ≤ z) (λ h k. omega arith) (omega arith)
small_least false x = omega arith

small_ascii : (caseless : Bool) (x : ℕ) → x ≤ 127 → small_of caseless x ≤ 127
unfolding small_of
small_ascii true x l = in_cases (λ z. z ≤ 127) (λ h k. omega arith) (omega arith)
small_ascii false x l = l

ascii_starter : (caseless : Bool) (x : ℕ) → x ≤ 127 → class_of (small_of caseless x) ≡ 0
unfolding class_of
ascii_starter caseless x h =
    sym (below _ _ _ _ _ _ (omega (arith, small_bound caseless x)) (below _ _ _ _ _ _ (omega (arith, small_bound caseless x)) refl))

ascii_ordered : (caseless : Bool) (x : ℕ) (b : List ℕ) → x ≤ 127 → canonical (letters caseless (x ∷ b)) ≡ small_of caseless x ∷ canonical (letters caseless b)
ascii_ordered caseless x b h = ap canonical (ascii_letters caseless x b h) ∙ canonical_starter (small_of caseless x) (letters caseless b) (ascii_starter caseless x h)

-- the key of an ASCII name is the name, in lower case where case does not count: as it was before request 07
pub ascii_key : (caseless : Bool) (b : List ℕ) → ascii b ≡ true → key_of caseless b ≡ map (small_of caseless) b
unfolding ascii canonical
ascii_key caseless b h = key_letters b caseless ∙ of b h
  where
    of : (b : List ℕ) → ascii b ≡ true → canonical (letters caseless b) ≡ map (small_of caseless) b
    of [] = λ e. ap canonical (letters_none caseless)
    of (x ∷ b) = le_cases (λ (t : Bool). t ≡ true → canonical (letters caseless (x ∷ b)) ≡ small_of caseless x ∷ map (small_of caseless) b)
        (λ k e. ascii_ordered caseless x b k ∙ ap (small_of caseless x ∷◌) (of b e))
        (λ k e. absurd (let z : ◌≡◌ {A = ℕ} 0 1 = cc in omega arith))

pub prefix_starts : (caseless : Bool) (a b : List ℕ) → same_bytes (canonical (letters caseless (drop 0 a))) (canonical (letters caseless (drop 0 b))) ≡ same_keys caseless a b
prefix_starts caseless a b = keys_letters caseless a b

module _ (caseless : Bool) (a b : List ℕ) (i j : ℕ) (whole : Bool) (inv : same_left caseless a b i j ≡ whole) where
  pub prefix_rest : (r : Bool) → r ≡ same_left caseless a b i j → r ≡ whole
  prefix_rest r e = e ∙ inv

  module _ (h : i < length a) (k : j < length b) (p : get_or a i 0 ≤ 127) (x y : ℕ) (e : x ≡ small_of caseless (get_or a i 0)) (f : y ≡ small_of caseless (get_or b j 0)) where
    heads : get_or b j 0 ≤ 127 → same_bytes (x ∷ canonical (letters caseless (drop (suc i) a))) (y ∷ canonical (letters caseless (drop (suc j) b))) ≡ whole
    heads q = rw (e, f, ← ascii_ordered caseless (get_or a i 0) (drop (suc i) a) p, ← ascii_ordered caseless (get_or b j 0) (drop (suc j) b) q) (rw (drop-cons a i 0 h, drop-cons b j 0 k) at inv)

    pub prefix_stops : get_or b j 0 ≤ 127 → (x ≡ y → ⊥) → false ≡ whole
    unfolding same_bytes
    prefix_stops q n = other _ _ _ _ _ n refl ∙ heads q

    pub prefix_goes : x ≡ y → same_left caseless a b (i + 1) (j + 1) ≡ whole
    unfolding same_bytes
    prefix_goes n = rw (add-one, add-one) (same _ _ _ _ _ n refl ∙ heads (omega (arith, small_least caseless (get_or b j 0), small_ascii caseless (get_or a i 0) p)))

-- beside a name in ASCII
module _ (caseless : Bool) (a b : List ℕ) (t : ascii b ≡ true) (i : ℕ) (whole : Bool) (inv : same_left caseless a b i i ≡ whole)
    (h : i < length a) (k : i < length b) (x y : ℕ) (e : x ≡ small_of caseless (get_or a i 0)) (f : y ≡ small_of caseless (get_or b i 0)) where
  pub beside_goes : x ≡ y → same_left caseless a b (i + 1) (i + 1) ≡ whole
  beside_goes n =
      prefix_goes caseless a b i i whole inv h k (omega (arith, small_least caseless (get_or a i 0), small_ascii caseless (get_or b i 0) (ascii_at b i t k))) x y e f n

  pub beside_stops : get_or a i 0 ≤ 127 → (x ≡ y → ⊥) → false ≡ whole
  beside_stops p n = prefix_stops caseless a b i i whole inv h k p x y e f (ascii_at b i t k) n

-- an ASCII character is a letter
ascii_less : (caseless : Bool) (a : List ℕ) (i : ℕ) → i < length a → get_or a i 0 ≤ 127 → length (letters caseless (drop (i + 1) a)) < length (letters caseless (drop i a))
ascii_less caseless a i h p =
    let q : length (letters caseless (drop i a)) ≡ suc (length (letters caseless (drop (suc i) a))) = ap (λ z. length (letters caseless z)) (drop-cons a i 0 h) ∙ ap length (ascii_letters caseless (get_or a i 0) (drop (suc i) a) p) in
    rw add-one (omega arith)

pub pass_ascii : (caseless : Bool) (a b : List ℕ) (i j x y : ℕ) → i < length a → j < length b → get_or a i 0 ≤ 127 → x ≡ small_of caseless (get_or a i 0) → y ≡ small_of caseless (get_or b j 0) → x ≡ y
    → Passes caseless a b i j (passing.To (i + 1) (j + 1))
pass_ascii caseless a b i j x y h k p e f n = (prefix_goes caseless a b i j _ refl h k p x y e f n, ascii_less caseless a i h p)

pub pass_apart : (caseless : Bool) (a b : List ℕ) (i j x y : ℕ) → i < length a → j < length b → get_or a i 0 ≤ 127 → get_or b j 0 ≤ 127 → x ≡ small_of caseless (get_or a i 0) → y ≡ small_of caseless (get_or b j 0) → (x ≡ y → ⊥)
    → Passes caseless a b i j passing.Apart
pass_apart caseless a b i j x y h k p q e f n = prefix_stops caseless a b i j _ refl h k p x y e f q n

-- ---- a character that both begin with

cons_rest : (c : ℕ) (x y : List ℕ) → c ∷ x ≡ c ∷ y → x ≡ y
cons_rest c x y e = cc

module _ (c : ℕ) (x y : List ℕ) where
  without_rest : (k : ℕ) → without k (c ∷ x) ≡ without k (c ∷ y) → without k x ≡ without k y
  without_rest k e = of (eqb (class_of c) k) refl
    where
      of : (d : Bool) → eqb (class_of c) k ≡ d → without k x ≡ without k y
      of true h = let g = eqb-true _ _ h in sym (drops k c x g) ∙ e ∙ drops k c y g
      of false h = let g = eqb-false _ _ h in cons_rest c _ _ (sym (keeps k c x g) ∙ e ∙ keeps k c y g)

  canonical_rest : canonical (c ∷ x) ≡ canonical (c ∷ y) → canonical x ≡ canonical y
  canonical_rest e =
      canonical_same x y (without_rest 230 (canonical_back (c ∷ x) (c ∷ y) 230 (inr refl) e))
      (without_rest 202 (canonical_back (c ∷ x) (c ∷ y) 202 (inl refl) e))

  same_rest : same_bytes (canonical x) (canonical y) ≡ same_bytes (canonical (c ∷ x)) (canonical (c ∷ y))
  unfolding canonical
  same_rest = of (same_bytes (canonical x) (canonical y)) refl
    where
      of : (d : Bool) → same_bytes (canonical x) (canonical y) ≡ d → d ≡ same_bytes (canonical (c ∷ x)) (canonical (c ∷ y))
      of true h = rw (same_equal _ _ h) (sym (equal_same _))
      of false h = unlike _ _ (λ e. let f : same_bytes (canonical x) (canonical y) ≡ true = rw (canonical_rest e) (equal_same _) in let z : ◌≡◌ {A = ℕ} 0 1 = cc in omega arith)

same_after : (p x y : List ℕ) → same_bytes (canonical x) (canonical y) ≡ same_bytes (canonical (p ++ x)) (canonical (p ++ y))
same_after [] x y = refl
same_after (c ∷ p) x y = same_after p x y ∙ same_rest c (p ++ x) (p ++ y)

-- as the code tests it: two characters of one word of the table
pub never : (c d : ℕ) (caseless : Bool) → ◌≡◌ {A = Bool} false true → letters_of caseless c ≡ letters_of caseless d
never c d caseless e = absurd (let z : ◌≡◌ {A = ℕ} 0 1 = cc in omega arith)

pub alike_same : (c d : ℕ) (caseless : Bool) → c ≡ d → ◌≡◌ {A = Bool} true true → letters_of caseless c ≡ letters_of caseless d
alike_same c d caseless e t = ap (letters_of caseless) e

pub alike_words : (c d w v : ℕ) (caseless : Bool) → not caseless ≡ false → 0xC0 ≤ c → 0xC0 ≤ d → unpacked w ≡ letters_of true (0xC0 + (c - 0xC0)) → unpacked v ≡ letters_of true (0xC0 + (d - 0xC0))
    → eqb w v ≡ true → letters_of caseless c ≡ letters_of caseless d
alike_words c d w v caseless k h i e f g =
    let p : 0xC0 + (c - 0xC0) ≡ c = omega arith in
    let q : 0xC0 + (d - 0xC0) ≡ d = omega arith in
    let m : caseless ≡ true = not-false caseless k in
    rw m (ap (letters_of true) (sym p) ∙ sym e ∙ ap unpacked (eqb-true w v g) ∙ f ∙ ap (letters_of true) q)

pub none_shared : (caseless : Bool) (a b : List ℕ) → Shares caseless a b 0
none_shared caseless a b h = absurd (h refl)

pub one_shared : (caseless : Bool) (a b : List ℕ) (r s : Character) (c n d m : ℕ) (t : Bool) → r ≡ character_of a → s ≡ character_of b → r ≡ character.At c n → s ≡ character.At d m
    → n ≡ m → (t ≡ true → letters_of caseless c ≡ letters_of caseless d) → not t ≡ false → Shares caseless a b n
one_shared caseless a b r s c n d m t u v e f k g i h =
    (c, (d, (sym e ∙ u, ((ap (character.At d) k ∙ sym f ∙ v), g (not-false t i)))))

module _ (caseless : Bool) (a b : List ℕ) (i j n : ℕ) (e : Shares caseless (take (length a - i) (drop i a)) (take (length b - j) (drop j b)) n) (h : n ≡ 0 → ⊥) where
  first : character.At (e h).0 n ≡ character_of (drop i a)
  first = here a i _ (e h).1.1.0

  second : character.At (e h).1.0 n ≡ character_of (drop j b)
  second = here b j _ (e h).1.1.1.0

  pub shared_fits : i < length a → i + n ≤ length a
  shared_fits l = omega (arith, size_first (drop i a) (e h).0 n first, length-drop i a)

  pub shared_fits_too : j < length b → j + n ≤ length b
  shared_fits_too l = omega (arith, size_first (drop j b) (e h).1.0 n second, length-drop j b)

  pub shared_goes : (whole : Bool) → same_left caseless a b i j ≡ whole → same_left caseless a b (i + n) (j + n) ≡ whole
  shared_goes whole inv =
      rw (← drop-drop n i a, ← drop-drop n j b)
      (same_after (letters_of caseless (e h).0) _ _
      ∙ ap (λ z. same_bytes (canonical (letters_of caseless (e h).0 ++ letters caseless (drop n (drop i a)))) (canonical (z ++ letters caseless (drop n (drop j b))))) (e h).1.1.1.1
      ∙ (rw (letters_first caseless (drop i a) (e h).0 n first, letters_first caseless (drop j b) (e h).1.0 n second) at inv))

  shared_less : length (letters caseless (drop (i + n) a)) < length (letters caseless (drop i a))
  shared_less =
      let q : length (letters caseless (drop i a)) ≡ length (letters_of caseless (e h).0) + length (letters caseless (drop n (drop i a))) =
      ap length (letters_first caseless (drop i a) (e h).0 n first) ∙ length-append (letters_of caseless (e h).0) _ in
      rw (← drop-drop n i a) (omega (arith, some_letters caseless (e h).0))

  pub pass_shared : Passes caseless a b i j (passing.To (i + n) (j + n))
  pass_shared = (shared_goes _ refl, shared_less)

-- ---- letters that both go on with

pub pass_starts : (caseless : Bool) (a b : List ℕ) (i j : ℕ)
    → same_bytes (canonical (left_of caseless a (record { at = i; pending = pending.Nothing }))) (canonical (left_of caseless b (record { at = j; pending = pending.Nothing }))) ≡ same_left caseless a b i j
unfolding left_of
pass_starts caseless a b i j = refl

pub left_starts : (caseless : Bool) (a : List ℕ) (i : ℕ) → length (left_of caseless a (record { at = i; pending = pending.Nothing })) ≤ length (letters caseless (drop i a))
unfolding left_of
left_starts caseless a i = omega arith

left_at : (caseless : Bool) (a : List ℕ) (c : Cursor) → c.pending ≡ pending.Nothing → left_of caseless a c ≡ letters caseless (drop c.at a)
unfolding left_of
left_at caseless a c e = rw e

pub never_both : (p q : Cursor) → ◌≡◌ {A = Bool} false true → (p.pending ≡ pending.Nothing) × (q.pending ≡ pending.Nothing)
never_both p q e = absurd (let z : ◌≡◌ {A = ℕ} 0 1 = cc in omega arith)

module _ (caseless : Bool) (a b : List ℕ) (i j : ℕ) (p q : Cursor) (s t : Step) (u : step_told caseless a s ≡ left_of caseless a p) (v : step_told caseless b t ≡ left_of caseless b q)
    (inv : same_bytes (canonical (left_of caseless a p)) (canonical (left_of caseless b q)) ≡ same_left caseless a b i j) (l : length (left_of caseless a p) ≤ length (letters caseless (drop i a)))
    (x y : ℕ) (after then : Cursor) (e : s ≡ step.Letter x after) (f : t ≡ step.Letter y then) (h : x ≡ y) where
  one : left_of caseless a p ≡ x ∷ left_of caseless a after
  one = sym u ∙ ap (step_told caseless a) e

  two : left_of caseless b q ≡ x ∷ left_of caseless b then
  two = sym v ∙ ap (step_told caseless b) f ∙ ap (◌∷ left_of caseless b then) (sym h)

  pub letter_goes : same_bytes (canonical (left_of caseless a after)) (canonical (left_of caseless b then)) ≡ same_left caseless a b i j
  letter_goes = same_rest x (left_of caseless a after) (left_of caseless b then) ∙ (rw (one, two) at inv)

  pub letter_less : length (left_of caseless a after) < length (left_of caseless a p)
  letter_less = omega (arith, ap length one)

  pub letter_to : (d : Bool) → (d ≡ true → (after.pending ≡ pending.Nothing) × (then.pending ≡ pending.Nothing)) → d ≡ true → Passes caseless a b i j (passing.To after.at then.at)
  letter_to d g k =
      let m = left_at caseless a after (g k).0 in
      let n = left_at caseless b then (g k).1 in
      ((rw (m, n) at letter_goes), omega (arith, letter_less, ap length m))

pub on_apart : (caseless : Bool) (a b : List ℕ) (i j : ℕ) (r : Passing) → Passes caseless a b i j r → r ≡ passing.Apart → (whole : Bool) → same_left caseless a b i j ≡ whole → false ≡ whole
on_apart caseless a b i j r w e whole h = subst (Passes caseless a b i j) e w ∙ h

module _ (caseless : Bool) (a b : List ℕ) (i j : ℕ) (r : Passing) (w : Passes caseless a b i j r) (k l : ℕ) (e : r ≡ passing.To k l) where
  passes : Passes caseless a b i j (passing.To k l)
  passes = subst (Passes caseless a b i j) e w

  pub on_goes : (whole : Bool) → same_left caseless a b i j ≡ whole → same_left caseless a b k l ≡ whole
  on_goes whole h = passes.0 ∙ h

  pub on_less : length (letters caseless (drop k a)) < length (letters caseless (drop i a))
  on_less = passes.1
