-- The elements by place are exactly the list: its k-th at each place below its length, nothing from there on, and where the list is refused,
-- the same refusal at every place. Document 01, fs.rs: "Lists come an element a call, by place, the whole list read first; past its end is "none"".
use Prim.Native.Nat.{ℕ, zero, suc, ◌≤◌, ◌<◌}
use mathlib.Core.Path.{◌≡◌, refl}
use mathlib.Core.List.{List, [], ◌∷◌}
use Rattle.std.specs.Prelude.{None, Some}
use lib.ListN.{length, get_or}
use native.Mathlib.Omega.{arith}
use Rattle.error.specs.Answer.{Ok, Err}
use Rattle.error.specs.declared.Refusal.{Refusal}
use Rattle.lookup.specs.declared.counted.Counted.{Counted}
use Rattle.lookup.specs.Counted.{after}
use Rattle.lists.specs.Lists.{element_at, placed}

element_in : {A : Type 0} (k : ℕ) (xs : List A) (d : A) → k < length xs → element_at k xs ≡ Some (get_or xs k d)
unfolding element_at
element_in k [] d h = absurd (omega arith)
element_in zero (x ∷ xs) d h = refl
element_in (suc k) (x ∷ xs) d h = element_in k xs d (omega arith)

element_past : {A : Type 0} (k : ℕ) (xs : List A) → length xs ≤ k → element_at k xs ≡ None
unfolding element_at
element_past k [] h = refl
element_past zero (x ∷ xs) h = absurd (omega arith)
element_past (suc k) (x ∷ xs) h = element_past k xs (omega arith)

module _ {A : Type 0} (c : Counted (List A)) (k : ℕ) where
  pub placed_in : (xs : List A) (d : A) → c.answer ≡ Ok xs → k < length xs → placed k c ≡ after c.nodes (Ok (Some (get_or xs k d)))
  placed_in xs d e h = rw (e, element_in k xs d h)

  pub placed_past : (xs : List A) → c.answer ≡ Ok xs → length xs ≤ k → placed k c ≡ after c.nodes (Ok None)
  placed_past xs e h = rw (e, element_past k xs h)

  pub placed_refused : (w : Refusal) → c.answer ≡ Err w → placed k c ≡ after c.nodes (Err w)
  placed_refused w e = rw e
