-- What one desk's count shows: its own calls' nodes, whatever the other desks do. Document 02, request 06.
use Prim.Native.Nat.{ℕ, ◌+◌, ◌^◌, ◌≤◌, ◌<◌}
use mathlib.Core.Path.{◌≡◌, refl, sym, ap, ◌∙◌}
use mathlib.Core.List.{List, [], ◌∷◌}
use native.Mathlib.Decide.{ℕ_discrete}
use native.Mathlib.Omega.{arith}
use lib.ListN.{length, get_or, length-set, get_or-replicate}
use lib.Seq.{get_or-set_same, get_or-set_other}
use Rattle.error.specs.Answer.{if_eq}
use Rattle.error.proofs.Laws.{at_most_lem, same, other, le_cases}
use Rattle.calls.specs.Nodes.{capped}
use Rattle.calls.proofs.Counts.{cap_cap}
use Rattle.desks.specs.Requests.{Request, nodes_of}
use Rattle.desks.specs.Desks.{added}
use Rattle.desks.specs.Alone.{AtDesk, after, of_desk, total, none, Desks}

added_length : (cs : List ℕ) (d n : ℕ) → length (added cs d n) ≡ length cs
unfolding added
added_length cs d n = le_cases (λ (l : List ℕ). length l ≡ length cs) (λ h. refl) (λ h. length-set cs d _)

-- the desk's own count, and another's
own : (cs : List ℕ) (d n : ℕ) → length cs ≡ 8 → d < 8 → get_or (added cs d n) d 0 ≡ capped (get_or cs d 0 + n)
unfolding added
own cs d n l h = le_cases (λ (x : List ℕ). get_or x d 0 ≡ capped (get_or cs d 0 + n)) (λ k. absurd (omega arith)) (λ k. get_or-set_same cs d _ 0 (omega arith))

apart : (cs : List ℕ) (e d n : ℕ) → (e ≡ d → ⊥) → get_or (added cs e n) d 0 ≡ get_or cs d 0
unfolding added
apart cs e d n h = le_cases (λ (x : List ℕ). get_or x d 0 ≡ get_or cs d 0) (λ k. refl) (λ k. get_or-set_other cs e d _ 0 (λ q. h (sym q)))

fits_capped : (n : ℕ) → n < 2 ^ 64 → n ≡ capped n
unfolding capped
fits_capped n h = omega arith

capped_fits : (m n : ℕ) → m ≡ capped n → m < 2 ^ 64
unfolding capped
capped_fits m n e = omega arith

-- from any record of eight counts
pub desk_from : (d : ℕ) → d < 8 → (cs : List ℕ) → length cs ≡ 8 → get_or cs d 0 < 2 ^ 64 → (xs : List AtDesk) → get_or (after cs xs) d 0 ≡ capped (get_or cs d 0 + total (of_desk d xs))
unfolding after of_desk total
desk_from d h cs l z [] = fits_capped _ z ∙ ap capped (omega arith)
desk_from d h cs l z (x ∷ xs) = of (ℕ_discrete x.desk d) (λ k. desk_from d h next (added_length cs x.desk n ∙ l) k xs)
  where
    n : ℕ
    n = nodes_of x.request

    next : List ℕ
    next = added cs x.desk n

    of : Dec (x.desk ≡ d) → (get_or next d 0 < 2 ^ 64 → get_or (after next xs) d 0 ≡ capped (get_or next d 0 + total (of_desk d xs))) →
        get_or (after next xs) d 0 ≡ capped (get_or cs d 0 + total (if_eq x.desk d (x.request ∷ of_desk d xs) (of_desk d xs)))
    of (Dec.yes q) f =
        let u : get_or next d 0 ≡ capped (get_or cs d 0 + n) = rw q (own cs d n l h) in
        let w : x.request ∷ of_desk d xs ≡ if_eq x.desk d (x.request ∷ of_desk d xs) (of_desk d xs) = same _ _ _ _ _ q refl in
        f (capped_fits _ _ u)
        ∙ (ap (λ (m : ℕ). capped (m + total (of_desk d xs))) u
        ∙ (cap_cap (get_or cs d 0) n (total (of_desk d xs)) ∙ ap (λ (qs : List Request). capped (get_or cs d 0 + total qs)) w))
    of (Dec.no q) f =
        let u : get_or next d 0 ≡ get_or cs d 0 = apart cs x.desk d n q in
        let w : of_desk d xs ≡ if_eq x.desk d (x.request ∷ of_desk d xs) (of_desk d xs) = other _ _ _ _ _ q refl in
        f (rw u z) ∙ (ap (λ (m : ℕ). capped (m + total (of_desk d xs))) u ∙ ap (λ (qs : List Request). capped (get_or cs d 0 + total qs)) w)

-- from the start
pub desk_count : (d : ℕ) → d < 8 → (xs : List AtDesk) → get_or (after none xs) d 0 ≡ capped (total (of_desk d xs))
desk_count d h xs =
    let z : get_or none d 0 ≡ 0 = get_or-replicate 8 d 0 0 h in
    desk_from d h none refl (omega (arith, z)) xs ∙ ap (λ (n : ℕ). capped (n + total (of_desk d xs))) z ∙ ap capped (omega arith)

pub desk_alone : (d : ℕ) → d < 8 → (cs cs' : List ℕ) → length cs ≡ 8 → length cs' ≡ 8 → get_or cs d 0 < 2 ^ 64 → get_or cs d 0 ≡ get_or cs' d 0 →
    (xs ys : List AtDesk) → of_desk d xs ≡ of_desk d ys → get_or (after cs xs) d 0 ≡ get_or (after cs' ys) d 0
desk_alone d h cs cs' l l' z s xs ys e =
    desk_from d h cs l z xs ∙ (ap (λ (n : ℕ). capped (n + total (of_desk d xs))) s ∙ (ap (λ (qs : List Request). capped (get_or cs' d 0 + total qs)) e ∙ sym (desk_from d h cs' l' (omega (arith, s, z)) ys)))

-- the same from the start
pub desk_alone_first : (d : ℕ) → d < 8 → (xs ys : List AtDesk) → of_desk d xs ≡ of_desk d ys → get_or (after none xs) d 0 ≡ get_or (after none ys) d 0
desk_alone_first d h xs ys e = desk_count d h xs ∙ (ap (λ (qs : List Request). capped (total qs)) e ∙ sym (desk_count d h ys))

pub desk_above : (cs : List ℕ) (d n : ℕ) → 8 ≤ d → added cs d n ≡ cs
unfolding added
desk_above cs d n h = sym (at_most_lem _ _ _ _ _ h refl)

pub desks : Desks
desks = record { count = desk_count; from = desk_from; alone = desk_alone; above = desk_above }
