-- What a bookmark that is handed in is refused for, and that nothing else is tested.
use Prim.Native.Nat.{ℕ, ◌+◌, ◌*◌, ◌<◌}
use mathlib.Core.Path.{◌≡◌, refl, sym}
use mathlib.Core.List.{List}
use mathlib.Core.Logic.{◌⊎◌, inl, inr, ⊎_elim}
use lib.ListN.{length}
use Rattle.error.specs.Answer.{Answer, Ok, Err, if_le}
use Rattle.error.specs.declared.Refusal.TheVariants.{Io}
use Rattle.error.proofs.Laws.{above, other, le_cases, eq_cases}
use Rattle.byte_fields.specs.Number.{little}
use Rattle.obj.specs.declared.reader.Reader.{Reader}
use Rattle.node.specs.Place.{value_span, placed_value}
use Rattle.node.specs.declared.place.Place.{Place}
use Rattle.marks.specs.Mark.{place_in, part_fits, inside, handed_in}
use Rattle.marks.specs.Texts.{record_text, marked_counted, marked_text}
use Rattle.marks.specs.Leads.{Passes, Refuses}
use Rattle.std.specs.Prelude.{Option, Some}
use Rattle.byte_fields.specs.declared.Span.{Span}

module _ (r : Reader) (image m : List ℕ) where
  abbrev size : ℕ
  size = r.block_size

  abbrev Both : Type 0
  Both = (little 4 m 16 ≡ 0xFFFFFFFF) × (little 4 m 20 ≡ 0xFFFFFFFF)

  -- the value's part, by its two fields
  value_passes : size < little 4 m 16 + little 4 m 20 → (Both → ⊥) → part_fits size (place_in m) (placed_value (place_in m)) ≡ Err Io
  unfolding placed_value place_in
  value_passes h f =
      eq_cases (λ (x : Option Span). part_fits size (place_in m) x ≡ Err Io)
      (λ a. eq_cases (λ (x : Option Span). part_fits size (place_in m) x ≡ Err Io) (λ b. absurd (f (a, b))) (λ b. past))
      (λ a. past)
    where
      past : part_fits size (place_in m) (Some (value_span (place_in m))) ≡ Err Io
      past = sym (above _ _ _ _ _ h refl)

  value_stays : ((size < little 4 m 16 + little 4 m 20) × (Both → ⊥) → ⊥) → part_fits size (place_in m) (placed_value (place_in m)) ≡ Ok (place_in m)
  unfolding placed_value place_in
  value_stays f =
      eq_cases (λ (x : Option Span). part_fits size (place_in m) x ≡ Ok (place_in m))
      (λ a. eq_cases (λ (x : Option Span). part_fits size (place_in m) x ≡ Ok (place_in m)) (λ b. refl) (λ b. stays (λ c. b c.1)))
      (λ a. stays (λ c. a c.0))
    where
      stays : (Both → ⊥) → part_fits size (place_in m) (Some (value_span (place_in m))) ≡ Ok (place_in m)
      stays g = le_cases (λ (x : Answer Place). x ≡ Ok (place_in m)) (λ h. refl) (λ h. absurd (f (h, g)))

  handed_refused : Passes size (length image) m → handed_in r image m ≡ Err Io
  unfolding handed_in inside place_in
  handed_refused = ⊎_elim (λ a. sym (other _ _ _ _ _ a refl)) (λ x. eq_cases (λ (y : Answer Place). y ≡ Err Io) (λ h. block x) (λ h. refl))
    where
      parts : (size < little 4 m 8 + little 4 m 12) ⊎ ((size < little 4 m 16 + little 4 m 20) × (Both → ⊥)) → inside size (place_in m) ≡ Err Io
      parts = ⊎_elim (λ c. sym (above _ _ _ _ _ c refl)) (λ d. le_cases (λ (y : Answer Place). y ≡ Err Io) (λ h. value_passes d.0 d.1) (λ h. refl))

      block : (length image < (little 8 m 0 + 1) * size) ⊎ (size < little 4 m 8 + little 4 m 12) ⊎ ((size < little 4 m 16 + little 4 m 20) × (Both → ⊥)) →
          if_le ((little 8 m 0 + 1) * size) (length image) (inside size (place_in m)) (Err Io) ≡ Err Io
      block = ⊎_elim (λ b. sym (above _ _ _ _ _ b refl)) (λ y. le_cases (λ (z : Answer Place). z ≡ Err Io) (λ h. parts y) (λ h. refl))

  handed_taken : (Passes size (length image) m → ⊥) → handed_in r image m ≡ Ok (place_in m)
  unfolding handed_in inside place_in
  handed_taken f =
      eq_cases (λ (y : Answer Place). y ≡ Ok (place_in m))
      (λ h. le_cases (λ (y : Answer Place). y ≡ Ok (place_in m))
      (λ k. le_cases (λ (y : Answer Place). y ≡ Ok (place_in m)) (λ l. value_stays (λ d. f (inr (inr (inr d))))) (λ l. absurd (f (inr (inr (inl l))))))
      (λ k. absurd (f (inr (inl k)))))
      (λ h. absurd (f (inl h)))

pub refuses : Refuses
unfolding marked_counted record_text place_in
refuses = record {
  one = λ choice image m c o p. rw (o, marked_text, handed_refused c.reader image m p);
  nothing_else = λ choice image m c o f. rw (o, marked_text, handed_taken c.reader image m f);
}
