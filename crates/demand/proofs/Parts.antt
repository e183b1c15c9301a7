-- What is answered of an image is answered of its part. Document 02, request 01: "Everything after reads that part as its whole image".
use Prim.Native.Nat.{ℕ}
use mathlib.Core.Path.{◌≡◌, refl}
use mathlib.Core.List.{List}
use Rattle.error.specs.Answer.{Answer, Ok, Err, ◌>>=◌}
use Rattle.error.proofs.Laws.{bound}
use Rattle.byte_fields.specs.Part.{part_of}
use Rattle.byte_fields.specs.declared.Span.{Span}
use Rattle.gpt.specs.Part.{part_of_image, on_part}
use Rattle.volume.specs.declared.Which.{Which}
use Rattle.demand.specs.View.{View}
use Rattle.demand.specs.Listing.{listing}
use Rattle.demand.specs.Lookup.{lookup}
use Rattle.demand.specs.Demand.{view_of_part, listing_of_part, lookup_of_part, view_at, listing_of, lookup_of}
use Rattle.demand.proofs.Lookups.{lookup_of_part_lem}

-- what follows on a part follows on the image
pub on_part_lem : {A B : Type 0} (image : List ℕ) (f : List ℕ → Answer A) (g : A → Answer B) (k : List ℕ → Answer B) → ((p : List ℕ) → k p ≡ (f p >>= g))
    → on_part k image ≡ (on_part f image >>= g)
on_part_lem image f g k h = of (part_of_image image)
  where
    of : (a : Answer Span) → (a >>= λ s. k (part_of image s)) ≡ ((a >>= λ s. f (part_of image s)) >>= g)
    of (Ok s) = h (part_of image s)
    of (Err e) = refl

module _ (image : List ℕ) (index : Which) where
  -- what goes by the view of each part goes by that of the image
  pub on_view : {A : Type 0} (g : View → Answer A) (k : List ℕ → Answer A) → ((p : List ℕ) → k p ≡ (view_of_part p index >>= g)) → on_part k image ≡ (view_at image index >>= g)
  unfolding view_at
  on_view g k h = on_part_lem image (λ p. view_of_part p index) g k h

  pub listing_of_view : (room : ℕ) → listing_of image index room ≡ (view_at image index >>= λ v. listing v room)
  unfolding listing_of listing_of_part
  listing_of_view room = on_view (λ v. listing v room) (λ p. listing_of_part p index room) (λ p. refl)

  pub lookup_of_view : (path : List ℕ) → lookup_of image index path ≡ (view_at image index >>= λ v. lookup v path)
  unfolding lookup_of
  lookup_of_view path = on_view (λ v. lookup v path) (λ p. lookup_of_part p index path) (λ p. lookup_of_part_lem p index path)

  -- the part that a volume was opened in
  pub opened_part : (v : View) → view_at image index ≡ Ok v → (s : Span) × ((part_of_image image ≡ Ok s) × (view_of_part (part_of image s) index ≡ Ok v))
  unfolding view_at
  opened_part v h = bound (part_of_image image) (λ s. view_of_part (part_of image s) index) v h
