-- The listing as a call leaves it: of a part, and where none is found.
use Prim.Native.Nat.{ℕ, ◌*◌, ◌^◌, ◌≤◌, ◌<◌}
use mathlib.Core.Path.{◌≡◌, refl, ap, ◌∙◌}
use mathlib.Core.List.{List}
use native.Mathlib.Omega.{arith}
use borrow.Author.Rules.{rules}
use lib.IntN.{ℤ}
use lib.ListN.{length, replicate}
use mir.Syntax.{w64}
use mir.Val.{to_z, of_z}
use Rattle.error.specs.Answer.{Answer, Ok, Err, number_of}
use Rattle.error.specs.declared.Refusal.{Refusal}
use Rattle.error.proofs.Laws.{le_cases, bound}
use Rattle.volume.specs.declared.Which.{Which}
use Rattle.demand.specs.Trace.{End, done, stop, Trace, text_or, within}
use Rattle.demand.specs.Listing.{trace, listing}
use Rattle.demand.specs.Demand.{view_of_part, listing_of_part}
use Rattle.calls.specs.Filled.{Filled, filled_at, Answered, called_by}
use Rattle.listing.specs.Listed.{listed_of, listed_by, list_counted}
use Rattle.results.specs.Call.{minus, number, result_at, Within}
use Rattle.results.proofs.Results.{result_back, refused_is}
use Rattle.lookup.specs.declared.counted.Counted.{Counted}

pub within_room : (room : ℕ) (t : Trace) (s : List ℕ) → within room t ≡ Ok s → length s ≤ room
unfolding within
within_room room t s = le_cases (λ (a : Answer (List ℕ)). a ≡ Ok s → length s ≤ room) (λ h e. of t.ended h e) (λ h e. absurd (let z : ◌≡◌ {A = ℕ} 0 1 = cc in omega arith))
  where
    of : (x : End) → length t.text ≤ room → text_or t.text x ≡ Ok s → length s ≤ room
    of done h e = let q : s ≡ t.text = cc in rw q h
    of (stop w) h e = absurd (let z : ◌≡◌ {A = ℕ} 0 1 = cc in omega arith)

listing_room : (image : List ℕ) (index : Which) (room : ℕ) (s : List ℕ) → listing_of_part image index room ≡ Ok s → length s ≤ room
unfolding listing_of_part listing
listing_room image index room s e = let a = bound (view_of_part image index) (λ w. listing w room) s e in within_room room (trace a.0) s a.1.1

module _ (image : List ℕ) (index : Which) (out x : List ℕ) (r : Answer ℕ) (p : filled_at r x ≡ listed_of (listing_of_part image index (length out)) out) (s : length out * 1 < 2 ^ 63) where
  pub list_within : Within r
  list_within = of r (listing_of_part image index (length out)) (listing_room image index (length out)) (ap (λ (l : Filled). l.answer) p)
    where
      of : (r : Answer ℕ) (a : Answer (List ℕ)) → ((t : List ℕ) → a ≡ Ok t → length t ≤ length out) → r ≡ (listed_of a out).answer → Within r
      of (Ok n) (Ok t) h e = let q : n ≡ length t = cc in omega (arith, h t refl)
      of (Ok n) (Err w) h e = absurd (let z : ◌≡◌ {A = ℕ} 0 1 = cc in omega arith)
      of (Err w) a h e = tt

  pub list_result_lem : (z : ℤ) → z ≡ result_at r → to_z w64 (of_z w64 z) ≡ number (listed_of (listing_of_part image index (length out)) out).answer
  list_result_lem z e = rw e (result_back r list_within ∙ ap (λ (l : Filled). number l.answer) p)

  pub list_buffer_lem : x ≡ (listed_of (listing_of_part image index (length out)) out).buffer
  list_buffer_lem = ap (λ (l : Filled). l.buffer) p

module _ (e : Refusal) (out x : List ℕ) (r : Answer ℕ) (p : filled_at r x ≡ listed_of (Err e) out) where
  zeroed_at : r ≡ Err e
  zeroed_at = of r (ap (λ (l : Filled). l.answer) p)
    where
      of : (r : Answer ℕ) → r ≡ Err e → r ≡ Err e
      of (Ok n) h = absurd (let z : ◌≡◌ {A = ℕ} 0 1 = cc in omega arith)
      of (Err w) h = cc

  pub zeroed_within : Within r
  zeroed_within = rw zeroed_at tt

  pub zeroed_result : (z : ℤ) → z ≡ result_at r → to_z w64 (of_z w64 z) ≡ minus (number_of e)
  zeroed_result z h = refused_is e z (h ∙ ap result_at zeroed_at)

  pub zeroed_buffer : x ≡ replicate (length out) 0
  zeroed_buffer = ap (λ (l : Filled). l.buffer) p

-- the same of a listing that counts its nodes
module _ (image : List ℕ) (index : Which) (out x : List ℕ) (r : Counted ℕ) (p : called_by r x ≡ listed_by (list_counted image index (length out)) out) where
  without_nodes : filled_at r.answer x ≡ listed_of (listing_of_part image index (length out)) out
  unfolding list_counted
  without_nodes = ap (λ (m : Answered). m.result) p

  pub progress_within : length out * 1 < 2 ^ 63 → Within r.answer
  progress_within s = list_within image index out x r.answer without_nodes s

  pub progress_result : length out * 1 < 2 ^ 63 → (z : ℤ) → z ≡ result_at r.answer → to_z w64 (of_z w64 z) ≡ number (listed_of (listing_of_part image index (length out)) out).answer
  progress_result s z e = list_result_lem image index out x r.answer without_nodes s z e

  pub progress_buffer : x ≡ (listed_of (listing_of_part image index (length out)) out).buffer
  progress_buffer = ap (λ (m : Filled). m.buffer) without_nodes

pub ruleset listed = (rules, progress_within, progress_result, progress_buffer, zeroed_within, zeroed_result, zeroed_buffer)
