-- What a call leaves, by its number.
use Prim.Native.Nat.{ℕ, ◌*◌, ◌^◌, ◌≤◌, ◌<◌}
use mathlib.Core.Path.{◌≡◌, refl, sym, ap, ◌∙◌}
use mathlib.Core.List.{List}
use native.Mathlib.Decide.{ℕ_discrete, dec_le}
use native.Mathlib.Omega.{arith}
use borrow.Author.Rules.{rules}
use lib.IntN.{ℤ}
use lib.ListN.{length}
use mir.Syntax.{w64}
use mir.Val.{to_z, of_z}
use Rattle.error.specs.Answer.{Answer, Ok, Err, ◌>>=◌, if_le, if_eq}
use Rattle.error.specs.declared.Refusal.{Refusal}
use Rattle.error.specs.declared.Refusal.TheVariants.{NotFound}
use Rattle.error.proofs.Laws.{at_most_lem, above, same, other}
use Rattle.byte_fields.specs.Part.{part_of}
use Rattle.byte_fields.specs.declared.Span.{Span}
use Rattle.gpt.specs.Part.{part_of_image, on_part}
use Rattle.lookup.specs.declared.counted.Counted.{Counted}
use Rattle.lookup.specs.Counted.{after, from}
use Rattle.checkpoints.specs.Numbers.{numbers_at}
use Rattle.checkpoints.specs.declared.by_number.Choice.{Choice}
use Rattle.checkpoints.specs.declared.by_number.Choice.TheVariants.{Latest, Number}
use Rattle.volume.specs.declared.Which.{Which}
use Rattle.calls.specs.Filled.{Filled, filled_by, filled_at, Answered, answered, called_by}
use Rattle.listing.specs.Listed.{listed_of, listed_by, list_counted}
use Rattle.xid_list.specs.Listed.{xids_by}
use Rattle.part_line.specs.Line.{part_text}
use Rattle.wrong_word.specs.Mends.{mends_of, mends_in}
use Rattle.results.specs.Call.{number, result_at, Within}
use Rattle.results.proofs.Results.{call_within}
use Rattle.results.proofs.Entries.{counted_result}
use Rattle.results.proofs.Listings.{list_within}
use Rattle.results.proofs.Xids.{xids_within}
use Rattle.results.proofs.Mends.{mends_within}
use Rattle.desks.specs.Requests.{Request, asked, which_by, which_of, text_by, text_of, answer_of, filled_for, result_for, buffer_for, nodes_of}
use Rattle.desks.specs.Inner.{left_by, rest_for, left_for}

from_answer : {A B : Type 0} (a : Answer A) (f : A → Counted B) → (from 0 a f).answer ≡ (a >>= λ x. (f x).answer)
from_answer (Ok x) f = refl
from_answer (Err e) f = refl

-- ---- a row of the table

module _ (what : ℕ) (w : Which) (a b c : ℕ) (path : List ℕ) (room : ℕ) (p out : List ℕ) (z : Answered) where
  pub row : (k : ℕ) → what ≡ k → z ≡ left_by k (text_by k w a b c path room p) out → z ≡ left_by what (text_by what w a b c path room p) out
  row k e h = rw e h

pub last_lower : (n : ℕ) → n < 7 → (n ≡ 0 → ⊥) → (n ≡ 1 → ⊥) → (n ≡ 2 → ⊥) → (n ≡ 3 → ⊥) → (n ≡ 4 → ⊥) → (n ≡ 5 → ⊥) → n ≡ 6
last_lower n h a b c d e f = of (dec_le n 2) (dec_le n 4)
  where
    of : Dec (n ≤ 2) → Dec (n ≤ 4) → n ≡ 6
    of (Dec.yes k) l = absurd (omega arith)
    of (Dec.no k) (Dec.yes l) = absurd (omega arith)
    of (Dec.no k) (Dec.no l) = omega arith

pub last_upper : (n : ℕ) → (7 ≤ n) × (n < 14) → (n ≡ 7 → ⊥) → (n ≡ 8 → ⊥) → (n ≡ 9 → ⊥) → (n ≡ 10 → ⊥) → (n ≡ 11 → ⊥) → (n ≡ 12 → ⊥) → n ≡ 13
last_upper n h a b c d e f = of (dec_le n 9) (dec_le n 11)
  where
    of : Dec (n ≤ 9) → Dec (n ≤ 11) → n ≡ 13
    of (Dec.yes k) l = absurd (omega (arith, h.0))
    of (Dec.no k) (Dec.yes l) = absurd (omega arith)
    of (Dec.no k) (Dec.no l) = omega (arith, h.1)

module _ (what : ℕ) (e : Refusal) (out : List ℕ) where
  pub zeroed : (z : Filled) → what ≡ 3 → z ≡ listed_of (Err e) out → ◌≡◌ {A = Answered} (record { nodes = 0; result = z }) (left_by what (after 0 (Err e)) out)
  unfolding left_by
  zeroed z q h = same _ _ _ _ _ q (ap (λ (x : Filled). record { nodes = 0; result = x }) h)

  pub unchanged : (what ≡ 3 → ⊥) → ◌≡◌ {A = Answered} (record { nodes = 0; result = filled_at (Err e) out }) (left_by what (after 0 (Err e)) out)
  unfolding left_by
  unchanged q = other _ _ _ _ _ q refl

module _ (what : ℕ) (image out : List ℕ) where
  pub rest_of : (k : ℕ) (z : Filled) → what ≡ k → z ≡ rest_for k image out → z ≡ rest_for what image out
  rest_of k z e h = rw e h

  pub rest_none : (what ≡ 14 → ⊥) → (what ≡ 15 → ⊥) → (what ≡ 16 → ⊥) → filled_at (Err NotFound) out ≡ rest_for what image out
  unfolding rest_for
  rest_none a b c = other _ _ _ _ _ a (other _ _ _ _ _ b (other _ _ _ _ _ c refl))

module _ (numbered xid volume : ℕ) where
  pub which_latest : numbered ≡ 0 → ◌≡◌ {A = Which} (record { checkpoint = Latest; index = volume }) (which_by numbered xid volume)
  which_latest e = ap (λ (c : Choice). record { checkpoint = c; index = volume }) (same _ _ _ _ _ e refl)

  pub which_numbered : (numbered ≡ 0 → ⊥) → ◌≡◌ {A = Which} (record { checkpoint = Number xid; index = volume }) (which_by numbered xid volume)
  which_numbered e = ap (λ (c : Choice). record { checkpoint = c; index = volume }) (other _ _ _ _ _ e refl)

-- ---- a call on a container's part

module _ (q : Request) (out : List ℕ) (h : q.what < 14) where
  abbrev counted : Counted (List ℕ)
  counted = from 0 (part_of_image q.image) λ s. text_of q (part_of q.image s)

  answers : counted.answer ≡ answer_of q
  answers = from_answer (part_of_image q.image) (λ s. text_of q (part_of q.image s))

  nodes : counted.nodes ≡ nodes_of q
  unfolding nodes_of
  nodes = above _ _ _ _ _ h refl

  texts : (q.what ≡ 3 → ⊥) → filled_by (answer_of q) out ≡ filled_for q out
  unfolding filled_for
  texts n =
      other _ _ _ _ _ n (other _ _ _ _ _ (λ e. omega arith) (other _ _ _ _ _ (λ e. omega arith) (other _ _ _ _ _ (λ e. omega arith) (above _ _ _ _ _ (omega arith) refl))))

  listings : q.what ≡ 3 → listed_of (answer_of q) out ≡ filled_for q out
  unfolding filled_for
  listings e = same _ _ _ _ _ e refl

  left_for_lem : left_by q.what counted out ≡ left_for q out
  unfolding left_by
  left_for_lem = of (ℕ_discrete q.what 3)
    where
      of : Dec (q.what ≡ 3) → if_eq q.what 3 (listed_by counted out) (answered counted out) ≡ left_for q out
      of (Dec.yes e) = sym (same _ _ _ _ _ e refl) ∙ λ i. record { nodes = nodes i; result = (ap (λ (a : Answer (List ℕ)). listed_of a out) answers ∙ listings e) i }
      of (Dec.no e) = sym (other _ _ _ _ _ e refl) ∙ λ i. record { nodes = nodes i; result = (ap (λ (a : Answer (List ℕ)). filled_by a out) answers ∙ texts e) i }

-- ---- the others

module _ (q : Request) (out : List ℕ) (h : 14 ≤ q.what) where
  no_nodes : 0 ≡ nodes_of q
  unfolding nodes_of
  no_nodes = at_most_lem _ _ _ _ _ h refl

  rest : rest_for q.what q.image out ≡ filled_for q out
  unfolding rest_for filled_for
  rest = other _ _ _ _ _ (λ e. omega arith) (of (ℕ_discrete q.what 14) (ℕ_discrete q.what 15) (ℕ_discrete q.what 16))
    where
      none : Filled
      none = record { answer = Err NotFound; buffer = out }

      of : Dec (q.what ≡ 14) → Dec (q.what ≡ 15) → Dec (q.what ≡ 16) →
          if_eq q.what 14 (xids_by (on_part numbers_at q.image) out) (if_eq q.what 15 (filled_by (part_text q.image) out) (if_eq q.what 16 (mends_in (mends_of q.image) out) none))
          ≡ if_eq q.what 14 (xids_by (on_part numbers_at q.image) out) (if_eq q.what 15 (filled_by (part_text q.image) out) (if_eq q.what 16 (mends_in (mends_of q.image) out) (if_le 17 q.what none (filled_by (answer_of q) out))))
      of (Dec.yes e) b c = sym (same _ _ _ _ _ e refl) ∙ same _ _ _ _ _ e refl
      of (Dec.no d) (Dec.yes e) c = sym (other _ _ _ _ _ d (same _ _ _ _ _ e refl)) ∙ other _ _ _ _ _ d (same _ _ _ _ _ e refl)
      of (Dec.no d) (Dec.no f) (Dec.yes e) = sym (other _ _ _ _ _ d (other _ _ _ _ _ f (same _ _ _ _ _ e refl))) ∙ other _ _ _ _ _ d (other _ _ _ _ _ f (same _ _ _ _ _ e refl))
      of (Dec.no d) (Dec.no f) (Dec.no e) =
          sym (other _ _ _ _ _ d (other _ _ _ _ _ f (other _ _ _ _ _ e refl))) ∙ other _ _ _ _ _ d (other _ _ _ _ _ f (other _ _ _ _ _ e (at_most_lem _ _ _ _ _ (omega arith) refl)))

  rest_for_lem : (z : Filled) → z ≡ rest_for q.what q.image out → ◌≡◌ {A = Answered} (record { nodes = 0; result = z }) (left_for q out)
  rest_for_lem z e = λ i. record { nodes = no_nodes i; result = (e ∙ rest) i }

-- as the code has it
module _ (what : ℕ) (image : List ℕ) (numbered xid volume a b c : ℕ) (path out : List ℕ) where
  abbrev request : Request
  request = asked what image numbered xid volume a b c path (length out)

  pub on_part_lem : (w : Which) (z : Answered) → w ≡ which_by numbered xid volume → what < 14 →
      z ≡ left_by what (from 0 (part_of_image image) λ s. text_by what w a b c path (length out) (part_of image s)) out → z ≡ left_for request out
  on_part_lem w z k h e = e ∙ ap (λ (y : Which). left_by what (from 0 (part_of_image image) λ s. text_by what y a b c path (length out) (part_of image s)) out) k ∙ left_for_lem request out h

  pub others : (z : Filled) → 14 ≤ what → z ≡ rest_for what image out → ◌≡◌ {A = Answered} (record { nodes = 0; result = z }) (left_for request out)
  others z h e = rest_for_lem request out h z e

-- ---- the count of a call lies within its buffer

refused_within : (e : Refusal) (x out : List ℕ) (r : Answer ℕ) → filled_at r x ≡ record { answer = Err e; buffer = out } → Within r
refused_within e x out (Ok n) p = absurd (let z : ◌≡◌ {A = ℕ} 0 1 = cc (ap (λ (f : Filled). f.answer) p) in omega arith)
refused_within e x out (Err w) p = tt

module _ (q : Request) (out x : List ℕ) (r : Answer ℕ) (k : q.room ≡ length out) (s : length out * 1 < 2 ^ 63) where
  listing_within : q.what ≡ 3 → filled_at r x ≡ listed_of (answer_of q) out → Within r
  unfolding text_by list_counted if_eq
  listing_within e p = of (part_of_image q.image) (p ∙ ap (λ (n : ℕ). listed_of (on_part (λ y. (text_by n (which_of q) q.a q.b q.c q.path q.room y).answer) q.image) out) e)
    where
      of : (a : Answer Span) → filled_at r x ≡ listed_of (a >>= λ y. (list_counted (part_of q.image y) (which_of q) q.room).answer) out → Within r
      of (Ok y) g = list_within (part_of q.image y) (which_of q) out x r (rw k at g) s
      of (Err w) g = refused_within w x _ r g

  filled_within : filled_at r x ≡ filled_for q out → Within r
  unfolding filled_for
  filled_within p = of (ℕ_discrete q.what 3) (ℕ_discrete q.what 14) (ℕ_discrete q.what 15) (ℕ_discrete q.what 16) (dec_le 17 q.what)
    where
      of : Dec (q.what ≡ 3) → Dec (q.what ≡ 14) → Dec (q.what ≡ 15) → Dec (q.what ≡ 16) → Dec (17 ≤ q.what) → Within r
      of (Dec.yes e) b c d f = listing_within e (p ∙ sym (same _ _ _ _ _ e refl))
      of (Dec.no a) (Dec.yes e) c d f = xids_within (on_part numbers_at q.image) out x r (p ∙ sym (other _ _ _ _ _ a (same _ _ _ _ _ e refl))) s
      of (Dec.no a) (Dec.no b) (Dec.yes e) d f = call_within (part_text q.image) out x r (p ∙ sym (other _ _ _ _ _ a (other _ _ _ _ _ b (same _ _ _ _ _ e refl)))) s
      of (Dec.no a) (Dec.no b) (Dec.no c) (Dec.yes e) f = mends_within (mends_of q.image) out x r (p ∙ sym (other _ _ _ _ _ a (other _ _ _ _ _ b (other _ _ _ _ _ c (same _ _ _ _ _ e refl))))) s
      of (Dec.no a) (Dec.no b) (Dec.no c) (Dec.no d) (Dec.yes e) = refused_within NotFound x out r (p ∙ sym (other _ _ _ _ _ a (other _ _ _ _ _ b (other _ _ _ _ _ c (other _ _ _ _ _ d (at_most_lem _ _ _ _ _ e refl))))))
      of (Dec.no a) (Dec.no b) (Dec.no c) (Dec.no d) (Dec.no e) = call_within (answer_of q) out x r (p ∙ sym (other _ _ _ _ _ a (other _ _ _ _ _ b (other _ _ _ _ _ c (other _ _ _ _ _ d (above _ _ _ _ _ (omega arith) refl)))))) s

module _ (what : ℕ) (image : List ℕ) (numbered xid volume a b c : ℕ) (path out x : List ℕ) (r : Counted ℕ) (p : called_by r x ≡ left_for (request what image numbered xid volume a b c path out) out) where
  filled_as : filled_at r.answer x ≡ filled_for (request what image numbered xid volume a b c path out) out
  filled_as = ap (λ (m : Answered). m.result) p

  pub within_buffer : length out * 1 < 2 ^ 63 → Within r.answer
  within_buffer s = filled_within (request what image numbered xid volume a b c path out) out x r.answer refl s filled_as

  pub result_told : length out * 1 < 2 ^ 63 → (z : ℤ) → z ≡ result_at r.answer → to_z w64 (of_z w64 z) ≡ result_for (request what image numbered xid volume a b c path out) out
  result_told s z e = counted_result _ x r.answer filled_as (within_buffer s) z e

  pub nodes_told : r.nodes ≡ nodes_of (request what image numbered xid volume a b c path out)
  nodes_told = ap (λ (m : Answered). m.nodes) p

  pub buffer_told : x ≡ buffer_for (request what image numbered xid volume a b c path out) out
  buffer_told = ap (λ (m : Answered). m.result.buffer) p

pub ruleset rows = (rules, zeroed, unchanged, rest_none, which_latest, which_numbered, on_part_lem, others, within_buffer, result_told, nodes_told, buffer_told)
