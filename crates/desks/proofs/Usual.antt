-- What a call at a desk answers is the usual answer: each row by the table.
use Prim.Native.Nat.{ℕ, ◌≤◌, ◌<◌}
use mathlib.Core.Path.{◌≡◌, refl, sym, ap}
use mathlib.Core.List.{List}
use lib.ListN.{length}
use native.Mathlib.Omega.{arith}
use Rattle.error.specs.Answer.{Err, if_le, if_eq}
use Rattle.error.specs.declared.Refusal.TheVariants.{NotFound}
use Rattle.error.proofs.Laws.{at_most_lem, other}
use Rattle.checkpoints.specs.declared.by_number.Choice.{Choice}
use Rattle.volume.specs.declared.Which.{Which}
use Rattle.listing.specs.Listed.{list_counted}
use Rattle.demand.specs.Demand.{listing_of}
use Rattle.desks.specs.Requests.{Request, asked, text_by, filled_for, nodes_of}
use Rattle.desks.specs.Usual.{Usual}

no_call : (q : Request) (out : List ℕ) → 16 < q.what → filled_for q out ≡ record { answer = Err NotFound; buffer = out }
unfolding filled_for
no_call q out h = sym (other _ _ _ _ _ (λ e. omega arith) (other _ _ _ _ _ (λ e. omega arith) (other _ _ _ _ _ (λ e. omega arith) (other _ _ _ _ _ (λ e. omega arith) (at_most_lem _ _ _ _ _ h refl)))))

no_nodes : (q : Request) → 14 ≤ q.what → nodes_of q ≡ 0
unfolding nodes_of
no_nodes q h = sym (at_most_lem _ _ _ _ _ h refl)

pub usual : (image : List ℕ) (n xid v a b c : ℕ) (path out : List ℕ) → Usual image n xid v a b c path out
unfolding filled_for text_by if_eq if_le list_counted listing_of
usual image n xid v a b c path out = record {
  at_latest_lem = refl;
  at_number_lem = λ h. sym (ap (λ (k : Choice). record { checkpoint = k; index = v }) (other _ _ _ _ _ h refl));
  opened = refl;
  looked_up = refl;
  read = refl;
  entry = refl;
  attribute = refl;
  link = refl;
  extent = refl;
  attribute_bytes_lem = refl;
  entries = refl;
  measured = refl;
  mark = refl;
  marked = refl;
  replaced = refl;
  listed = refl;
  checkpoints = refl;
  part = refl;
  wrong_words = refl;
  no_call = λ what h. no_call (asked what image n xid v a b c path (length out)) out h;
  no_nodes = λ what h. no_nodes (asked what image n xid v a b c path (length out)) h;
}
