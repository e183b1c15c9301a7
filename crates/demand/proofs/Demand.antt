-- The third demand, proved: what it says stands in specs/Demand.antt, with all that it names.
use Prim.Native.Nat.{ℕ, ◌-◌, ◌^◌}
use mathlib.Core.Path.{◌≡◌, refl, sym, subst, ◌∙◌}
use mathlib.Core.Logic.{◌⊎◌, inl, inr}
use mathlib.Core.Bool.{true}
use mathlib.Core.List.{List, [], ◌∷◌, map}
use native.Mathlib.Omega.{arith}
use Rattle.error.specs.Answer.{Answer, Ok, ◌>>=◌}
use Rattle.error.proofs.Laws.{got_is, bound}
use Rattle.byte_fields.specs.Part.{part_of}
use Rattle.volume.specs.Open.{volume_of_image}
use Rattle.volume.specs.declared.Volume.{Volume}
use Rattle.volume.specs.declared.Which.{Which}
use Rattle.lines.specs.Shown.{InodeShown, AttributeShown, Contents, packed, plain}
use Rattle.demand.specs.View.{View}
use Rattle.demand.specs.Listing.{is_packed, listing}
use Rattle.demand.specs.Lookup.{lookup}
use Rattle.demand.specs.Demand.{Bytes, view_of, view_of_part, view_at, listing_of, lookup_of, Met, chain, Answered, AllAnswered, Unrefused, past_end, at_inode, Lister, DemandOn, ThirdDemand}
use Rattle.demand.specs.Shows.{heard, ShowsContents}
use Rattle.demand.proofs.Shows.{listing_done}
use Rattle.demand.proofs.Walks.{Reads, Ends, ends_past, ends_on, ends}
use Rattle.demand.proofs.Views.{listings_same, lookups_same}
use Rattle.demand.proofs.Callable.{Short, listings_same_to}
use Rattle.demand.proofs.Inodes.{part_bytes}
use Rattle.demand.proofs.Reading.{volume_reads, volume_short}
use Rattle.demand.proofs.Lookups.{opened_small}
use Rattle.demand.proofs.Parts.{listing_of_view, lookup_of_view, opened_part}

-- what is known where a listing was not refused: the volume was opened, and the listing is that of its view
record Listed (view : List ℕ → Which → Answer View) (image : List ℕ) (index : Which) (room : ℕ) (t : List ℕ) : Type 0 where
  it : View
  opened : view image index ≡ Ok it
  lists : listing it room ≡ Ok t

all_answered : (l : List (AttributeShown (List ℕ))) → AllAnswered (map heard l)
all_answered [] = tt
all_answered (a ∷ l) = ((a.contents, refl), all_answered l)

contents_answered : (v : View) (f : InodeShown) (c : Contents) → ShowsContents v f c → (is_packed f ≡ true) ⊎ Answered (v.contents f.id)
contents_answered v f packed h = inl h
contents_answered v f (plain bs) h = inr (bs, h.1)

ends_unrefused : (v : View) (m : Met) → Ends v v m m → Unrefused v m
ends_unrefused v m (ends_past h k) = past_end h
ends_unrefused v m (ends_on i f l d es s s' h k) =
    at_inode f h (es, s.entries) (map heard l) s.attributes (all_answered l) (contents_answered v f d s.contents)

no_refusal : (v : View) (m : ℕ) (t : List ℕ) → listing v m ≡ Ok t → (c : List ℕ) → Unrefused v (chain v c)
no_refusal v m t p c = let a = listing_done v m p in ends_unrefused v (chain v c) (ends v v c 2 a.tree a.shows a.shows)

-- the listing of what is answered meets the demand wherever the law of file reads holds, and lookups go by what is answered
module _ (view : List ℕ → Which → Answer View) (find : List ℕ → Which → List ℕ → Answer InodeShown) (lister : Lister)
    (lists : (image : List ℕ) (index : Which) (room : ℕ) → lister image index room ≡ (view image index >>= λ v. listing v room))
    (finds : (image : List ℕ) (index : Which) (path : List ℕ) → find image index path ≡ (view image index >>= λ v. lookup v path))
    (reads : (image : List ℕ) (index : Which) (v : View) → view image index ≡ Ok v → Reads v)
    (short : (image : List ℕ) (index : Which) (v : View) → view image index ≡ Ok v → Bytes image → Short (2 ^ 64 - 1) v) where
  listed : (image : List ℕ) (index : Which) (room : ℕ) (t : List ℕ) → lister image index room ≡ Ok t → Listed view image index room t
  listed image index room t e =
      let a = bound (view image index) (λ v. listing v room) t (sym (lists image index room) ∙ e) in
      record { it = a.0; opened = a.1.0; lists = a.1.1 }

  pub demand_met : DemandOn view find lister
  demand_met = record {
    listings = λ a b i j m n t u p q.
        let x = listed a i m t p in
        let y = listed b j n u q in
        rw (x.opened, y.opened)
        (listings_same x.it y.it m n t u (reads a i x.it x.opened) (reads b j y.it y.opened) x.lists y.lists);
    listings_to = λ a b i j m n t u k l p q.
        let x = listed a i m t p in
        let y = listed b j n u q in
        rw (x.opened, y.opened)
        (listings_same_to (2 ^ 64 - 1) x.it y.it m n t u (reads a i x.it x.opened) (reads b j y.it y.opened)
        (short a i x.it x.opened k) (short b j y.it y.opened l) x.lists y.lists);
    lookups = λ a b i j m n t u p q e path.
        let x = listed a i m t p in
        let y = listed b j n u q in
        rw (finds a i path, finds b j path, x.opened, y.opened) (lookups_same x.it y.it m n t u x.lists y.lists e path);
    unrefused = λ a i m t p c. let x = listed a i m t p in rw x.opened (no_refusal x.it m t x.lists c);
  }

-- of a part
module _ (part : List ℕ) (index : Which) (v : View) (h : view_of_part part index ≡ Ok v) where
  opened_volume : (w : Volume) × (((volume_of_image part index).answer ≡ Ok w) × (view_of part w ≡ v))
  unfolding view_of_part
  opened_volume =
      let b = bound (volume_of_image part index).answer (λ w. Ok (view_of part w)) v h in
      (b.0, (b.1.0, got_is _ v b.1.1))

  opened_reads : Reads v
  opened_reads =
      let b = opened_volume in
      let small = opened_small part index b.0 b.1.0 in
      subst Reads b.1.1 (volume_reads part b.0 (omega arith))

  opened_short : Bytes part → Short (2 ^ 64 - 1) v
  opened_short k = let b = opened_volume in subst (Short (2 ^ 64 - 1)) b.1.1 (volume_short part b.0 k)

pub third_demand : ThirdDemand
third_demand = demand_met view_at lookup_of listing_of listing_of_view lookup_of_view
    (λ image index v h. let s = opened_part image index v h in opened_reads (part_of image s.0) index v s.1.1)
    (λ image index v h k. let s = opened_part image index v h in opened_short (part_of image s.0) index v s.1.1 (part_bytes image s.0 k))
