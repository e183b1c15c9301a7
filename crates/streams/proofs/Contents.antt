-- A stream's contents are what settling it refuses, and else the bytes that are written.
use Prim.Native.Nat.{ℕ, ◌+◌, ◌-◌, ◌≤◌, min}
use mathlib.Core.Path.{◌≡◌, refl, sym}
use mathlib.Core.List.{List, [], ◌∷◌, ◌++◌, append_assoc}
use mathlib.Core.Bool.{Bool, true, false}
use borrow.Author.Tests.{leb-true}
use lib.Dec.{leb}
use native.Mathlib.Omega.{arith}
use lib.ListN.{replicate}
use Rattle.error.specs.Answer.{Answer, Ok, Err, pick, if_le}
use Rattle.error.proofs.Laws.{at_most_lem}
use Rattle.lookup.specs.declared.counted.Counted.{Counted}
use Rattle.lookup.specs.Counted.{after, from, onto}
use Rattle.btree.specs.Scan.{Run, more, end, refused, scan_of}
use Rattle.node.specs.declared.place.Place.{Place}
use Rattle.volume.specs.declared.Volume.{Volume}
use Rattle.records.specs.Extent.{extent_at}
use Rattle.records.specs.declared.extent.Extent.{Extent}
use Rattle.lists.specs.Lists.{search_of, list_of, extents_of}
use Rattle.extents.specs.Verdict.{Verdict, ◌>>◌}
use Rattle.extents.specs.Extents.{Disk, disk_of}
use Rattle.streams.specs.Stream.{stream}
use Rattle.streams.specs.Inner.{settle, taken, poured, wanted_of, next_pos, step_bytes, bytes_then, run_bytes, stream_bytes, settled_by}
use Rattle.streams.proofs.StreamLaws.{stream_two}
use Rattle.streams.specs.Streams.{stream_of, settled_of}
use Rattle.streams.proofs.Laws.{settled_is}

poured_past : (d : Disk) (size pos : ℕ) (es : List Extent) → size ≤ pos → poured d size pos es ≡ []
unfolding poured
poured_past d size pos [] h = let q : size - pos ≡ 0 = omega arith in rw q
poured_past d size pos (e ∷ es) h = sym (at_most_lem _ _ _ _ _ h refl)

-- an extent's bytes, and those after it
poured_cons : (d : Disk) (size pos : ℕ) (e : Extent) (es : List Extent) → poured d size pos (e ∷ es) ≡ step_bytes d size pos e ++ poured d size (next_pos size pos e) es
unfolding poured step_bytes next_pos wanted_of if_le
poured_cons d size pos e es = of (leb size pos) refl
  where
    a : ℕ
    a = min e.logical size

    n : ℕ
    n = min e.len (size - a)

    of : (t : Bool) → leb size pos ≡ t
        → pick t [] (replicate (a - pos) 0 ++ (taken d e n ++ poured d size (a + n) es)) ≡ pick t [] (replicate (a - pos) 0 ++ taken d e n) ++ poured d size (pick t pos (a + n)) es
    of true h = sym (poured_past d size pos es (leb-true size pos h))
    of false h = sym (append_assoc (replicate (a - pos) 0) (taken d e n) (poured d size (a + n) es))

more_poured : (d : Disk) (size pos : ℕ) (a : Answer Extent) (s n : ℕ) (c : Answer (List Extent)) (k : Extent → List ℕ) (es : List Extent)
    → (from s a λ x. onto (after n c) λ xs t. after t (Ok (x ∷ xs))).answer ≡ Ok es → ((e : Extent) (xs : List Extent) → c ≡ Ok xs → k e ≡ poured d size (next_pos size pos e) xs)
    → bytes_then a (λ e. step_bytes d size pos e ++ k e) ≡ poured d size pos es
more_poured d size pos (Ok e) s n (Ok xs) k es h ih =
    let q : es ≡ e ∷ xs = cc in
    rw (q, ih e xs refl) (sym (poured_cons d size pos e xs))
more_poured d size pos (Ok e) s n (Err w) k es h ih = absurd (let z : ◌≡◌ {A = ℕ} 0 1 = cc in omega arith)
more_poured d size pos (Err w) s n c k es h ih = absurd (let z : ◌≡◌ {A = ℕ} 0 1 = cc in omega arith)

-- what a run's extents give is what their list gives
pub run_poured : (f : Place → Answer Extent) (d : Disk) (size pos : ℕ) (r : Run) (es : List Extent) → (list_of f r).answer ≡ Ok es → run_bytes f d size pos r ≡ poured d size pos es
unfolding run_bytes list_of poured
run_poured f d size pos (end s) es h = let q : es ≡ [] = cc in rw q
run_poured f d size pos (refused w s) es h = absurd (let z : ◌≡◌ {A = ℕ} 0 1 = cc in omega arith)
run_poured f d size pos (more p s r) es h =
    more_poured d size pos (f p) s (list_of f r).nodes (list_of f r).answer (λ e. run_bytes f d size (next_pos size pos e) r) es h
    (λ e xs k. run_poured f d size (next_pos size pos e) r xs k)

settled_as : (d : Disk) (size : ℕ) (n : ℕ) (c : Answer (List Extent)) (bs : List ℕ) → ((es : List Extent) → c ≡ Ok es → bs ≡ poured d size 0 es)
    → (onto (after n c) λ es t. after t (stream d size es)) ≡ (onto (onto (after n c) λ es t. after t (settle d size 0 es)) λ u t. after t (Ok bs))
unfolding stream
settled_as d size n (Ok es) bs h = rw (stream_two d size 0 es, h es refl) (of (settle d size 0 es))
  where
    of : (v : Verdict) → ◌≡◌ {A = Counted (List ℕ)} (after n (v >> Ok (poured d size 0 es))) (onto (after n v) λ u t. after t (Ok (poured d size 0 es)))
    of (Ok u) = refl
    of (Err w) = refl
settled_as d size n (Err w) bs h = refl

pub stream_settled : (b : List ℕ) (v : Volume) (object size s : ℕ) → stream_of b v object size s ≡ (onto (settled_of b v object size s) λ u t. after t (Ok (stream_bytes b v object size s)))
unfolding stream_of settled_by stream_bytes extents_of
stream_settled b v object size s =
    rw (settled_is b v object size s)
    (settled_as (disk_of v.reader b) size (list_of (extent_at v.reader b) (scan_of b (search_of v object 8) s)).nodes (list_of (extent_at v.reader b) (scan_of b (search_of v object 8) s)).answer _
    (λ es h. run_poured (extent_at v.reader b) (disk_of v.reader b) size 0 (scan_of b (search_of v object 8) s) es h))
