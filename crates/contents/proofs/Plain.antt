-- The whole of a file is what settling it refuses, and else the bytes that a stream of its extents would pour.
use Prim.Native.Nat.{ℕ, ◌+◌, ◌-◌, ◌≤◌, ◌<◌, min}
use mathlib.Core.Path.{◌≡◌, refl, sym, ap, ◌∙◌}
use mathlib.Core.List.{List, [], ◌∷◌}
use mathlib.Core.Logic.{◌⊎◌, inl, inr}
use native.Mathlib.Omega.{arith}
use native.Mathlib.Nat.{zero-add}
use Rattle.error.specs.Answer.{Answer, Ok, Err, if_le}
use Rattle.error.proofs.Laws.{at_most_lem, above, other}
use Rattle.lookup.specs.declared.counted.Counted.{Counted}
use Rattle.lookup.specs.Counted.{after, onto}
use Rattle.btree.specs.Scan.{scan_of}
use Rattle.volume.specs.declared.Volume.{Volume}
use Rattle.records.specs.Extent.{extent_at}
use Rattle.records.specs.declared.extent.Extent.{Extent}
use Rattle.inode_record.specs.declared.inode.Inode.{Inode}
use Rattle.lists.specs.Lists.{search_of, list_of, extents_of}
use Rattle.extents.specs.Verdict.{Verdict, fine, ◌>>◌}
use Rattle.extents.specs.Extents.{Disk, disk_of, apart, ascending, since, decide}
use Rattle.files.specs.Read.{bytes, span, read_at, read_all}
use Rattle.extents.specs.Inner.{judge_of}
use Rattle.files.specs.File.{size_of, read_plain, read_whole}
use Rattle.inode_record.specs.Inode.{compressed}
use Rattle.streams.specs.Inner.{poured, stream_bytes}
use Rattle.extents.proofs.Verdicts.{le_or_gt, assoc}
use Rattle.contents.proofs.AgreeLaws.{all_poured}
use Rattle.streams.proofs.Contents.{run_poured}
use Rattle.contents.specs.Whole.{settled_whole}
use Rattle.contents.specs.Inner.{whole_verdict, whole_over, whole_from, whole_by}

module _ (d : Disk) (es : List Extent) where
  decide_none : (xs : List Extent) → decide d 0 0 xs ≡ fine
  unfolding decide
  decide_none [] = refl
  decide_none (x ∷ xs) = sym (at_most_lem _ _ _ _ _ (omega arith) refl)

  no_bytes : bytes d es 0 0 ≡ []
  unfolding bytes span
  no_bytes = refl

  -- what a read of all does once the starts are known to ascend
  abbrev rest : ℕ → ℕ → Answer (List ℕ)
  rest size n = if_le size 0 (Ok []) (decide d 0 (0 + n) (since 0 es) >> Ok (bytes d es 0 n))

  rest_is : (size n : ℕ) → n ≡ size → rest size n ≡ (decide d 0 size (since 0 es) >> Ok (bytes d es 0 size))
  rest_is size n e = of (le_or_gt size 0)
    where
      of : (size ≤ 0) ⊎ (0 < size) → rest size n ≡ (decide d 0 size (since 0 es) >> Ok (bytes d es 0 size))
      of (inl h) =
          let z : size ≡ 0 = omega arith in
          sym (at_most_lem _ _ _ _ _ h refl) ∙ rw (z, decide_none (since 0 es), no_bytes)
      of (inr h) = sym (above _ _ _ _ _ h refl) ∙ rw (zero-add, e)

  read_all_lem : (size : ℕ) → read_at d size es 0 size ≡ (judge_of d 0 size es >> Ok (bytes d es 0 size))
  unfolding read_at judge_of
  read_all_lem size =
      ap (λ (x : Answer (List ℕ)). ascending es >> x) (rest_is size (min size (size - 0)) (omega arith))
      ∙ sym (assoc (ascending es) (decide d 0 size (since 0 es)) (Ok (bytes d es 0 size)))

  -- refused as `whole_verdict` says, and else the bytes that are poured
  pub all_settled : (size : ℕ) → 0 < d.block → read_all d size es ≡ (whole_verdict d size es >> Ok (poured d size 0 es))
  unfolding read_all whole_verdict
  all_settled size pos = of (apart es >> judge_of d 0 size es) refl
    where
      whole : read_all d size es ≡ ((apart es >> judge_of d 0 size es) >> Ok (bytes d es 0 size))
      whole = ap (λ (x : Answer (List ℕ)). apart es >> x) (read_all_lem size) ∙ sym (assoc (apart es) (judge_of d 0 size es) (Ok (bytes d es 0 size)))

      of : (v : Verdict) → (apart es >> judge_of d 0 size es) ≡ v → read_all d size es ≡ (v >> Ok (poured d size 0 es))
      of (Ok tt) e =
          let r : read_all d size es ≡ Ok (bytes d es 0 size) = whole ∙ ap (λ (v : Verdict). v >> Ok (bytes d es 0 size)) e in
          r ∙ ap Ok (all_poured d pos size es (bytes d es 0 size) r)
      of (Err w) e = whole ∙ ap (λ (v : Verdict). v >> Ok (bytes d es 0 size)) e

settled_as : (d : Disk) (size n : ℕ) (c : Answer (List Extent)) (bs : List ℕ) → 0 < d.block → ((es : List Extent) → c ≡ Ok es → bs ≡ poured d size 0 es)
    → (onto (after n c) λ es t. after t (read_all d size es)) ≡ (onto (onto (after n c) λ es t. after t (whole_verdict d size es)) λ u t. after t (Ok bs))
settled_as d size n (Ok es) bs pos h = ap (after n) (all_settled d es size pos) ∙ of (whole_verdict d size es)
  where
    of : (v : Verdict) → ◌≡◌ {A = Counted (List ℕ)} (after n (v >> Ok (poured d size 0 es))) (onto (after n v) λ u t. after t (Ok bs))
    of (Ok u) = ap (λ (x : List ℕ). after n (Ok x)) (sym (h es refl))
    of (Err w) = refl
settled_as d size n (Err w) bs pos h = refl

-- what settling refuses is what reading the whole refuses
whole_from_lem : (d : Disk) (size n : ℕ) (c : Answer (List Extent)) → 0 < d.block
    → (onto (onto (after n c) λ es t. after t (read_all d size es)) λ bs t. after t fine) ≡ (onto (after n c) λ es t. after t (whole_verdict d size es))
whole_from_lem d size n (Ok es) pos = rw (all_settled d es size pos) (of (whole_verdict d size es))
  where
    of : (v : Verdict) → (onto (after n (v >> Ok (poured d size 0 es))) λ bs t. after t fine) ≡ after n v
    of (Ok tt) = refl
    of (Err w) = refl
whole_from_lem d size n (Err w) pos = refl

pub whole_is : (b : List ℕ) (v : Volume) (i : Inode) (s : ℕ) → settled_whole b v i s ≡ whole_by b v i s
unfolding settled_whole read_plain whole_by whole_from whole_over extents_of
whole_is b v i s =
    whole_from_lem (disk_of v.reader b) (size_of i) (list_of (extent_at v.reader b) (scan_of b (search_of v i.ids.private_id 8) s)).nodes (list_of (extent_at v.reader b) (scan_of b (search_of v i.ids.private_id 8) s)).answer (omega arith)

pub plain_settled : (b : List ℕ) (v : Volume) (i : Inode) (s : ℕ)
    → read_plain b v i s ≡ (onto (settled_whole b v i s) λ u t. after t (Ok (stream_bytes b v i.ids.private_id (size_of i) s)))
unfolding read_plain whole_by whole_from whole_over stream_bytes extents_of
plain_settled b v i s =
    rw (whole_is b v i s)
    (settled_as (disk_of v.reader b) (size_of i) (list_of (extent_at v.reader b) (scan_of b (search_of v i.ids.private_id 8) s)).nodes (list_of (extent_at v.reader b) (scan_of b (search_of v i.ids.private_id 8) s)).answer _ (omega arith)
    (λ es h. run_poured (extent_at v.reader b) (disk_of v.reader b) (size_of i) 0 (scan_of b (search_of v i.ids.private_id 8) s) es h))

-- of a file that is not compressed it is the whole read
pub plain_whole : (b : List ℕ) (v : Volume) (i : Inode) (s : ℕ) → (compressed i ≡ 1 → ⊥) → read_whole b v i s ≡ read_plain b v i s
unfolding read_whole
plain_whole b v i s h = sym (other _ _ _ _ _ h refl)
