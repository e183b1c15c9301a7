-- A file that is read whole gives every read of it: each is that part of the whole. One that is compressed is refused throughout.
use Prim.Native.Nat.{ℕ, ◌^◌, ◌≤◌}
use mathlib.Core.Path.{◌≡◌, refl, sym, ap, ◌∙◌}
use mathlib.Core.List.{List}
use lib.ListN.{length, take, drop}
use native.Mathlib.Omega.{arith}
use Rattle.error.specs.Answer.{Answer, Ok, Err}
use Rattle.error.specs.declared.Refusal.TheVariants.{Unsupported}
use Rattle.error.proofs.Laws.{same, other, eq_cases}
use Rattle.lookup.specs.declared.counted.Counted.{Counted}
use Rattle.lookup.specs.Counted.{after, from}
use Rattle.volume.specs.declared.Volume.{Volume}
use Rattle.records.specs.declared.extent.Extent.{Extent}
use Rattle.inode_record.specs.declared.inode.Inode.{Inode}
use Rattle.lists.specs.Lists.{extents_of}
use Rattle.extents.specs.Extents.{disk_of}
use Rattle.files.specs.Read.{read_at, read_all}
use Rattle.files.specs.File.{size_of, read_file, read_plain, read_whole}
use Rattle.inode_record.specs.Inode.{compressed}
use Rattle.files.proofs.ReadLaws.{read_part}

module _ (b : List ℕ) (v : Volume) (i : Inode) (s : ℕ) where
  pub compressed_read : compressed i ≡ 1 → (off len : ℕ) → read_file b v i off len s ≡ after s (Err Unsupported)
  unfolding read_file
  compressed_read h off len = sym (same _ _ _ _ _ h refl)

  -- document 01, the second demand on reads, and the law that the listing's theorem rests on
  pub file_part : (t : ℕ) (bs : List ℕ) → length b ≤ 2 ^ 64 → read_whole b v i s ≡ after t (Ok bs) → (off len : ℕ) → read_file b v i off len s ≡ after t (Ok (take len (drop off bs)))
  unfolding read_whole read_plain read_file
  file_part t bs small w off len =
      eq_cases (λ (x : Counted (List ℕ)). x ≡ after t (Ok bs) → read_file b v i off len s ≡ after t (Ok (take len (drop off bs))))
      (λ h e. absurd (let a : ◌≡◌ {A = Answer _} (Err Unsupported) (Ok bs) = ap (λ (x : Counted (List ℕ)). x.answer) e in let z : ◌≡◌ {A = ℕ} 0 1 = cc in omega arith))
      (λ h e. sym (other _ _ _ _ _ h refl) ∙ of (extents_of b v i.ids.private_id s).nodes (extents_of b v i.ids.private_id s).answer e)
      w
    where
      of : (n : ℕ) (a : Answer (List Extent)) → (from n a λ es. after n (read_all (disk_of v.reader b) (size_of i) es)) ≡ after t (Ok bs)
          → (from n a λ es. after n (read_at (disk_of v.reader b) (size_of i) es off len)) ≡ after t (Ok (take len (drop off bs)))
      of n (Ok es) e =
          let all : read_all (disk_of v.reader b) (size_of i) es ≡ Ok bs = ap (λ (x : Counted (List ℕ)). x.answer) e in
          let m : n ≡ t = ap (λ (x : Counted (List ℕ)). x.nodes) e in
          rw (read_part (disk_of v.reader b) (size_of i) es bs (omega arith) small all off len, m)
      of n (Err x) e = absurd (let a : ◌≡◌ {A = Answer _} (Err x) (Ok bs) = ap (λ (y : Counted (List ℕ)). y.answer) e in let z : ◌≡◌ {A = ℕ} 0 1 = cc in omega arith)
