-- The law of file reads of an opened volume, and how long a file is.
use Prim.Native.Nat.{ℕ, ◌-◌, ◌^◌, ◌/◌, ◌%◌, ◌≤◌}
use mathlib.Core.Path.{◌≡◌, sym, ap, ◌∙◌}
use mathlib.Core.Bool.{true}
use mathlib.Core.List.{List}
use native.Mathlib.Omega.{arith}
use borrow.Author.Tests.{eqb-true}
use lib.ListN.{length, take, drop}
use Rattle.error.specs.Answer.{Answer, Ok, Err}
use Rattle.error.specs.declared.Refusal.TheVariants.{Unsupported}
use Rattle.error.proofs.Laws.{got_is, eq_cases, bound}
use Rattle.lookup.specs.declared.counted.Counted.{Counted}
use Rattle.lookup.specs.Counted.{after, from}
use Rattle.volume.specs.declared.Volume.{Volume}
use Rattle.records.specs.declared.extent.Extent.{Extent}
use Rattle.inode_record.specs.declared.inode.Inode.{Inode}
use Rattle.lists.specs.Lists.{inode_of, extents_of}
use Rattle.extents.specs.Extents.{disk_of, apart}
use Rattle.files.specs.Read.{read_all}
use Rattle.files.specs.File.{size_of, read_plain, read_whole}
use Rattle.inode_record.specs.Inode.{compressed}
use Rattle.extents.proofs.Verdicts.{went}
use Rattle.files.proofs.ReadLaws.{read_length}
use Rattle.files.proofs.FileParts.{compressed_read, file_part}
use Rattle.lines.specs.Shown.{InodeShown, inode_shown}
use Rattle.demand.specs.Listing.{is_packed}
use Rattle.demand.specs.Demand.{Bytes, inode_answer, contents_answer, read_answer, view_of}
use Rattle.demand.proofs.Inodes.{inode_placed, inode_small}
use Rattle.demand.proofs.Walks.{Reads}
use Rattle.demand.proofs.Callable.{Short}

module _ (image : List ℕ) (v : Volume) where
  -- the inode behind what is shown, by the id that is shown
  pub record Behind (f : InodeShown) : Type 0 where
    pub it : Inode
    pub found : (inode_of image v f.id 0).answer ≡ Ok it
    pub shown : inode_shown v.reader image it ≡ f

  pub behind : (i : ℕ) (f : InodeShown) → inode_answer image v i ≡ Ok f → Behind f
  unfolding inode_answer inode_shown
  behind i f h =
      let a = bound (inode_of image v i 0).answer _ f h in
      let q : inode_shown v.reader image a.0 ≡ f = got_is _ f a.1.1 in
      let n : f.id ≡ i = sym (ap (λ (g : InodeShown). g.id) q) ∙ (inode_placed image v i 0 a.0 a.1.0).parts.named in
      record { it = a.0; found = ap (λ (k : ℕ). (inode_of image v k 0).answer) n ∙ a.1.0; shown = q }

  pub bit_behind : (f : InodeShown) (b : Behind f) → compressed b.it ≡ f.bsd / 32 % 2
  unfolding inode_shown
  bit_behind f b = ap (λ (g : InodeShown). g.bsd / 32 % 2) b.shown

  read_packed : (i : ℕ) (f : InodeShown) → inode_answer image v i ≡ Ok f → is_packed f ≡ true → (off len : ℕ) → read_answer image v f.id off len ≡ Err Unsupported
  unfolding read_answer
  read_packed i f h p off len =
      let b = behind i f h in
      rw b.found (ap (λ (c : Counted (List ℕ)). c.answer) (compressed_read image v b.it 0 (bit_behind f b ∙ eqb-true (f.bsd / 32 % 2) 1 p) off len))

  read_plain_lem : length image ≤ 2 ^ 64 → (i : ℕ) (f : InodeShown) (bs : List ℕ) → inode_answer image v i ≡ Ok f → contents_answer image v f.id ≡ Ok bs
      → (off len : ℕ) → read_answer image v f.id off len ≡ Ok (take len (drop off bs))
  unfolding read_answer contents_answer
  read_plain_lem small i f bs h c off len =
      let b = behind i f h in
      let w : (read_whole image v b.it 0).answer ≡ Ok bs = rw b.found at c in
      let n : ℕ = (read_whole image v b.it 0).nodes in
      rw b.found (ap (λ (c : Counted (List ℕ)). c.answer) (file_part image v b.it 0 n bs small (λ j. record { nodes = n; answer = w j }) off len))

  pub volume_reads : length image ≤ 2 ^ 64 → Reads (view_of image v)
  volume_reads small = record { of_packed = read_packed; of_plain = λ i f bs h p c off len. read_plain_lem small i f bs h c off len }

  pub whole_length : (i : Inode) (bs : List ℕ) → (read_whole image v i 0).answer ≡ Ok bs → length bs ≡ size_of i
  unfolding read_whole read_plain read_all
  whole_length i bs =
      eq_cases (λ (x : Counted (List ℕ)). x.answer ≡ Ok bs → length bs ≡ size_of i)
      (λ h e. absurd (let z : ◌≡◌ {A = ℕ} 0 1 = cc in omega arith))
      (λ h e. of (extents_of image v i.ids.private_id 0).nodes (extents_of image v i.ids.private_id 0).answer e)
    where
      of : (n : ℕ) (a : Answer (List Extent)) → (from n a λ es. after n (read_all (disk_of v.reader image) (size_of i) es)).answer ≡ Ok bs → length bs ≡ size_of i
      of n (Ok es) e = omega (arith, read_length (disk_of v.reader image) (size_of i) es 0 (size_of i) bs (went (apart es) _ _ e).1)
      of n (Err x) e = absurd (let z : ◌≡◌ {A = ℕ} 0 1 = cc in omega arith)

  pub volume_short : Bytes image → Short (2 ^ 64 - 1) (view_of image v)
  unfolding contents_answer
  volume_short h = record {
    short = λ i f bs e c.
        let b = behind i f e in
        omega (arith, whole_length b.it bs (rw b.found at c), inode_small image v f.id 0 b.it h b.found);
  }
