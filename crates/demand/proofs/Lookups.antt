-- A lookup on an opened volume goes by what the volume answers. An image that was opened is no longer than 2^34 bytes.
use Prim.Native.Nat.{ℕ, ◌^◌, ◌≤◌}
use mathlib.Core.Path.{◌≡◌, refl, sym, ap, ◌∙◌}
use mathlib.Core.Bool.{Bool, true, false}
use mathlib.Core.List.{List, [], ◌∷◌, map}
use native.Mathlib.Omega.{arith}
use lib.ListN.{length}
use Rattle.error.specs.Answer.{Answer, Ok, Err, ◌>>=◌, pick}
use Rattle.error.specs.declared.Refusal.TheVariants.{PathNotUtf8}
use Rattle.error.proofs.Laws.{le_cases}
use Rattle.utf8.specs.Text.{strict}
use Rattle.lookup.specs.declared.counted.Counted.{Counted}
use Rattle.lookup.specs.Counted.{after, from, onto}
use Rattle.nx.specs.declared.container.Container.{Container}
use Rattle.nx.specs.Open.{open_at}
use Rattle.volume.specs.Open.{volume_open, volume_of_image}
use Rattle.volume.specs.declared.Volume.{Volume}
use Rattle.volume.specs.declared.Which.{Which}
use Rattle.records.specs.declared.directory.Entry.{Entry}
use Rattle.inode_record.specs.declared.inode.Inode.{Inode}
use Rattle.lists.specs.Lists.{entries_of, inode_of}
use Rattle.paths.specs.Parts.{parts_of}
use Rattle.volume.specs.Rule.{rule_of}
use Rattle.paths.specs.Find.{find_entry}
use Rattle.paths.specs.Lookup.{name_read, lookup_path}
use Rattle.paths.proofs.Answers.{find_map, walk_answers, lookup_answers}
use Rattle.lines.specs.Shown.{InodeShown, inode_shown, entry_shown}
use Rattle.demand.specs.Lookup.{entry_label, descend, lookup}
use Rattle.demand.specs.Demand.{inode_answer, entries_answer, view_of, view_of_part, lookup_of_part}
use Rattle.demand.proofs.Counts.{inode_even, entries_even}

module _ (image : List ℕ) (v : Volume) where
  abbrev shown : Answer Inode → Answer InodeShown
  shown a = a >>= λ i. Ok (inode_shown v.reader image i)

  abbrev inodes : ℕ → Answer Inode
  inodes id = (inode_of image v id 0).answer

  abbrev lists : ℕ → Answer (List Entry)
  lists id = (entries_of image v id 0).answer

  same_name : (e : Entry) → entry_label (entry_shown v.reader image e) ≡ name_read v.reader image e
  unfolding entry_shown name_read
  same_name e = refl

  of_entry : (r : Answer Entry) → ((r >>= λ e. Ok (entry_shown v.reader image e)) >>= λ e. inode_answer image v e.id) ≡ shown (r >>= λ e. inodes e.file_id)
  unfolding inode_answer entry_shown
  of_entry (Ok e) = refl
  of_entry (Err w) = refl

  of_list : (p : List ℕ) (a : Answer (List Entry))
      → ((a >>= λ es. Ok (map (entry_shown v.reader image) es)) >>= λ es. find_entry (rule_of v) entry_label p es >>= λ e. inode_answer image v e.id)
      ≡ shown (a >>= λ es. find_entry (rule_of v) (name_read v.reader image) p es >>= λ e. inodes e.file_id)
  of_list p (Ok es) =
      rw (find_map (entry_shown v.reader image) (name_read v.reader image) entry_label same_name (rule_of v) p es)
      (of_entry (find_entry (rule_of v) (name_read v.reader image) p es))
  of_list p (Err w) = refl

  of_part : (p : List ℕ) (a : Answer Inode)
      → (shown a >>= λ f. entries_answer image v f.id >>= λ es. find_entry (rule_of v) entry_label p es >>= λ e. inode_answer image v e.id)
      ≡ shown (a >>= λ f. lists f.id >>= λ es. find_entry (rule_of v) (name_read v.reader image) p es >>= λ e. inodes e.file_id)
  unfolding entries_answer inode_shown
  of_part p (Ok f) = of_list p (lists f.id)
  of_part p (Err w) = refl

  of_parts : (ps : List (List ℕ)) (a : Answer Inode) → descend (view_of image v) (shown a) ps ≡ shown (walk_answers (rule_of v) (name_read v.reader image) lists inodes a ps)
  unfolding descend walk_answers
  of_parts [] a = refl
  of_parts (p ∷ ps) a = ap (λ (x : Answer InodeShown). descend (view_of image v) x ps) (of_part p a) ∙ of_parts ps _

  -- whatever the count of nodes before
  pub lookup_shown : (path : List ℕ) (s : ℕ) → ((lookup_path image v path s).answer >>= λ i. Ok (inode_shown v.reader image i)) ≡ lookup (view_of image v) path
  unfolding lookup inode_answer
  lookup_shown path s =
      ap shown (lookup_answers image v lists inodes (λ id s. entries_even image v id s 0) (λ id s. inode_even image v id s 0) path s)
      ∙ of (strict path)
    where
      of : (d : Bool) → shown (pick d (walk_answers (rule_of v) (name_read v.reader image) lists inodes (inodes 2) (parts_of path)) (Err PathNotUtf8))
          ≡ pick d (descend (view_of image v) (shown (inodes 2)) (parts_of path)) (Err PathNotUtf8)
      of true = sym (of_parts (parts_of path) (inodes 2))
      of false = refl

  answer_shown : (n : ℕ) (a : Answer Inode) → (from n a λ i. after n (Ok (inode_shown v.reader image i))).answer ≡ shown a
  answer_shown n (Ok i) = refl
  answer_shown n (Err w) = refl

-- on a container: what the call's contract says is the lookup on the view
pub lookup_of_part_lem : (image : List ℕ) (index : Which) (path : List ℕ) → lookup_of_part image index path ≡ (view_of_part image index >>= λ v. lookup v path)
unfolding lookup_of_part view_of_part
lookup_of_part_lem image index path = of (volume_of_image image index).nodes (volume_of_image image index).answer
  where
    of : (n : ℕ) (a : Answer Volume) → (onto (after n a) λ v s. onto (lookup_path image v path s) λ i t. after t (Ok (inode_shown v.reader image i))).answer
        ≡ ((a >>= λ v. Ok (view_of image v)) >>= λ v. lookup v path)
    of n (Ok v) = answer_shown image v (lookup_path image v path n).nodes (lookup_path image v path n).answer ∙ lookup_shown image v path n
    of n (Err w) = refl

-- document 01, "Image over 2^34 bytes: 7"
pub opened_small : (image : List ℕ) (index : Which) (v : Volume) → (volume_of_image image index).answer ≡ Ok v → length image ≤ 2 ^ 34
unfolding volume_of_image open_at
opened_small image index v =
    le_cases (λ (x : Counted Container). (onto x λ c s. volume_open image c index.index s).answer ≡ Ok v → length image ≤ 2 ^ 34)
    (λ h e. h)
    (λ h e. absurd (let z : ◌≡◌ {A = ℕ} 0 1 = cc in omega arith))
