-- What a call on a volume answers goes by the volume's view alone. The bytes are those of a container.
use Prim.Native.Nat.{ℕ, zero, suc}
use mathlib.Core.Path.{◌≡◌, refl, ap, ◌∙◌}
use mathlib.Core.Bool.{Bool, true, false}
use mathlib.Core.List.{List, [], ◌∷◌, map}
use Rattle.std.specs.Prelude.{Option, None, Some}
use lib.ListN.{drop}
use Rattle.error.specs.Answer.{Answer, Ok, Err, ◌>>=◌, pick}
use Rattle.error.specs.declared.Refusal.TheVariants.{Corrupt}
use Rattle.byte_fields.specs.Part.{up_to_zero}
use Rattle.utf8.specs.Text.{lossy, Reading, reading, same_bytes}
use Rattle.lookup.specs.declared.counted.Counted.{Counted}
use Rattle.lookup.specs.Counted.{after, from, onto}
use Rattle.volume.specs.Open.{volume_of_image}
use Rattle.volume.specs.declared.Volume.{Volume}
use Rattle.volume.specs.declared.Which.{Which}
use Rattle.records.specs.Attribute.{attribute_name}
use Rattle.records.specs.declared.directory.Entry.{Entry}
use Rattle.records.specs.declared.attribute.Attribute.{Attribute}
use Rattle.inode_record.specs.declared.inode.Inode.{Inode}
use Rattle.lists.specs.Lists.{placed, element_at, entries_of, attributes_of, inode_of}
use Rattle.files.specs.File.{read_file}
use Rattle.links.specs.Named.{has_name, named, attribute_named}
use Rattle.links.specs.Link.{contents_of, target_of, target_in, symlink_name, link_reading, link_of}
use Rattle.paths.specs.Lookup.{lookup_path}
use Rattle.lines.specs.Shown.{EntryShown, AttributeShown, inode_shown, entry_shown, attribute_shown}
use Rattle.lines.specs.Lines.{node_line, entry_line, attribute_line}
use Rattle.demand.specs.View.{View}
use Rattle.demand.specs.Listing.{holding}
use Rattle.demand.specs.Lookup.{lookup}
use Rattle.demand.specs.Demand.{with_contents, inode_answer, entries_answer, attributes_answer, read_answer, view_of, view_of_part, lookup_of_part}
use Rattle.demand.proofs.Counts.{onto_answer, inode_even, entries_even, attributes_even, contents_even, read_even}
use Rattle.demand.proofs.Lookups.{lookup_shown, lookup_of_part_lem}
use Rattle.calls.specs.OnVolume.{on_volume}
use Rattle.element_lines.specs.Elements.{entry_show, entry_on, entry_counted, entry_text, lookup_on, lookup_counted, lookup_text}
use Rattle.attribute_lines.specs.Attributes.{attribute_of, attribute_show, attribute_on, attribute_counted, attribute_text}
use Rattle.entry_lines.specs.Entries.{lines_of, fitting_some, entries_on, entries_counted, entries_text}
use Rattle.reads.specs.Reads.{read_on, read_counted, read_text, link_on, link_counted, link_text, xattr_show, xattr_on, xattr_counted, xattr_bytes}

-- the line of an entry at a place, nothing past the end
abbrev pub entry_line_at : Option EntryShown → List ℕ
entry_line_at None = []
entry_line_at (Some e) = entry_line e []

-- the line of an attribute, with its contents
abbrev pub attribute_line_at : Option (AttributeShown (Answer (List ℕ))) → Answer (List ℕ)
attribute_line_at None = Ok []
attribute_line_at (Some a) = a.contents >>= λ d. Ok (attribute_line (holding a d) [])

-- the bytes of an attribute
abbrev pub attribute_bytes_at : Option (AttributeShown (Answer (List ℕ))) → Answer (List ℕ)
attribute_bytes_at None = Ok []
attribute_bytes_at (Some a) = a.contents

-- the first attribute of a name
unfoldable pub labelled : List ℕ → List (AttributeShown (Answer (List ℕ))) → Option (AttributeShown (Answer (List ℕ)))
labelled name [] = None
labelled name (a ∷ l) = pick (same_bytes a.label name) (Some a) (labelled name l)

abbrev pub link_in : Option (AttributeShown (Answer (List ℕ))) → Answer (List ℕ)
link_in None = Err Corrupt
link_in (Some a) = a.contents >>= λ x. Ok (lossy (up_to_zero x))

-- the text of a link
abbrev pub link_shown : View → ℕ → Answer (List ℕ)
link_shown v id = v.inode id >>= λ f. v.attributes f.id >>= λ l. link_in (labelled symlink_name l)

module _ (image : List ℕ) (v : Volume) where
  entry_at : (k : ℕ) (es : List Entry) → entry_show image v (element_at k es) ≡ entry_line_at (element_at k (map (entry_shown v.reader image) es))
  unfolding element_at
  entry_at zero [] = refl
  entry_at (suc k) [] = refl
  entry_at zero (e ∷ es) = refl
  entry_at (suc k) (e ∷ es) = entry_at k es

  entry_on_lem : (id k s : ℕ) → (entry_on image v id k s).answer ≡ (entries_answer image v id >>= λ es. Ok (entry_line_at (element_at k es)))
  unfolding entry_on entries_answer
  entry_on_lem id k s = rw (← entries_even image v id s 0) (of (entries_of image v id s).nodes (entries_of image v id s).answer)
    where
      of : (n : ℕ) (a : Answer (List Entry)) → (onto (placed k (after n a)) λ o t. after t (Ok (entry_show image v o))).answer
          ≡ ((a >>= λ es. Ok (map (entry_shown v.reader image) es)) >>= λ es. Ok (entry_line_at (element_at k es)))
      of n (Ok es) = ap Ok (entry_at k es)
      of n (Err e) = refl

  lines_at : (k : ℕ) (es : List Entry) → lines_of v.reader image (drop k es) ≡ map (λ e. entry_line e []) (drop k (map (entry_shown v.reader image) es))
  lines_at zero [] = refl
  lines_at (suc k) [] = refl
  lines_at zero (e ∷ es) = ap (λ (l : List (List ℕ)). entry_line (entry_shown v.reader image e) [] ∷ l) (lines_at zero es)
  lines_at (suc k) (e ∷ es) = lines_at k es

  entries_on_lem : (id k room s : ℕ) → (entries_on image v id k room s).answer ≡ (entries_answer image v id >>= λ es. fitting_some room (map (λ e. entry_line e []) (drop k es)))
  unfolding entries_on entries_answer
  entries_on_lem id k room s = rw (← entries_even image v id s 0) (of (entries_of image v id s).nodes (entries_of image v id s).answer)
    where
      of : (n : ℕ) (a : Answer (List Entry)) → (onto (after n a) λ es t. after t (fitting_some room (lines_of v.reader image (drop k es)))).answer
          ≡ ((a >>= λ es. Ok (map (entry_shown v.reader image) es)) >>= λ es. fitting_some room (map (λ e. entry_line e []) (drop k es)))
      of n (Ok es) = ap (fitting_some room) (lines_at k es)
      of n (Err e) = refl

  attribute_of_lem : (a : Attribute) (s : ℕ) → (attribute_of image v a s).answer ≡ attribute_line_at (Some (with_contents image v a))
  unfolding attribute_of attribute_shown
  attribute_of_lem a s =
      onto_answer (λ c t. after t (Ok (attribute_line (attribute_shown v.reader image a c) []))) (λ c. Ok (attribute_line (attribute_shown v.reader image a c) []))
      (contents_of image v a s) (contents_of image v a 0).answer (contents_even image v a s 0) (λ c t. refl)

  attribute_at_lem : (k : ℕ) (l : List Attribute) (s : ℕ) → (attribute_show image v (element_at k l) s).answer ≡ attribute_line_at (element_at k (map (with_contents image v) l))
  unfolding element_at
  attribute_at_lem zero [] s = refl
  attribute_at_lem (suc k) [] s = refl
  attribute_at_lem zero (a ∷ l) s = attribute_of_lem a s
  attribute_at_lem (suc k) (a ∷ l) s = attribute_at_lem k l s

  attribute_on_lem : (id k s : ℕ) → (attribute_on image v id k s).answer ≡ (attributes_answer image v id >>= λ l. attribute_line_at (element_at k l))
  unfolding attribute_on attributes_answer
  attribute_on_lem id k s = rw (← attributes_even image v id s 0) (of (attributes_of image v id s).nodes (attributes_of image v id s).answer)
    where
      of : (n : ℕ) (a : Answer (List Attribute)) → (onto (placed k (after n a)) λ o t. attribute_show image v o t).answer
          ≡ ((a >>= λ l. Ok (map (with_contents image v) l)) >>= λ l. attribute_line_at (element_at k l))
      of n (Ok l) = attribute_at_lem k l n
      of n (Err e) = refl

  bytes_at : (k : ℕ) (l : List Attribute) (s : ℕ) → (xattr_show image v (element_at k l) s).answer ≡ attribute_bytes_at (element_at k (map (with_contents image v) l))
  unfolding element_at attribute_shown
  bytes_at zero [] s = refl
  bytes_at (suc k) [] s = refl
  bytes_at zero (a ∷ l) s = contents_even image v a s 0
  bytes_at (suc k) (a ∷ l) s = bytes_at k l s

  bytes_on : (id k s : ℕ) → (xattr_on image v id k s).answer ≡ (attributes_answer image v id >>= λ l. attribute_bytes_at (element_at k l))
  unfolding xattr_on attributes_answer
  bytes_on id k s = rw (← attributes_even image v id s 0) (of (attributes_of image v id s).nodes (attributes_of image v id s).answer)
    where
      of : (n : ℕ) (a : Answer (List Attribute)) → (onto (placed k (after n a)) λ o t. xattr_show image v o t).answer
          ≡ ((a >>= λ l. Ok (map (with_contents image v) l)) >>= λ l. attribute_bytes_at (element_at k l))
      of n (Ok l) = bytes_at k l n
      of n (Err e) = refl

  -- the text of a reading
  texts : Answer Reading → Answer (List ℕ)
  texts a = a >>= λ r. Ok r.text

  target_of_lem : (a : Attribute) (s : ℕ) → texts (target_of image v a s).answer ≡ link_in (Some (with_contents image v a))
  unfolding target_of attribute_shown texts
  target_of_lem a s =
      ap texts (onto_answer (λ x t. after t (Ok (reading (up_to_zero x)))) (λ x. Ok (reading (up_to_zero x))) (contents_of image v a s) (contents_of image v a 0).answer (contents_even image v a s 0) (λ x t. refl))
      ∙ of (contents_of image v a 0).answer
    where
      of : (c : Answer (List ℕ)) → texts (c >>= λ x. Ok (reading (up_to_zero x))) ≡ (c >>= λ x. Ok (lossy (up_to_zero x)))
      of (Ok x) = refl
      of (Err e) = refl

  link_in_lem : (l : List Attribute) (s : ℕ) → texts (target_in image v (named v.reader image symlink_name l) s).answer ≡ link_in (labelled symlink_name (map (with_contents image v) l))
  unfolding named labelled has_name attribute_shown texts
  link_in_lem [] s = refl
  link_in_lem (a ∷ l) s = of (same_bytes (lossy (attribute_name v.reader image a)) symlink_name) (link_in_lem l s)
    where
      of : (d : Bool) → texts (target_in image v (named v.reader image symlink_name l) s).answer ≡ link_in (labelled symlink_name (map (with_contents image v) l))
          → texts (target_in image v (pick d (Some a) (named v.reader image symlink_name l)) s).answer
          ≡ link_in (pick d (Some (with_contents image v a)) (labelled symlink_name (map (with_contents image v) l)))
      of true h = target_of_lem a s
      of false h = h

  link_of_lem : (i : Inode) (s : ℕ) → (link_of image v i s).answer ≡ (attributes_answer image v i.id >>= λ l. link_in (labelled symlink_name l))
  unfolding link_of link_reading attribute_named attributes_answer texts
  link_of_lem i s = rw (← attributes_even image v i.id s 0) (of (attributes_of image v i.id s).nodes (attributes_of image v i.id s).answer)
    where
      text : (c : Counted Reading) → (onto c λ r t. after t (Ok r.text)).answer ≡ texts c.answer
      text c = told c.nodes c.answer
        where
          told : (n : ℕ) (a : Answer Reading) → (onto (after n a) λ r t. after t (Ok r.text)).answer ≡ texts a
          told n (Ok r) = refl
          told n (Err e) = refl

      of : (n : ℕ) (a : Answer (List Attribute)) → (onto (onto (onto (after n a) λ xs t. after t (Ok (named v.reader image symlink_name xs))) λ o t. target_in image v o t) λ r t. after t (Ok r.text)).answer
          ≡ ((a >>= λ l. Ok (map (with_contents image v) l)) >>= λ l. link_in (labelled symlink_name l))
      of n (Ok l) = text (target_in image v (named v.reader image symlink_name l) n) ∙ link_in_lem l n
      of n (Err e) = refl

  link_on_lem : (id s : ℕ) → (link_on image v id s).answer ≡ link_shown (view_of image v) id
  unfolding link_on inode_answer inode_shown
  link_on_lem id s =
      onto_answer (λ i t. link_of image v i t) (λ i. attributes_answer image v i.id >>= λ l. link_in (labelled symlink_name l)) (inode_of image v id s) (inode_of image v id 0).answer
      (inode_even image v id s 0) (λ i t. link_of_lem i t)
      ∙ of (inode_of image v id 0).answer
    where
      of : (a : Answer Inode) → (a >>= λ i. attributes_answer image v i.id >>= λ l. link_in (labelled symlink_name l))
          ≡ ((a >>= λ i. Ok (inode_shown v.reader image i)) >>= λ f. attributes_answer image v f.id >>= λ l. link_in (labelled symlink_name l))
      of (Ok i) = refl
      of (Err e) = refl

  read_on_lem : (id off len s : ℕ) → (read_on image v id off len s).answer ≡ read_answer image v id off len
  unfolding read_on read_answer
  read_on_lem id off len s =
      onto_answer (λ i t. read_file image v i off len t) (λ i. (read_file image v i off len 0).answer) (inode_of image v id s) (inode_of image v id 0).answer
      (inode_even image v id s 0) (λ i t. read_even image v i off len t 0)

  lookup_on_lem : (path : List ℕ) (s : ℕ) → (lookup_on image v path s).answer ≡ (lookup (view_of image v) path >>= λ f. Ok (node_line f []))
  unfolding lookup_on
  lookup_on_lem path s = rw (← lookup_shown image v path s) (of (lookup_path image v path s).nodes (lookup_path image v path s).answer)
    where
      of : (n : ℕ) (a : Answer Inode) → (onto (after n a) λ i t. after t (Ok (node_line (inode_shown v.reader image i) []))).answer
          ≡ ((a >>= λ i. Ok (inode_shown v.reader image i)) >>= λ f. Ok (node_line f []))
      of n (Ok i) = refl
      of n (Err e) = refl

-- each call, by the view
module _ (image : List ℕ) (index : Which) where
  on_view : (f : Volume → ℕ → Counted (List ℕ)) (g : View → Answer (List ℕ)) → ((v : Volume) (s : ℕ) → (f v s).answer ≡ g (view_of image v))
      → (on_volume f image index).answer ≡ (view_of_part image index >>= g)
  unfolding view_of_part
  on_view f g h = of (volume_of_image image index).nodes (volume_of_image image index).answer
    where
      of : (n : ℕ) (a : Answer Volume) → (from n a λ v. f v n).answer ≡ ((a >>= λ v. Ok (view_of image v)) >>= g)
      of n (Ok v) = h v n
      of n (Err e) = refl

  pub read_view : (id off len : ℕ) → read_text image index id off len ≡ (view_of_part image index >>= λ v. v.read id off len)
  unfolding read_counted
  read_view id off len = on_view (λ v s. read_on image v id off len s) (λ v. v.read id off len) (λ v s. read_on_lem image v id off len s)

  pub entry_view : (id k : ℕ) → entry_text image index id k ≡ (view_of_part image index >>= λ v. v.entries id >>= λ es. Ok (entry_line_at (element_at k es)))
  unfolding entry_counted
  entry_view id k = on_view (λ v s. entry_on image v id k s) (λ v. v.entries id >>= λ es. Ok (entry_line_at (element_at k es))) (λ v s. entry_on_lem image v id k s)

  pub attribute_view : (id k : ℕ) → attribute_text image index id k ≡ (view_of_part image index >>= λ v. v.attributes id >>= λ l. attribute_line_at (element_at k l))
  unfolding attribute_counted
  attribute_view id k = on_view (λ v s. attribute_on image v id k s) (λ v. v.attributes id >>= λ l. attribute_line_at (element_at k l)) (λ v s. attribute_on_lem image v id k s)

  pub lookup_view : (path : List ℕ) → lookup_text image index path ≡ (lookup_of_part image index path >>= λ f. Ok (node_line f []))
  unfolding lookup_counted
  lookup_view path =
      on_view (λ v s. lookup_on image v path s) (λ v. lookup v path >>= λ f. Ok (node_line f [])) (λ v s. lookup_on_lem image v path s)
      ∙ rw (lookup_of_part_lem image index path) (of (view_of_part image index))
    where
      of : (a : Answer View) → (a >>= λ v. lookup v path >>= λ f. Ok (node_line f [])) ≡ ((a >>= λ v. lookup v path) >>= λ f. Ok (node_line f []))
      of (Ok v) = refl
      of (Err e) = refl

  pub entries_view : (id k room : ℕ) → entries_text image index id k room ≡ (view_of_part image index >>= λ v. v.entries id >>= λ es. fitting_some room (map (λ e. entry_line e []) (drop k es)))
  unfolding entries_counted
  entries_view id k room =
      on_view (λ v s. entries_on image v id k room s) (λ v. v.entries id >>= λ es. fitting_some room (map (λ e. entry_line e []) (drop k es))) (λ v s. entries_on_lem image v id k room s)

  pub bytes_view : (id k : ℕ) → xattr_bytes image index id k ≡ (view_of_part image index >>= λ v. v.attributes id >>= λ l. attribute_bytes_at (element_at k l))
  unfolding xattr_counted
  bytes_view id k = on_view (λ v s. xattr_on image v id k s) (λ v. v.attributes id >>= λ l. attribute_bytes_at (element_at k l)) (λ v s. bytes_on image v id k s)

  pub link_view : (id : ℕ) → link_text image index id ≡ (view_of_part image index >>= λ v. link_shown v id)
  unfolding link_counted
  link_view id = on_view (λ v s. link_on image v id s) (λ v. link_shown v id) (λ v s. link_on_lem image v id s)
