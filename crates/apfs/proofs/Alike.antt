-- The third demand at the exported calls. What a call on a volume answers goes by the volume's view alone (proofs/Views.antt); so where two listings
-- are equal, every lookup gets the same text, and at every inode that a chain leads to, every entry, run of entries, attribute, attribute's bytes,
-- link and file read does.
use Prim.Native.Nat.{ℕ, zero, suc}
use mathlib.Core.Path.{◌≡◌, refl, sym, ap, ◌∙◌}
use mathlib.Core.List.{List, [], ◌∷◌, map}
use native.Mathlib.Omega.{arith}
use lib.ListN.{drop}
use Rattle.error.specs.Answer.{Answer, Ok, Err, ◌>>=◌}
use Rattle.byte_fields.specs.Part.{part_of}
use Rattle.gpt.specs.Part.{on_part}
use Rattle.volume.specs.Open.{volume_of_image}
use Rattle.volume.specs.declared.Volume.{Volume}
use Rattle.volume.specs.declared.Which.{Which}
use Rattle.inode_record.specs.declared.inode.Inode.{Inode}
use Rattle.lists.specs.Lists.{element_at, inode_of}
use Rattle.lines.specs.Shown.{InodeShown, EntryShown, inode_shown}
use Rattle.lines.specs.Lines.{node_line, entry_line}
use Rattle.demand.specs.View.{View}
use Rattle.demand.specs.Demand.{inode_answer, entries_answer, view_of, view_of_part, lookup_of_part, view_at, listing_of, lookup_of, Met, here, nowhere, refused, met, place, place_in, onward, follow, chain, Agree, past, on, SameVolumes}
use Rattle.demand.proofs.Inodes.{inode_placed}
use Rattle.demand.proofs.Parts.{on_part_lem, on_view, opened_part}
use Rattle.demand.proofs.Demand.{third_demand}
use Rattle.element_lines.specs.Elements.{entry_text, lookup_text}
use Rattle.entry_lines.specs.Entries.{fitting_some, entries_text}
use Rattle.attribute_lines.specs.Attributes.{attribute_text}
use Rattle.reads.specs.Reads.{read_text, link_text, xattr_bytes}
use Rattle.apfs.proofs.Views.{entry_line_at, attribute_line_at, attribute_bytes_at, link_shown, read_view, entry_view, attribute_view, lookup_view, entries_view, bytes_view, link_view}

-- where a chain leads on a volume, if it opens
abbrev pub chain_on : Answer View → List ℕ → Met
chain_on (Ok v) c = chain v c
chain_on (Err e) c = refused e

-- what is the same of two volumes, at an inode that a chain leads to
module _ (c : List ℕ) (f : InodeShown) (g : View → Answer (List ℕ))
    (by : (v w : View) → v.entries f.id ≡ w.entries f.id → v.attributes f.id ≡ w.attributes f.id → ((off len : ℕ) → v.read f.id off len ≡ w.read f.id off len) → g v ≡ g w) where
  of_agree : (v w : View) (m n : Met) → m ≡ here f → Agree v w m n → g v ≡ g w
  of_agree v w m n h (past p q) = absurd (let z : ◌≡◌ {A = ℕ} 0 1 = cc in omega arith)
  of_agree v w m n h (on x p q e a r) = let k : x ≡ f = cc in by v w (rw k at e) (rw k at a) (λ off len. rw k at (r off len))

  of_same : (x y : Answer View) → SameVolumes x y → chain_on x c ≡ here f → (x >>= g) ≡ (y >>= g)
  of_same (Ok v) (Ok w) s h = of_agree v w (chain v c) (chain w c) h (s.chains c)
  of_same (Ok v) (Err e) s h = absurd s
  of_same (Err e) (Ok w) s h = absurd s
  of_same (Err d) (Err e) s h = absurd s

-- an inode that a chain leads to is the one of its id
module _ (image : List ℕ) (v : Volume) (f : InodeShown) where
  abbrev Known : Met → Type 0
  Known m = m ≡ here f → inode_answer image v f.id ≡ Ok f

  known_inode : (id : ℕ) → Known (met (inode_answer image v id))
  unfolding inode_answer inode_shown
  known_inode id = of (inode_of image v id 0).answer refl
    where
      of : (a : Answer Inode) → (inode_of image v id 0).answer ≡ a → met (a >>= λ i. Ok (inode_shown v.reader image i)) ≡ here f → ((inode_of image v f.id 0).answer >>= λ i. Ok (inode_shown v.reader image i)) ≡ Ok f
      of (Ok i) e h =
          let q : inode_shown v.reader image i ≡ f = cc in
          let n : f.id ≡ id = sym (ap (λ (g : InodeShown). g.id) q) ∙ (inode_placed image v id 0 i e).parts.named in
          ap (λ (k : ℕ). (inode_of image v k 0).answer >>= λ j. Ok (inode_shown v.reader image j)) n ∙ ap (λ (a : Answer Inode). a >>= λ j. Ok (inode_shown v.reader image j)) e ∙ ap Ok q
      of (Err w) e h = absurd (let z : ◌≡◌ {A = ℕ} 0 1 = cc in omega arith)

  known_place : (es : List EntryShown) (k : ℕ) → Known (place (view_of image v) es k)
  unfolding place
  known_place [] k h = absurd (let z : ◌≡◌ {A = ℕ} 0 1 = cc in omega arith)
  known_place (e ∷ es) zero h = known_inode e.id h
  known_place (e ∷ es) (suc k) h = known_place es k h

  known_onward : (m : Met) (k : ℕ) → Known (onward (view_of image v) m k)
  unfolding onward
  known_onward (here g) k h = of (entries_answer image v g.id) h
    where
      of : (a : Answer (List EntryShown)) → Known (place_in (view_of image v) a k)
      of (Ok es) i = known_place es k i
      of (Err e) i = absurd (let z : ◌≡◌ {A = ℕ} 0 1 = cc in omega arith)
  known_onward nowhere k h = absurd (let z : ◌≡◌ {A = ℕ} 0 1 = cc in omega arith)
  known_onward (refused e) k h = absurd (let z : ◌≡◌ {A = ℕ} 0 1 = cc in omega arith)

  known_follow : (m : Met) (c : List ℕ) → Known m → Known (follow (view_of image v) m c)
  unfolding follow
  known_follow m [] n h = n h
  known_follow m (k ∷ c) n h = known_follow (onward (view_of image v) m k) c (known_onward m k) h

abbrev Knows : Answer View → Type 0
Knows x = (v : View) (c : List ℕ) (f : InodeShown) → x ≡ Ok v → chain v c ≡ here f → v.inode f.id ≡ Ok f

knows_part : (part : List ℕ) (index : Which) → Knows (view_of_part part index)
unfolding view_of_part
knows_part part index v c f e h = of (volume_of_image part index).answer e
  where
    of : (a : Answer Volume) → (a >>= λ w. Ok (view_of part w)) ≡ Ok v → v.inode f.id ≡ Ok f
    of (Ok w) k =
        let q : view_of part w ≡ v = cc in
        ap (λ (x : View). x.inode f.id) (sym q) ∙ known_follow part w f (met (inode_answer part w 2)) c (known_inode part w f 2) (ap (λ (x : View). chain x c) q ∙ h)
    of (Err w) k = absurd (let z : ◌≡◌ {A = ℕ} 0 1 = cc in omega arith)

knows : (image : List ℕ) (index : Which) → Knows (view_at image index)
knows image index v c f e h = let s = opened_part image index v e in knows_part (part_of image s.0) index v c f s.1.1 h

-- the same link
module _ (c : List ℕ) (f : InodeShown) where
  link_agree : (v w : View) (m n : Met) → m ≡ here f → (n ≡ here f → w.inode f.id ≡ Ok f) → v.inode f.id ≡ Ok f → Agree v w m n → link_shown v f.id ≡ link_shown w f.id
  link_agree v w m n h k i (past p q) = absurd (let z : ◌≡◌ {A = ℕ} 0 1 = cc in omega arith)
  link_agree v w m n h k i (on x p q e a r) =
      let y : x ≡ f = cc in
      let j : w.inode f.id ≡ Ok f = k (q ∙ ap here y) in
      let b : v.attributes f.id ≡ w.attributes f.id = rw y at a in
      rw (i, j, b)

  link_same : (x y : Answer View) → Knows x → Knows y → SameVolumes x y → chain_on x c ≡ here f → (x >>= λ v. link_shown v f.id) ≡ (y >>= λ v. link_shown v f.id)
  link_same (Ok v) (Ok w) k l s h = link_agree v w (chain v c) (chain w c) h (λ q. l w c f refl q) (k v c f refl h) (s.chains c)
  link_same (Ok v) (Err e) k l s h = absurd s
  link_same (Err e) (Ok w) k l s h = absurd s
  link_same (Err d) (Err e) k l s h = absurd s

-- the same text, by what is the same of two volumes
module _ (a b : List ℕ) (i j : Which) where
  by_views : (g : View → Answer (List ℕ)) (k : List ℕ → Which → Answer (List ℕ)) → ((p : List ℕ) (n : Which) → k p n ≡ (view_of_part p n >>= g)) → (view_at a i >>= g) ≡ (view_at b j >>= g)
      → on_part (λ p. k p i) a ≡ on_part (λ p. k p j) b
  by_views g k h e = on_view a i g (λ p. k p i) (λ p. h p i) ∙ e ∙ sym (on_view b j g (λ p. k p j) (λ p. h p j))

  by_lookups : (path : List ℕ) → lookup_of a i path ≡ lookup_of b j path → on_part (λ p. lookup_text p i path) a ≡ on_part (λ p. lookup_text p j path) b
  unfolding lookup_of
  by_lookups path e =
      on_part_lem a (λ p. lookup_of_part p i path) (λ f. Ok (node_line f [])) (λ p. lookup_text p i path) (λ p. lookup_view p i path)
      ∙ ap (λ (x : Answer InodeShown). x >>= λ f. Ok (node_line f [])) e
      ∙ sym (on_part_lem b (λ p. lookup_of_part p j path) (λ f. Ok (node_line f [])) (λ p. lookup_text p j path) (λ p. lookup_view p j path))

-- where two listings are equal, the calls answer alike
pub record CallsAlike (a b : List ℕ) (i j : Which) : Type 0 where
  pub lookups : (path : List ℕ) → on_part (λ p. lookup_text p i path) a ≡ on_part (λ p. lookup_text p j path) b
  pub reads : (c : List ℕ) (f : InodeShown) → chain_on (view_at a i) c ≡ here f → (off len : ℕ)
      → on_part (λ p. read_text p i f.id off len) a ≡ on_part (λ p. read_text p j f.id off len) b
  pub entries : (c : List ℕ) (f : InodeShown) → chain_on (view_at a i) c ≡ here f → (k : ℕ) → on_part (λ p. entry_text p i f.id k) a ≡ on_part (λ p. entry_text p j f.id k) b
  pub attributes : (c : List ℕ) (f : InodeShown) → chain_on (view_at a i) c ≡ here f → (k : ℕ)
      → on_part (λ p. attribute_text p i f.id k) a ≡ on_part (λ p. attribute_text p j f.id k) b
  pub directories : (c : List ℕ) (f : InodeShown) → chain_on (view_at a i) c ≡ here f → (k room : ℕ)
      → on_part (λ p. entries_text p i f.id k room) a ≡ on_part (λ p. entries_text p j f.id k room) b
  pub bytes : (c : List ℕ) (f : InodeShown) → chain_on (view_at a i) c ≡ here f → (k : ℕ) → on_part (λ p. xattr_bytes p i f.id k) a ≡ on_part (λ p. xattr_bytes p j f.id k) b
  pub links : (c : List ℕ) (f : InodeShown) → chain_on (view_at a i) c ≡ here f → on_part (λ p. link_text p i f.id) a ≡ on_part (λ p. link_text p j f.id) b

pub calls_alike : (a b : List ℕ) (i j : Which) (m n : ℕ) (t : List ℕ) → listing_of a i m ≡ Ok t → listing_of b j n ≡ Ok t → CallsAlike a b i j
calls_alike a b i j m n t p q =
    let s : SameVolumes (view_at a i) (view_at b j) = (third_demand.listings a b i j m n t t p q).0 refl in
    record {
      lookups = λ path. by_lookups a b i j path (third_demand.lookups a b i j m n t t p q refl path);
      reads = λ c f h off len. by_views a b i j _ (λ p n. read_text p n f.id off len) (λ p n. read_view p n f.id off len)
          (of_same c f (λ v. v.read f.id off len) (λ v w e l r. r off len) (view_at a i) (view_at b j) s h);
      entries = λ c f h k. by_views a b i j _ (λ p n. entry_text p n f.id k) (λ p n. entry_view p n f.id k)
          (of_same c f (λ v. v.entries f.id >>= λ es. Ok (entry_line_at (element_at k es))) (λ v w e l r. rw e) (view_at a i) (view_at b j) s h);
      attributes = λ c f h k. by_views a b i j _ (λ p n. attribute_text p n f.id k) (λ p n. attribute_view p n f.id k)
          (of_same c f (λ v. v.attributes f.id >>= λ l. attribute_line_at (element_at k l)) (λ v w e l r. rw l) (view_at a i) (view_at b j) s h);
      directories = λ c f h k room. by_views a b i j _ (λ p n. entries_text p n f.id k room) (λ p n. entries_view p n f.id k room)
          (of_same c f (λ v. v.entries f.id >>= λ es. fitting_some room (map (λ e. entry_line e []) (drop k es))) (λ v w e l r. rw e) (view_at a i) (view_at b j) s h);
      bytes = λ c f h k. by_views a b i j _ (λ p n. xattr_bytes p n f.id k) (λ p n. bytes_view p n f.id k)
          (of_same c f (λ v. v.attributes f.id >>= λ l. attribute_bytes_at (element_at k l)) (λ v w e l r. rw l) (view_at a i) (view_at b j) s h);
      links = λ c f h. by_views a b i j _ (λ p n. link_text p n f.id) (λ p n. link_view p n f.id) (link_same c f (view_at a i) (view_at b j) (knows a i) (knows b j) s h);
    }
