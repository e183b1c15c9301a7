-- What `apfs_open` and `apfs_open_at` give: proof of what specs/Opened.antt says.
use Prim.Native.Nat.{ℕ, ◌^◌, ◌≤◌, ◌<◌}
use mathlib.Core.Path.{◌≡◌, refl, sym, subst}
use mathlib.Core.Logic.{◌⊎◌, inl, inr, ⊎_elim}
use mathlib.Core.List.{List, [], ◌++◌}
use lib.IntN.{pos}
use lib.ListN.{length, drop}
use Rattle.error.specs.Answer.{Answer, Ok, Err}
use Rattle.error.specs.declared.Refusal.TheVariants.{Unsupported}
use Rattle.error.proofs.Laws.{le_cases, eq_cases}
use Rattle.byte_fields.specs.Part.{part_of}
use Rattle.gpt.proofs.Part.{whole, inside_small, part_self}
use Rattle.lookup.specs.declared.counted.Counted.{Counted}
use Rattle.lookup.specs.Counted.{after, from, onto}
use Rattle.lookup.specs.declared.map.Map.{Map}
use Rattle.omap.specs.Load.{map_at}
use Rattle.checkpoints.specs.declared.by_number.Choice.TheVariants as choice
use Rattle.nx.specs.declared.container.Container.{Container}
use Rattle.nx.specs.LatestCheckpoint.{block_zero, BlockZeroRead, opened_as, Opens, at_latest_lem, no_candidate}
use Rattle.nx.specs.Numbers.{OpensBy, at_number_lem, no_number}
use Rattle.nx.proofs.LatestCheckpoint.{latest_checkpoint}
use Rattle.nx.proofs.Numbers.{numbered_checkpoints}
use Rattle.calls.specs.Filled.{Filled, filled}
use Rattle.container_line.specs.Container.{container_head, container_text, open_counted, open_text}
use Rattle.results.specs.Call.{number, result_of, buffer_of}
use Rattle.apfs.specs.Opened as said
use Rattle.apfs.specs.Opened.{superblock, object_map, line, Refused, Taking, at_latest, at_number, Gives, ApfsOpened}

-- a text that is written, or too long
text_given : (t out : List ℕ) →
    ((length t ≤ length out) × (number (filled t out).answer ≡ pos (length t)) × ((filled t out).buffer ≡ t ++ drop (length t) out))
    ⊎ ((length out < length t) × Refused out (number (filled t out).answer) (filled t out).buffer 6)
unfolding filled
text_given t out =
    le_cases (λ (f : Filled). ((length t ≤ length out) × (number f.answer ≡ pos (length t)) × (f.buffer ≡ t ++ drop (length t) out)) ⊎ ((length out < length t) × Refused out (number f.answer) f.buffer 6))
    (λ h. inl (h, refl, refl)) (λ h. inr (h, (refl, refl)))

module _ (image out : List ℕ) (t : Taking) where
  abbrev GivenBy : Answer (List ℕ) → Type 0
  GivenBy a = Gives image out t (result_of a out) (buffer_of a out)

  -- the text of an opening
  abbrev text_of : Counted Container → Answer (List ℕ)
  text_of x = (onto x λ c s. after s (Ok (container_text image c []))).answer

  module _ (i : ℕ) (l : t.Taken i) where
    abbrev container : Map → Container
    container m = record { reader = (block_zero image).reader; sb = superblock image i; map = m }

    the_line : (m : Map) → container_text image (container m) [] ≡ line image i
    unfolding container_text container_head
    the_line m = refl

    shown : (said.Unsupported image i → ⊥) → (m : Map) → object_map image i ≡ Ok m → GivenBy (Ok (line image i))
    shown u m e =
        ⊎_elim (λ w. said.written i l u m e w.0 w.1 w.2) (λ s. said.too_short i l u m e s.0 s.1) (text_given (line image i) out)

    loaded : (said.Unsupported image i → ⊥) → (n : ℕ) (a : Answer Map) → object_map image i ≡ a → GivenBy (text_of (from n a λ m. after n (Ok (container m))))
    loaded u n (Ok m) e = rw (the_line m) (shown u m e)
    loaded u n (Err w) e = said.no_map i l u w e (refl, refl)

    given : GivenBy (text_of (opened_as image (block_zero image) (superblock image i)))
    unfolding opened_as
    given =
        eq_cases (λ (x : Counted Container). GivenBy (text_of x)) (λ h. said.unsupported i l (inl h) (refl, refl))
        (λ h. eq_cases (λ (x : Counted Container). GivenBy (text_of x)) (λ k. said.unsupported i l (inr k) (refl, refl))
        (λ k. loaded (⊎_elim h k) (map_at (block_zero image).reader image (superblock image i).omap_oid (superblock image i).xid 0).nodes (object_map image i) refl))

-- at the latest checkpoint, and at that of a number
module _ (image out : List ℕ) where
  opened : Opens image (block_zero image) → GivenBy image out (at_latest image) (open_text choice.Latest image)
  unfolding open_counted
  opened (at_latest_lem i l e) = subst (λ (x : Counted Container). GivenBy image out (at_latest image) (text_of image out (at_latest image) x)) (sym e) (given image out (at_latest image) i l)
  opened (no_candidate n e) = rw (e, open_text) (said.no_candidate n (refl, refl))

  opened_by : (x : ℕ) → OpensBy image (block_zero image) x → GivenBy image out (at_number image x) (open_text (choice.Number x) image)
  unfolding open_counted
  opened_by x (at_number_lem i n l e) = subst (λ (y : Counted Container). GivenBy image out (at_number image x) (text_of image out (at_number image x) y)) (sym e) (given image out (at_number image x) i (n, l))
  opened_by x (no_number n e) = rw (e, open_text) (said.no_candidate n (refl, refl))

  module _ (h : length image ≤ 2 ^ 34) (r : BlockZeroRead image) where
    at_checkpoint : GivenBy image out (at_latest image) (open_text choice.Latest image)
    at_checkpoint = opened (latest_checkpoint.opening image h ((latest_checkpoint.reading image).1 r))

    by_number : (x : ℕ) → GivenBy image out (at_number image x) (open_text (choice.Number x) image)
    by_number x = opened_by x (numbered_checkpoints.opening image h ((latest_checkpoint.reading image).1 r) x)

pub apfs_opened : ApfsOpened
apfs_opened = record {
  call = λ image out s e r. rw e (at_checkpoint (part_of image s) out (inside_small image s e) r);
  call_at = λ image out x s e r. rw e (by_number (part_of image s) out (inside_small image s e) r x);
  call_whole = λ image out h r. rw (whole image h r.first_bytes r.magic, part_self image) (at_checkpoint image out h r);
  call_whole_at = λ image out x h r. rw (whole image h r.first_bytes r.magic, part_self image) (by_number image out h r x);
  no_part = λ image out c e h. rw h (refl, refl);
}
