-- What `apfs_mark` hands out and `apfs_marked` makes of it: the statement stands in specs/Marked.antt.
use Prim.Native.Nat.{ℕ, ◌≤◌}
use mathlib.Core.Path.{◌≡◌, refl, sym, ap, ◌∙◌}
use mathlib.Core.List.{List, [], ◌++◌}
use native.Mathlib.Omega.{arith}
use lib.ListN.{length, drop}
use Rattle.error.specs.Answer.{Answer, Ok, Err, ◌>>=◌}
use Rattle.error.specs.declared.Refusal.TheVariants.{Io}
use Rattle.error.proofs.Laws.{at_most_lem}
use Rattle.byte_fields.specs.Part.{part_of}
use Rattle.byte_fields.specs.declared.Span.{Span}
use Rattle.gpt.specs.Part.{part_of_image, on_part}
use Rattle.calls.specs.Filled.{Filled, filled, filled_by}
use Rattle.marks.specs.Mark.{mark_bytes}
use Rattle.marks.specs.Texts.{mark_text, marked_text}
use Rattle.marks.proofs.Kept.{mark_length}
use Rattle.marks.proofs.Leads.{leads}
use Rattle.marks.proofs.Refuses.{refuses}
use Rattle.results.specs.Call.{number, result_of, buffer_of}
use Rattle.apfs.specs.Opened.{Refused}
use Rattle.apfs.specs.Marked.{Wrote, Gives, ApfsBookmarks}

-- a call whose part is known
module _ (image : List ℕ) (x : Span) (f : List ℕ → Answer (List ℕ)) (b : List ℕ) (h : part_of_image image ≡ Ok x) where
  on : (a : Answer (List ℕ)) → f (part_of image x) ≡ a → on_part f image ≡ a
  on a e = ap (λ (y : Answer Span). y >>= λ s. f (part_of image s)) h ∙ e

  wrote : (t : List ℕ) → f (part_of image x) ≡ Ok t → length t ≤ length b → Wrote (result_of (on_part f image) b) (buffer_of (on_part f image) b) t b
  unfolding filled
  wrote t e l =
      let q : filled_by (on_part f image) b ≡ record { answer = Ok (length t); buffer = t ++ drop (length t) b } = ap (λ (a : Answer (List ℕ)). filled_by a b) (on (Ok t) e) ∙ sym (at_most_lem _ _ _ _ _ l refl) in
      (ap (λ (y : Filled). number y.answer) q, ap (λ (y : Filled). y.buffer) q)

  refused : f (part_of image x) ≡ Err Io → Refused b (result_of (on_part f image) b) (buffer_of (on_part f image) b) 1
  refused e =
      let q : filled_by (on_part f image) b ≡ record { answer = Err Io; buffer = b } = ap (λ (a : Answer (List ℕ)). filled_by a b) (on (Err Io) e) in
      (ap (λ (y : Filled). number y.answer) q, ap (λ (y : Filled). y.buffer) q)

pub apfs_bookmarks : ApfsBookmarks
apfs_bookmarks = record {
  handed_out = λ image x w id kind place v p b g l.
      wrote image x (λ y. mark_text y w id kind place) b g.part _ (leads.held (part_of image x) w id kind place g.nodes v p g.opened g.scanned).handed_out (rw (mark_length p) l);
  long = mark_length;
  handed_back = λ image x w id kind place v p b g l.
      wrote image x (λ y. marked_text w.checkpoint y (mark_bytes p)) b g.part _ (leads.held (part_of image x) w id kind place g.nodes v p g.opened g.scanned).handed_back l;
  one = λ image x choice c m b h o p. refused image x (λ y. marked_text choice y m) b h (refuses.one choice (part_of image x) m c o p);
  nothing_else = λ image x choice c m b h o p l. wrote image x (λ y. marked_text choice y m) b h _ (refuses.nothing_else choice (part_of image x) m c o p) l;
}
