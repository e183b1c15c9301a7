-- How a feed goes on: what is written in the end, of the bytes that came and those that still come.
use Prim.Native.Nat.{ℕ, zero, suc, ◌+◌, ◌-◌, ◌≤◌, ◌<◌, min}
use mathlib.Core.Path.{◌≡◌, refl, sym, ◌∙◌}
use mathlib.Core.Bool.{Bool, true, false}
use mathlib.Core.List.{List, [], ◌∷◌, ◌++◌, append-nil, append_assoc}
use lib.ListN.{length, get_or, take, drop, replicate, drop_of_length-le}
use native.Mathlib.Nat.{zero-min, suc-min-suc}
use lib.Seq.{take_all, take-nil, drop-cons, length-take-le}
use native.Mathlib.Omega.{arith}
use native.Mathlib.Numerals.{add-one}
use Rattle.std.specs.Result.{is_err}
use Rattle.error.specs.Answer.{pick, Answer, Ok, Err}
use Rattle.error.specs.declared.Refusal.{Refusal}
use Rattle.error.proofs.Laws.{same, other}
use Rattle.byte_fields.specs.Part.{up_to_zero}
use Rattle.utf8.specs.Text.{piece_of, size_of}
use Rattle.utf8.proofs.Pieces.{size_pos, size_within}
use Rattle.text.specs.Output.{Output, output_of, puts}
use Rattle.text.proofs.Writing.{puts_append, puts_refused}
use Rattle.feed.specs.Fed.{written_as, shown_as, waiting, fed, begun, Room}
use Rattle.feed.specs.declared.window.Window.{Window}
use Rattle.feed.specs.declared.feed.Feed.{Feed}
use Rattle.feed.proofs.Windows.{written_front}

take_min : (n : ℕ) (l : List ℕ) → take (min n (length l)) l ≡ take n l
take_min zero l = rw zero-min
take_min (suc n) [] = take-nil (min (suc n) 0)
take_min (suc n) (x ∷ l) = rw (suc-min-suc, take_min n l)

pick_none : (d : Bool) → pick d [] (up_to_zero []) ≡ []
unfolding up_to_zero
pick_none true = refl
pick_none false = refl

pub begins : (marks : Bool) (room : ℕ) (p : Answer ℕ) (w : Window) (b xs : List ℕ) → waiting w ≡ [] → fed room (record { marks = marks; window = w; ended = false; position = p }) b xs ≡ begun marks room p b xs
unfolding fed begun
begins marks room p w b xs h = rw h

module _ (room : ℕ) (f : Feed) where
  -- after a zero byte nothing counts
  pub ended_any : (b xs ys : List ℕ) → f.ended ≡ true → fed room f b xs ≡ fed room f b ys
  unfolding fed
  ended_any b xs ys h = rw h

  -- nor after a refusal
  pub refused_any : (b xs ys : List ℕ) (e : Refusal) → f.position ≡ Err e → fed room f b xs ≡ fed room f b ys
  unfolding fed
  refused_any b xs ys e h = rw h (puts_refused room _ e ∙ sym (puts_refused room _ e))

  pub zero_ends : (x : ℕ) (b xs : List ℕ) → f.ended ≡ false → x ≡ 0 → fed room (record { marks = f.marks; window = f.window; ended = true; position = f.position }) b xs ≡ fed room f b (x ∷ xs)
  unfolding fed up_to_zero
  zero_ends x b xs h e =
      let k : [] ≡ up_to_zero (x ∷ xs) = same _ _ _ _ _ e refl in
      rw (h, ← k)

  -- a full window's first piece is written, and v is left
  module _ (b c : List ℕ) (v : Window) (q : Answer ℕ) (n : ℕ) (l : length f.window.bytes ≡ 4) (k : 4 ≤ f.window.len) (e : n ≡ size_of (piece_of f.window.bytes)) where
    pub piece_short : n ≤ 4
    piece_short = omega (arith, e, size_within f.window.bytes)

    pub room_made : output_of q c ≡ puts room (shown_as f.marks (piece_of f.window.bytes) f.window.bytes) (output_of f.position b) → waiting v ≡ drop n f.window.bytes → v.len ≡ 4 - n → Room room f b (record { marks = f.marks; window = v; ended = f.ended; position = q }) c
    unfolding fed
    room_made h g m =
        let w = f.window.bytes in
        let t : take f.window.len w ≡ w = take_all f.window.len w (omega arith) in
        record {
          short = omega (arith, e, size_pos w (omega arith));
          ends = refl;
          kept = λ xs. rw (g, h, e, ← puts_append, t, written_front f.marks w _ (omega arith));
        }

  appended : (x : ℕ) (c xs : List ℕ) (g : Feed) (v : Window) → g.ended ≡ false → (x ≡ 0 → ⊥) → waiting v ≡ waiting g.window ++ (x ∷ [])
      → fed room (record { marks = g.marks; window = v; ended = g.ended; position = g.position }) c xs ≡ fed room g c (x ∷ xs)
  unfolding fed up_to_zero
  appended x c xs g v h k e =
      let u : x ∷ up_to_zero xs ≡ up_to_zero (x ∷ xs) = other _ _ _ _ _ k refl in
      rw (h, ← u, e, append_assoc)

  pub byte_waits : (x : ℕ) (b c xs : List ℕ) (g : Feed) (v : Window) → Room room f b g c → f.ended ≡ false → (x ≡ 0 → ⊥) → waiting v ≡ waiting g.window ++ (x ∷ [])
      → fed room (record { marks = g.marks; window = v; ended = g.ended; position = g.position }) c xs ≡ fed room f b (x ∷ xs)
  byte_waits x b c xs g v r h k e = appended x c xs g v (r.ends ∙ h) k e ∙ r.kept (x ∷ xs)

  pub no_zeros : (n : ℕ) (b xs : List ℕ) → n ≡ 0 → fed room f b xs ≡ fed room f b (replicate n 0 ++ xs)
  no_zeros n b xs h = rw h

  pub zeros_end : (n : ℕ) (b c xs : List ℕ) (r : Feed) → (n ≡ 0 → ⊥) → ((ys : List ℕ) → fed room r c ys ≡ fed room f b (0 ∷ ys)) → fed room r c xs ≡ fed room f b (replicate n 0 ++ xs)
  unfolding fed up_to_zero
  zeros_end zero b c xs r h k = absurd (h refl)
  zeros_end (suc n) b c xs r h k =
      let u : [] ≡ up_to_zero (0 ∷ xs) = same 0 0 _ _ _ refl refl in
      let v : [] ≡ up_to_zero (0 ∷ (replicate n 0 ++ xs)) = same 0 0 _ _ _ refl refl in
      k xs ∙ rw (← u, ← v)

  pub finished : (b : List ℕ) (n : ℕ) (z : Output) → n ≡ min f.window.len (length f.window.bytes) → z ≡ puts room (written_as f.marks (take n f.window.bytes)) (output_of f.position b) → z ≡ fed room f b []
  unfolding fed up_to_zero
  finished b n z e h = h ∙ rw (e, take_min, pick_none, append-nil)

  pub count_is : (n : ℕ) → n ≡ min f.window.len (length f.window.bytes) → n ≡ length (take n f.window.bytes)
  count_is n e = sym (length-take-le n _ (omega arith))

-- what comes of the bytes from i on, and then of xs, is the whole, w
module _ (room : ℕ) (bytes : List ℕ) (i : ℕ) (g : Feed) (b xs : List ℕ) (w : Output) (inv : fed room g b (drop i bytes ++ xs) ≡ w) where
  pub all_came : length bytes ≤ i → fed room g b xs ≡ w
  all_came h = rw (drop_of_length-le bytes h) at inv

  pub none_count : g.ended ≡ true → fed room g b xs ≡ w
  none_count h = ended_any room g b _ _ h ∙ inv

  pub none_fit : is_err g.position ≡ true → fed room g b xs ≡ w
  none_fit h = of g.position refl
    where
      of : (p : Answer ℕ) → g.position ≡ p → fed room g b xs ≡ w
      of (Ok n) k = let z : ◌≡◌ {A = Bool} false true = (rw k at h) in absurd (let y : ◌≡◌ {A = ℕ} 0 1 = cc in omega arith)
      of (Err e) k = refused_any room g b _ _ e k ∙ inv

  pub byte_came : (r : Feed) (c : List ℕ) → i < length bytes → ((ys : List ℕ) → fed room r c ys ≡ fed room g b (get_or bytes i 0 ∷ ys)) → fed room r c (drop (i + 1) bytes ++ xs) ≡ w
  byte_came r c h k = rw add-one (k (drop (suc i) bytes ++ xs) ∙ (rw (drop-cons bytes i 0 h) at inv))
