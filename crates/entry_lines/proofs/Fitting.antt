-- The loop over the entries writes the lines that fit.
use Prim.Native.Nat.{ℕ, suc, ◌+◌, ◌-◌, ◌/◌, ◌^◌, ◌≤◌, ◌<◌}
use mathlib.Core.Path.{◌≡◌, refl, sym, ap, ◌∙◌}
use mathlib.Core.List.{List, [], ◌∷◌, ◌++◌}
use mathlib.Core.Logic.{◌⊎◌, inl, inr}
use native.Mathlib.Nat.{add-zero}
use native.Mathlib.Omega.{arith}
use borrow.Author.Rules.{rules}
use lib.ListN.{length, drop, length-append}
use lib.Seq.{sets, drop-nil}
use Rattle.error.specs.Answer.{Answer, Ok, Err, if_le}
use Rattle.error.specs.declared.Refusal.{Refusal}
use Rattle.error.specs.declared.Refusal.TheVariants.{BufferTooShort}
use Rattle.error.proofs.Laws.{at_most_lem, above, le_cases}
use Rattle.text.specs.Output.{Output, at, refused, output_of, puts}
use Rattle.text.proofs.Whole.{whole, fits, full, written_next}
use Rattle.text.proofs.Writing.{puts_append}
use Rattle.obj.specs.declared.reader.Reader.{Reader}
use Rattle.btree.specs.declared.entries.Search.{Search}
use Rattle.cursor.specs.Left.{left, run_at, in_step, Begins}
use Rattle.cursor.specs.declared.steps.Step.{Step}
use Rattle.volume.specs.declared.Volume.{Volume}
use Rattle.volume.specs.Rule.{hashed_keys}
use Rattle.records.specs.Directory.{entry_at, entry_name}
use Rattle.records.specs.declared.directory.Entry.{Entry}
use Rattle.lists.specs.Lists.{search_of}
use Rattle.extents.proofs.Verdicts.{le_or_gt}
use Rattle.lists.specs.Inner.{readable}
use Rattle.lists.specs.declared.seen.Seen.{Seen}
use Rattle.lists.specs.declared.seen.Seen.TheVariants.{Over, Passed, Element, Refused}
use Rattle.lists.specs.Seen.{seen_in}
use Rattle.lists.proofs.Reading.{less_at, less_passed, readable_over, readable_no, readable_at, readable_passed}
use Rattle.lines.specs.Shown.{entry_shown}
use Rattle.lines.specs.Lines.{entry_line}
use Rattle.calls.specs.Filled.{Filled, filled, filled_at}
use Rattle.calls.proofs.Filling.{filled_fits}
use Rattle.entry_lines.specs.Entries.{lines_of, fitting}
use Rattle.entry_lines.specs.Inner.{line_at, filled_from}
use Rattle.entry_lines.proofs.Short.{line_short}

-- a text after n bytes, measured over l, which has no byte, and then written where it fits
module _ (room n : ℕ) (t b l : List ℕ) (r : Answer ℕ) (k : length l ≡ 0) (g : n ≤ room) (h : output_of r l ≡ puts room t (at [] n)) where
  from_short : (e : Refusal) → r ≡ Err e → filled_at (Err e) (l ++ b) ≡ filled_from room n t b
  unfolding filled_from
  from_short e q = of l k (le_or_gt (n + length t) room) (rw q at h)
    where
      of : (m : List ℕ) → length m ≡ 0 → (n + length t ≤ room) ⊎ (room < n + length t) → refused e ≡ puts room t (at [] n)
          → filled_at (Err e) (m ++ b) ≡ if_le (n + length t) room (record { answer = Ok (n + length t); buffer = sets b n t }) (record { answer = Err BufferTooShort; buffer = b })
      of (x ∷ m) z d i = absurd (omega arith)
      of [] z (inl d) i = absurd (let f = fits room t [] n d in let z : ◌≡◌ {A = ℕ} 0 1 = cc in omega arith)
      of [] z (inr d) i = let f = full room t [] n g d in let w : e ≡ BufferTooShort = cc in above _ _ _ _ _ d (rw w)

  from_written : (m : ℕ) (p : Answer ℕ) (x : List ℕ) → r ≡ Ok m → output_of p x ≡ puts room t (at (l ++ b) n) → filled_at p x ≡ filled_from room n t b
  unfolding filled_from
  from_written m p x q e = of l k (le_or_gt (n + length t) room) (rw q at h) p e
    where
      of : (y : List ℕ) → length y ≡ 0 → (n + length t ≤ room) ⊎ (room < n + length t) → at l m ≡ puts room t (at [] n) → (p : Answer ℕ) → output_of p x ≡ puts room t (at (y ++ b) n)
          → filled_at p x ≡ if_le (n + length t) room (record { answer = Ok (n + length t); buffer = sets b n t }) (record { answer = Err BufferTooShort; buffer = b })
      of (c ∷ y) z d i p j = absurd (omega arith)
      of [] z (inr d) i p j = absurd (let f = full room t [] n g d in let z : ◌≡◌ {A = ℕ} 0 1 = cc in omega arith)
      of [] z (inl d) i (Ok u) j =
          let f = fits room t b n d in
          let a : u ≡ n + length t = cc in
          let c : x ≡ sets b n t = cc in
          at_most_lem _ _ _ _ _ d (rw (a, c))
      of [] z (inl d) i (Err w) j = absurd (let f = fits room t b n d in let z : ◌≡◌ {A = ℕ} 0 1 = cc in omega arith)

-- what is written of an entry
module _ (rd : Reader) (image : List ℕ) (left : ℕ) (e : Entry) where
  line_here : left ≤ 0 → entry_line (entry_shown rd image e) [] ≡ line_at rd image left e
  unfolding line_at
  line_here h = at_most_lem _ _ _ _ _ h refl

  line_later : 0 < left → [] ≡ line_at rd image left e
  unfolding line_at
  line_later h = above _ _ _ _ _ h refl

  pub next_passed : (room n : ℕ) (b : List ℕ) → 0 < left → n ≤ room → filled_at (Ok n) b ≡ filled_from room n (line_at rd image left e) b
  unfolding filled_from
  next_passed room n b h g = rw (← line_later h) (at_most_lem _ _ _ _ _ (rw add-zero g) (rw add-zero))

  -- a line that is surely short enough
  pub next_direct : (room n : ℕ) (b name : List ℕ) (p : Answer ℕ) (x : List ℕ) → left ≤ 0 → e.file_id < 2 ^ 64 → e.date_added < 2 ^ 64 → e.kind < 2 ^ 64 →
      n ≤ room → 80 ≤ room - n → name ≡ entry_name rd image e → length name ≤ (room - n - 80) / 6 →
      output_of p x ≡ puts room (entry_line (entry_shown rd image e) []) (at b n) → filled_at p x ≡ filled_from room n (line_at rd image left e) b
  unfolding filled_from
  next_direct room n b name p x h i d k g l a s w =
      let t = line_short rd image e i d k in
      let q : length (entry_name rd image e) ≤ (room - n - 80) / 6 = rw a at s in
      let f : n + length (entry_line (entry_shown rd image e) []) ≤ room = omega arith in
      rw (← line_here h) (at_most_lem _ _ _ _ _ f (of p (w ∙ fits room (entry_line (entry_shown rd image e) []) b n f)))
    where
      of : (p : Answer ℕ) → output_of p x ≡ at (sets b n (entry_line (entry_shown rd image e) [])) (n + length (entry_line (entry_shown rd image e) [])) →
          filled_at p x ≡ record { answer = Ok (n + length (entry_line (entry_shown rd image e) [])); buffer = sets b n (entry_line (entry_shown rd image e) []) }
      of (Ok u) j =
          let a : u ≡ n + length (entry_line (entry_shown rd image e) []) = cc in
          let c : x ≡ sets b n (entry_line (entry_shown rd image e) []) = cc in
          rw (a, c)
      of (Err y) j = absurd (let z : ◌≡◌ {A = ℕ} 0 1 = cc in omega arith)

  module _ (room n : ℕ) (b l : List ℕ) (r : Answer ℕ) (h : left ≤ 0) (k : length l ≡ 0) (g : n ≤ room) (m : output_of r l ≡ puts room (entry_line (entry_shown rd image e) []) (at [] n)) where
    pub next_short : (w : Refusal) → r ≡ Err w → filled_at (Err w) (l ++ b) ≡ filled_from room n (line_at rd image left e) b
    next_short w q = rw (← line_here h) (from_short room n (entry_line (entry_shown rd image e) []) b l r k g m w q)

    pub next_written : (u : ℕ) (p : Answer ℕ) (x : List ℕ) → r ≡ Ok u → output_of p x ≡ puts room (entry_line (entry_shown rd image e) []) (at (l ++ b) n) → filled_at p x ≡ filled_from room n (line_at rd image left e) b
    next_written u p x q i = rw (← line_here h) (from_written room n (entry_line (entry_shown rd image e) []) b l r k g m u p x q i)

-- what such an answer says
module _ (room n : ℕ) (t b x : List ℕ) where
  from_got : (m : ℕ) → filled_at (Ok m) x ≡ filled_from room n t b → (n + length t ≤ room) × ((m ≡ n + length t) × (x ≡ sets b n t))
  unfolding filled_from
  from_got m =
      le_cases (λ (z : Filled). filled_at (Ok m) x ≡ z → (n + length t ≤ room) × ((m ≡ n + length t) × (x ≡ sets b n t)))
      (λ h e. let a : ◌≡◌ {A = Answer ℕ} (Ok m) (Ok (n + length t)) = ap (λ (f : Filled). f.answer) e in (h, (cc, ap (λ (f : Filled). f.buffer) e)))
      (λ h e. let a : ◌≡◌ {A = Answer ℕ} (Ok m) (Err BufferTooShort) = ap (λ (f : Filled). f.answer) e in absurd (let z : ◌≡◌ {A = ℕ} 0 1 = cc in omega arith))

  from_no : (w : Refusal) → filled_at (Err w) x ≡ filled_from room n t b → (room < n + length t) × (x ≡ b)
  unfolding filled_from
  from_no w =
      le_cases (λ (z : Filled). filled_at (Err w) x ≡ z → (room < n + length t) × (x ≡ b))
      (λ h e. let a : ◌≡◌ {A = Answer ℕ} (Err w) (Ok (n + length t)) = ap (λ (f : Filled). f.answer) e in absurd (let z : ◌≡◌ {A = ℕ} 0 1 = cc in omega arith))
      (λ h e. (h, ap (λ (f : Filled). f.buffer) e))

-- the lines that fit, of the entries es of which `left` are to be passed, after n bytes of b
unfoldable pub writes : Reader → List ℕ → ℕ → ℕ → ℕ → List Entry → List ℕ → Output
writes rd image room n left es b = puts room (fitting (room - n) (lines_of rd image (drop left es))) (at b n)

module _ (rd : Reader) (image : List ℕ) (room n : ℕ) (b : List ℕ) where
  writes_none : (left : ℕ) → writes rd image room n left [] b ≡ at b n
  unfolding writes fitting puts
  writes_none left = rw drop-nil

  writes_pass : (left : ℕ) (e : Entry) (es : List Entry) → 0 < left → writes rd image room n left (e ∷ es) b ≡ writes rd image room n (left - 1) es b
  unfolding writes
  writes_pass left e es h = let q : left ≡ suc (left - 1) = omega arith in of (left - 1) q
    where
      of : (k : ℕ) → left ≡ suc k → puts room (fitting (room - n) (lines_of rd image (drop left (e ∷ es)))) (at b n) ≡ puts room (fitting (room - n) (lines_of rd image (drop k es))) (at b n)
      of k i = rw i

  module _ (e : Entry) (es : List Entry) where
    abbrev line : List ℕ
    line = entry_line (entry_shown rd image e) []

    writes_stop : room < n + length line → n ≤ room → writes rd image room n 0 (e ∷ es) b ≡ at b n
    unfolding writes fitting puts
    writes_stop h g = ap (λ (t : List ℕ). puts room t (at b n)) (sym (above (length line) (room - n) _ _ _ (omega arith) refl))

    writes_line : n + length line ≤ room → writes rd image room n 0 (e ∷ es) b ≡ writes rd image room (n + length line) 0 es (sets b n line)
    unfolding writes fitting
    writes_line h =
        let q : room - n - length line ≡ room - (n + length line) = omega arith in
        ap (λ (t : List ℕ). puts room t (at b n)) (sym (at_most_lem (length line) (room - n) _ _ _ (omega arith) refl))
        ∙ puts_append room line (fitting (room - n - length line) (lines_of rd image es)) (at b n)
        ∙ rw (fits room line b n h, q)

-- the turns of the loop
module _ (rd : Reader) (image : List ℕ) (room : ℕ) (q : Search) (s : Step) (i : ℕ) where
  pub lines_start : (place : ℕ) (b : List ℕ) → writes rd image room 0 place (readable (entry_at q.keys.hashed q.keys.reader image) (run_at image q s i)) b ≡ puts room (fitting room (lines_of rd image (drop place (readable (entry_at q.keys.hashed q.keys.reader image) (run_at image q s i))))) (at b 0)
  unfolding writes
  lines_start place b = let z : room - 0 ≡ room = omega arith in rw z

  module _ (n left' : ℕ) (b : List ℕ) (w : Output) (inv : writes rd image room n left' (readable (entry_at q.keys.hashed q.keys.reader image) (run_at image q s i)) b ≡ w) (r : Seen Entry)
      (l : r ≡ seen_in (entry_at q.keys.hashed q.keys.reader image) (in_step image q s.reached i)) where
    none_left_lem : readable (entry_at q.keys.hashed q.keys.reader image) (run_at image q s i) ≡ [] → at b n ≡ w
    none_left_lem e = sym (writes_none rd image room n b left') ∙ ap (λ (es : List Entry). writes rd image room n left' es b) (sym e) ∙ inv

    pub lines_over : r ≡ Over → at b n ≡ w
    lines_over e = none_left_lem (readable_over (entry_at q.keys.hashed q.keys.reader image) image q s i r l e)

    pub lines_no : (z : Refusal) → r ≡ Refused z → at b n ≡ w
    lines_no z e = none_left_lem (readable_no (entry_at q.keys.hashed q.keys.reader image) image q s i r l z e)

    pub lines_passed : (t : Step) → r ≡ Passed → Begins image q t (left image q s.path s.level s.nodes) → writes rd image room n left' (readable (entry_at q.keys.hashed q.keys.reader image) (run_at image q t t.from)) b ≡ w
    lines_passed t e h = rw (readable_passed (entry_at q.keys.hashed q.keys.reader image) image q s i r l t e h) inv

    module _ (e : Entry) (a : ℕ) (h : r ≡ Element e a) where
      abbrev es : List Entry
      es = readable (entry_at q.keys.hashed q.keys.reader image) (run_at image q s a)

      onward : writes rd image room n left' (e ∷ es) b ≡ w
      onward = ap (λ (x : List Entry). writes rd image room n left' x b) (sym (readable_at (entry_at q.keys.hashed q.keys.reader image) image q s i r l e a h)) ∙ inv

      module _ (g : n ≤ room) (x : List ℕ) (p : Answer ℕ) (f : filled_at p x ≡ filled_from room n (line_at rd image left' e) b) where
        pub lines_within : (m : ℕ) → p ≡ Ok m → m ≤ room
        lines_within m d = let y = from_got room n (line_at rd image left' e) b x m (ap (λ (u : Answer ℕ). filled_at u x) (sym d) ∙ f) in omega arith

        pub lines_next : (m k : ℕ) → p ≡ Ok m → k ≡ left' - 1 → writes rd image room m k (readable (entry_at q.keys.hashed q.keys.reader image) (run_at image q s a)) x ≡ w
        lines_next m k d i = of (le_or_gt left' 0) (from_got room n (line_at rd image left' e) b x m (ap (λ (u : Answer ℕ). filled_at u x) (sym d) ∙ f))
          where
            of : (left' ≤ 0) ⊎ (0 < left') → (n + length (line_at rd image left' e) ≤ room) × ((m ≡ n + length (line_at rd image left' e)) × (x ≡ sets b n (line_at rd image left' e)))
                → writes rd image room m k es x ≡ w
            of (inl d) y =
                let z : left' ≡ 0 = omega arith in
                let y' = rw (← line_here rd image left' e d) at y in
                rw (y'.1.0, y'.1.1, i, z) (sym (writes_line rd image room n b e es y'.0) ∙ (rw z at onward))
            of (inr d) y =
                let y' = rw (← line_later rd image left' e d) at y in
                let a : m ≡ n = omega arith in
                rw (a, y'.1.1, i) (sym (writes_pass rd image room n b left' e es d) ∙ onward)

        pub lines_full : (v : Refusal) → p ≡ Err v → at x n ≡ w
        lines_full v d = of (le_or_gt left' 0) (from_no room n (line_at rd image left' e) b x v (ap (λ (u : Answer ℕ). filled_at u x) (sym d) ∙ f))
          where
            of : (left' ≤ 0) ⊎ (0 < left') → (room < n + length (line_at rd image left' e)) × (x ≡ b) → at x n ≡ w
            of (inl d) y =
                let z : left' ≡ 0 = omega arith in
                let y' = rw (← line_here rd image left' e d) at y in
                rw y.1 (sym (writes_stop rd image room n b e es y'.0 g) ∙ (rw z at onward))
            of (inr d) y = let y' = rw (← line_later rd image left' e d) at y in absurd (omega arith)

pub lines_done : (image : List ℕ) (v : Volume) (id place room : ℕ) (q : Search) (s : Step) (b : List ℕ) (z : Output) → q ≡ search_of v id 9
    → z ≡ puts room (fitting room (lines_of v.reader image (drop place (readable (entry_at q.keys.hashed q.keys.reader image) (run_at image q s s.from))))) (at b 0)
    → z ≡ puts room (fitting room (lines_of v.reader image (drop place (readable (entry_at (hashed_keys v) v.reader image) (run_at image (search_of v id 9) s s.from))))) (at b 0)
lines_done image v id place room q s b z e h = rw e at h

-- the lines that fit lie within the room
fitting_within : (room : ℕ) (ts : List (List ℕ)) → length (fitting room ts) ≤ room
unfolding fitting
fitting_within room [] = omega arith
fitting_within room (t ∷ ts) =
    le_cases (λ (z : List ℕ). length z ≤ room) (λ h. simp length-append (omega (arith, fitting_within (room - length t) ts))) (λ h. omega arith)

pub fitting_written : (ts : List (List ℕ)) (b l x : List ℕ) (n : ℕ) → length l ≡ 0 → at x n ≡ puts (length b) (fitting (length b) ts) (at (l ++ b) 0)
    → filled_at (Ok n) x ≡ filled (fitting (length b) ts) b
unfolding whole
fitting_written ts b l x n k e =
    let t = fitting (length b) ts in
    let d : length t ≤ length b = fitting_within (length b) ts in
    let w : at x n ≡ at (t ++ drop (length t) b) (length t) = written_next t b l (at x n) k e ∙ sym (at_most_lem _ _ _ _ _ d refl) in
    let a : n ≡ length t = cc in
    let c : x ≡ t ++ drop (length t) b = cc in
    rw (a, c) (filled_fits t b d)

pub ruleset passes = (rules, next_passed, next_direct, next_short, next_written)

pub ruleset walks = (rules, less_at, less_passed, lines_start, lines_over, lines_no, lines_passed, lines_full, lines_within, lines_done)
