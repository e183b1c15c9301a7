-- A read of a file out of its two passes.
use Prim.Native.Nat.{ℕ, ◌+◌, ◌-◌, ◌^◌, ◌≤◌, ◌<◌, min}
use mathlib.Core.Path.{◌≡◌, refl, sym, ap, ◌∙◌, fun_ext}
use mathlib.Core.List.{List, [], ◌∷◌, ◌++◌}
use mathlib.Core.Logic.{◌⊎◌, inl, inr}
use lib.ListN.{length, drop, take, replicate, length-replicate, length-take}
use native.Mathlib.Omega.{arith}
use borrow.Author.Rules.{rules}
use Rattle.error.specs.Answer.{Answer, Ok, Err}
use Rattle.error.specs.declared.Refusal.{Refusal}
use Rattle.error.specs.declared.Refusal.TheVariants.{Unsupported}
use Rattle.error.proofs.Laws.{at_most_lem, above, same, other}
use Rattle.lookup.specs.declared.counted.Counted.{Counted}
use Rattle.lookup.specs.Counted.{after, from, onto}
use Rattle.btree.specs.Scan.{scan_of}
use Rattle.btree.specs.declared.entries.Search.{Search}
use Rattle.cursor.specs.Left.{run_at}
use Rattle.volume.specs.declared.Volume.{Volume}
use Rattle.records.specs.Extent.{extent_at}
use Rattle.records.specs.declared.extent.Extent.{Extent}
use Rattle.inode_record.specs.declared.inode.Inode.{Inode}
use Rattle.lists.specs.Lists.{list_of, extents_of, search_of}
use Rattle.calls.specs.Filled.{Filled, answered}
use Rattle.calls.proofs.Filling.{filled_fits, filled_nothing}
use Rattle.extents.specs.Verdict.{Verdict, fine, ◌>>◌}
use Rattle.extents.specs.Extents.{Disk, disk_of, start, in_order, ascending, seek, since, decide}
use Rattle.files.specs.Read.{span, bytes, read_at}
use Rattle.files.specs.Inner.{lay, Ready, read_over, stop_of}
use Rattle.lists.specs.Inner.{readable}
use Rattle.extents.specs.Inner.{judge_of, judged_told, judged_of}
use Rattle.files.specs.File.{size_of, read_file, read_told}
use Rattle.inode_record.specs.Inode.{compressed}
use Rattle.extents.specs.declared.deciding.Judged.{Judged}
use Rattle.extents.proofs.Verdicts.{le_or_gt, passed, went, assoc}
use Rattle.extents.proofs.ExtentLaws.{seek_takes, seek_stays}
use Rattle.lists.proofs.Reading.{listed}
use Rattle.extents.proofs.JudgeTurns.{Decided, told_decided}
use Rattle.files.proofs.CopyLaws.{lay_start, lay_length}
use Rattle.files.proofs.CopyTurns.{lower}

-- ---- a read is the deciding pass, then the bytes

decide_none : (d : Disk) (off : ℕ) (es : List Extent) → decide d off 0 es ≡ fine
unfolding decide
decide_none d off [] = refl
decide_none d off (e ∷ es) = sym (at_most_lem _ _ _ _ _ (omega arith) refl)

bytes_none : (d : Disk) (es : List Extent) (off : ℕ) → bytes d es off 0 ≡ []
unfolding bytes span
bytes_none d es off = refl

module _ (d : Disk) (size off len n m : ℕ) (qn : n ≡ min len (size - off)) (qm : m ≡ stop_of size off n) where
  stop_past : size ≤ off → m ≡ 0
  stop_past h = qm ∙ sym (at_most_lem _ _ _ _ _ h refl)

  stop_sum : off < size → m ≡ off + n
  stop_sum h = qm ∙ sym (above _ _ _ _ _ h refl)

  read_judged : (es : List Extent) → read_at d size es off len ≡ (judge_of d off m es >> Ok (bytes d es off n))
  unfolding read_at judge_of
  read_judged es = go (le_or_gt size off)
    where
      go : (size ≤ off) ⊎ (off < size) → read_at d size es off len ≡ ((ascending es >> decide d off m (since off es)) >> Ok (bytes d es off n))
      go (inl h) =
          let z : n ≡ 0 = omega arith in
          rw (assoc (ascending es) (decide d off m (since off es)) (Ok (bytes d es off n)), stop_past h, decide_none d off (since off es), z, bytes_none d es off)
          (ap (λ (x : Answer (List ℕ)). ascending es >> x) (sym (at_most_lem _ _ _ _ _ h refl)))
      go (inr h) =
          rw (assoc (ascending es) (decide d off m (since off es)) (Ok (bytes d es off n)), stop_sum h, qn)
          (ap (λ (x : Answer (List ℕ)). ascending es >> x) (sym (above _ _ _ _ _ h refl)))

-- ---- a verdict over a counted list

module _ (c : Counted (List Extent)) (judge : List Extent → Verdict) (s : ℕ) (v : Verdict) (h : after s v ≡ (onto c λ es t. after t (judge es))) where
  list_refuses : (f : List Extent → Answer (List ℕ)) (e : Refusal) → v ≡ Err e → after s (Err e) ≡ (onto c λ es t. after t (judge es >> f es))
  list_refuses f e q = of c.nodes c.answer h
    where
      of : (t : ℕ) (a : Answer (List Extent)) → after s v ≡ (from t a λ es. after t (judge es)) → after s (Err e) ≡ (from t a λ es. after t (judge es >> f es))
      of t (Ok es) p =
          let y : judge es ≡ Err e = sym (ap (λ (x : Counted (Unit {0})). x.answer) p) ∙ q in
          let z : s ≡ t = ap (λ (x : Counted (Unit {0})). x.nodes) p in
          rw (y, z)
      of t (Err w) p =
          let y : v ≡ Err w = ap (λ (x : Counted (Unit {0})). x.answer) p in
          let u : e ≡ w = cc in
          let z : s ≡ t = ap (λ (x : Counted (Unit {0})). x.nodes) p in
          rw (u, z)

  list_passes : v ≡ fine → (es : List Extent) × ((c ≡ after s (Ok es)) × (judge es ≡ fine))
  list_passes q = of c.nodes c.answer h
    where
      of : (t : ℕ) (a : Answer (List Extent)) → after s v ≡ (from t a λ es. after t (judge es)) → (es : List Extent) × ((after t a ≡ after s (Ok es)) × (judge es ≡ fine))
      of t (Ok es) p =
          let y : judge es ≡ fine = sym (ap (λ (x : Counted (Unit {0})). x.answer) p) ∙ q in
          let z : t ≡ s = sym (ap (λ (x : Counted (Unit {0})). x.nodes) p) in
          (es, (rw z, y))
      of t (Err w) p =
          let y : v ≡ Err w = ap (λ (x : Counted (Unit {0})). x.answer) p in
          absurd (let z : ◌≡◌ {A = ℕ} 0 1 = cc in omega arith)

-- what is sought in an ascending list ascends
seek_rises : (off at : ℕ) (best es : List Extent) → ascending best ≡ fine → in_order start at es ≡ fine → ascending (seek off best es) ≡ fine
unfolding in_order seek
seek_rises off at best [] b c = b
seek_rises off at best (e ∷ es) b c = go (le_or_gt e.logical off) (seek_rises off e.logical (e ∷ es) es)
  where
    q : (at ≤ e.logical) × (in_order start e.logical es ≡ fine)
    q = passed _ _ _ _ _ c

    go : (e.logical ≤ off) ⊎ (off < e.logical) → (ascending (e ∷ es) ≡ fine → in_order start e.logical es ≡ fine → ascending (seek off (e ∷ es) es) ≡ fine) → ascending (seek off best (e ∷ es)) ≡ fine
    go (inl h) ih = rw (seek_takes off best e es h) (ih (lower at (e ∷ es) c) q.1)
    go (inr h) ih = rw (seek_stays off best e es h) b

-- ---- what the call says

module _ (c : Counted (List ℕ)) (s : ℕ) (out : List ℕ) where
  pub told_no : (e : Refusal) → after s (Err e) ≡ c → read_told (record { nodes = s; answer = Err e }) out ≡ answered c out
  told_no e h = rw (← h)

  pub told_none : after s (Ok []) ≡ c → read_told (record { nodes = s; answer = Ok 0 }) out ≡ answered c out
  told_none h = rw (← h) (ap (λ (f : Filled). record { nodes = s; result = f }) (filled_nothing out))

  pub told_bytes : (n : ℕ) (bs : List ℕ) → length bs ≡ n → n ≤ length out → after s (Ok bs) ≡ c → read_told (record { nodes = s; answer = Ok n }) (bs ++ drop n out) ≡ answered c out
  told_bytes n bs l k h = rw (← h, ← l) (ap (λ (f : Filled). record { nodes = s; result = f }) (filled_fits bs out (omega arith)))

-- ---- the two passes of a read

module _ (b : List ℕ) (q : Search) (size off len s n m : ℕ) (qn : n ≡ min len (size - off)) (qm : m ≡ stop_of size off n) (r : Judged) (w : Decided b q off m (scan_of b q s) r) where
  pub file_refused : (e : Refusal) → r.ruling ≡ Err e → after r.nodes (Err e) ≡ read_over b q size off len s
  unfolding read_over
  file_refused e h =
      list_refuses (list_of (extent_at q.keys.reader b) (scan_of b q s)) (judge_of (disk_of q.keys.reader b) off m) r.nodes r.ruling w.verdict (λ es. Ok (bytes (disk_of q.keys.reader b) es off n)) e (h)
      ∙ ap (λ (f : List Extent → Answer (List ℕ)). onto (list_of (extent_at q.keys.reader b) (scan_of b q s)) λ es t. after t (f es)) (fun_ext (λ es. sym (read_judged (disk_of q.keys.reader b) size off len n m qn qm es)))

  module _ (h : r.ruling ≡ fine) where
    all : (es : List Extent) × ((list_of (extent_at q.keys.reader b) (scan_of b q s) ≡ after r.nodes (Ok es)) × (judge_of (disk_of q.keys.reader b) off m es ≡ fine))
    all = list_passes (list_of (extent_at q.keys.reader b) (scan_of b q s)) (judge_of (disk_of q.keys.reader b) off m) r.nodes r.ruling w.verdict (h)

    -- the extents from the kept step on
    kept : readable (extent_at q.keys.reader b) (run_at b q r.kept r.from) ≡ since off all.0
    kept = w.near h ∙ rw (listed (extent_at q.keys.reader b) (scan_of b q s) all.0 (ap (λ (c : Counted (List Extent)). c.answer) all.1.0))

    judged : (ascending all.0 ≡ fine) × (decide (disk_of q.keys.reader b) off m (since off all.0) ≡ fine)
    unfolding judge_of
    judged = went _ _ _ all.1.1

    read : read_over b q size off len s ≡ after r.nodes (Ok (bytes (disk_of q.keys.reader b) all.0 off n))
    unfolding read_over
    read = rw (all.1.0, read_judged (disk_of q.keys.reader b) size off len n m qn qm all.0, all.1.1)

    pub file_ready : 0 < n → Ready (disk_of q.keys.reader b) off (off + n) (readable (extent_at q.keys.reader b) (run_at b q r.kept r.from))
    file_ready k =
        let z : m ≡ off + n = stop_sum (disk_of q.keys.reader b) size off len n m qn qm (omega arith) in
        rw kept (record { decided = ap (λ (x : ℕ). decide (disk_of q.keys.reader b) off x (since off all.0)) (sym z) ∙ judged.1; rising = seek_rises off 0 all.0 all.0 judged.0 judged.0 })

    pub file_none : n ≡ 0 → after r.nodes (Ok []) ≡ read_over b q size off len s
    file_none z =
        let e : bytes (disk_of q.keys.reader b) all.0 off n ≡ [] = ap (bytes (disk_of q.keys.reader b) all.0 off) z ∙ bytes_none (disk_of q.keys.reader b) all.0 off in
        rw (read, e)

    pub file_bytes_lem : (bs : List ℕ) → bs ≡ lay (disk_of q.keys.reader b) off (readable (extent_at q.keys.reader b) (run_at b q r.kept r.from)) (replicate n 0) → after r.nodes (Ok bs) ≡ read_over b q size off len s
    unfolding bytes
    file_bytes_lem bs e =
        let f : bs ≡ bytes (disk_of q.keys.reader b) all.0 off n = e ∙ rw kept (lay_start (disk_of q.keys.reader b) off (since off all.0) n) in
        rw (f, read)

pub part_length : (n k : ℕ) (out : List ℕ) → n ≡ min (length out) k → n ≡ length (take n out)
part_length n k out h = simp length-take (omega arith)

-- the same of the call: out is the buffer that it was lent
module _ (b : List ℕ) (q : Search) (size off s n m : ℕ) (out : List ℕ) (qn : n ≡ min (length out) (size - off)) (qm : m ≡ stop_of size off n) (r : Judged) (e : judged_told b q r ≡ judged_of b q off m (scan_of b q s)) where
  w : Decided b q off m (scan_of b q s) r
  w = told_decided b q off m (scan_of b q s) r e

  pub call_refused : (x : Refusal) → r.ruling ≡ Err x → read_told (record { nodes = r.nodes; answer = Err x }) out ≡ answered (read_over b q size off (length out) s) out
  call_refused x h = told_no _ r.nodes out x (file_refused b q size off (length out) s n m qn qm r w x h)

  pub call_none : r.ruling ≡ fine → n ≡ 0 → read_told (record { nodes = r.nodes; answer = Ok 0 }) out ≡ answered (read_over b q size off (length out) s) out
  call_none h z = told_none _ r.nodes out (file_none b q size off (length out) s n m qn qm r w h z)

  pub call_ready : r.ruling ≡ fine → (n ≡ 0 → ⊥) → size < 2 ^ 64
      → (off + length (take n out) < 2 ^ 64) × Ready (disk_of q.keys.reader b) off (off + length (take n out)) (readable (extent_at q.keys.reader b) (run_at b q r.kept r.from))
  call_ready h z k = rw (← part_length n (size - off) out qn) (omega arith, file_ready b q size off (length out) s n m qn qm r w h (omega arith))

  pub call_filled : r.ruling ≡ fine → (bs : List ℕ) → bs ≡ lay (disk_of q.keys.reader b) off (readable (extent_at q.keys.reader b) (run_at b q r.kept r.from)) (replicate (length (take n out)) 0)
      → read_told (record { nodes = r.nodes; answer = Ok n }) (bs ++ drop n out) ≡ answered (read_over b q size off (length out) s) out
  call_filled h bs l =
      let f : bs ≡ lay (disk_of q.keys.reader b) off (readable (extent_at q.keys.reader b) (run_at b q r.kept r.from)) (replicate n 0) = rw (← part_length n (size - off) out qn) at l in
      told_bytes _ r.nodes out n bs (rw f (lay_length (disk_of q.keys.reader b) off _ (replicate n 0) ∙ length-replicate n 0)) (omega arith) (file_bytes_lem b q size off (length out) s n m qn qm r w h bs f)

module _ (b : List ℕ) (v : Volume) (i : Inode) (off len s : ℕ) (out : List ℕ) where
  pub file_compressed : compressed i ≡ 1 → read_told (record { nodes = s; answer = Err Unsupported }) out ≡ answered (read_file b v i off len s) out
  unfolding read_file
  file_compressed h = told_no _ s out Unsupported (same _ _ _ _ _ h refl)

  pub file_read : (x : Counted ℕ) (last : List ℕ) (q : Search) (size : ℕ) → (compressed i ≡ 1 → ⊥) → q ≡ search_of v i.ids.private_id 8 → size ≡ size_of i
      → read_told x last ≡ answered (read_over b q size off len s) out → read_told x last ≡ answered (read_file b v i off len s) out
  unfolding read_file read_over extents_of
  file_read x last q size h e k w = (rw (e, k) at w) ∙ ap (λ (c : Counted (List ℕ)). answered c out) (other _ _ _ _ _ h refl)

pub ruleset calling = (rules, call_refused, call_none, call_filled)
