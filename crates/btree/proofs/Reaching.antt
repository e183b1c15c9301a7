-- The next turn of an index node: a child that was gone into, or how the node was passed.
use Prim.Native.Nat.{ℕ, ◌+◌, ◌-◌, ◌≤◌, ◌<◌}
use mathlib.Core.Path.{◌≡◌, refl, sym, ap, ◌∙◌}
use mathlib.Core.Bool.{true}
use mathlib.Core.List.{List}
use native.Mathlib.Omega.{arith}
use borrow.Author.Rules.{rules}
use Rattle.error.specs.Answer.{Answer, Ok, Err}
use Rattle.error.specs.declared.Refusal.{Refusal}
use Rattle.node.specs.declared.layout.Node.{Node}
use Rattle.node.specs.declared.layout.Info.{Info}
use Rattle.node.specs.Entry.{child_at}
use Rattle.lookup.specs.Path.{Through, at_once, by, on, and_then, counted}
use Rattle.lookup.specs.declared.counted.Counted.{Counted}
use Rattle.lookup.specs.Counted.{after}
use Rattle.lookup.specs.Read.{node_at}
use Rattle.lookup.specs.Map.{resolve}
use Rattle.lookup.proofs.Theorems.{read_block}
use Rattle.btree.specs.Entries.{bytes_of, Act, into, into_told, entering_told, child_node, enter_at}
use Rattle.btree.specs.Scan.{Run, Tail}
use Rattle.btree.specs.Inner.{act, acting, each, seek_in, seek_at, seek_then, turn_of, turn_then, Reaches, kinded, stays_at}
use Rattle.btree.specs.declared.entries.Search.{Search}
use Rattle.btree.specs.declared.seek.Seek.{Seek}
use Rattle.btree.specs.declared.seek.Seek.TheVariants as seek
use Rattle.btree.specs.declared.seek.Turn.{Turn}
use Rattle.btree.specs.declared.seek.Turn.TheVariants as turn
use Rattle.btree.specs.declared.seek.Turned.{Turned}
use Rattle.btree.proofs.Higher.{seek_up}
use Rattle.btree.proofs.Seeking.{each_seek, seek_bound}

-- a child that was gone into was read from its block
module _ (b : List ℕ) (q : Search) (c : Node) where
  read_known : (p : ℕ) (x : Answer Node) → node_at q.keys.reader b p ≡ x → (on x λ d. by p (at_once (Ok (into d)))).answer ≡ Ok (into c) → node_at q.keys.reader b c.block ≡ Ok c
  read_known p (Ok d) g h =
      let k : d ≡ c = cc in
      let l : c.block ≡ p = ap (λ (n : Node). n.block) (sym k) ∙ read_block q.keys.reader b p d g in
      ap (node_at q.keys.reader b) l ∙ (g ∙ ap Ok k)
  read_known p (Err w) g h = absurd (let z : ◌≡◌ {A = ℕ} 0 1 = cc in omega arith)

  named_known : (a : Answer ℕ) → (on a λ p. on (node_at q.keys.reader b p) λ d. by p (at_once (Ok (into d)))).answer ≡ Ok (into c) → node_at q.keys.reader b c.block ≡ Ok c
  named_known (Ok p) h = read_known p (node_at q.keys.reader b p) refl h
  named_known (Err w) h = absurd (let z : ◌≡◌ {A = ℕ} 0 1 = cc in omega arith)

  pub child_known : (a : Answer ℕ) → (on a (child_node b q)).answer ≡ Ok (into c) → node_at q.keys.reader b c.block ≡ Ok c
  unfolding child_node and_then
  child_known (Ok x) h = named_known (resolve q.keys.reader b q.resolve x).answer h
  child_known (Err w) h = absurd (let z : ◌≡◌ {A = ℕ} 0 1 = cc in omega arith)

  enter_known : (m : Node) (i s : ℕ) (e : Counted Node) → entering_told e ≡ counted s (enter_at b q m i) → turn_of e.answer ≡ turn.Into c → node_at q.keys.reader b c.block ≡ Ok c
  unfolding enter_at counted
  enter_known m i s e t h = child_known (child_at (bytes_of b q m) m q.keys.info i) (sym (ap (λ (x : Counted Act). x.answer) t) ∙ of e.answer h)
    where
      of : (x : Answer Node) → turn_of x ≡ turn.Into c → into_told x ≡ Ok (into c)
      of (Ok d) g = let k : d ≡ c = cc in ap (λ (n : Node). Ok (into n)) k
      of (Err w) g = absurd (let z : ◌≡◌ {A = ℕ} 0 1 = cc in omega arith)

pub sought_low : (b : List ℕ) (q : Search) (m : Node) (i j : ℕ) (z : Seek) → z ≡ seek_at b q m i → z ≡ seek.At j → j < m.nkeys
sought_low b q m i j z t e = (seek_bound (bytes_of b q m) m q.keys.info q.keys.id q.keys.kind i j (sym t ∙ e)).1

module _ (b : List ℕ) (q : Search) (m : Node) (i s : ℕ) (z : Seek) (t : z ≡ seek_at b q m i) (r : Turned) where
  came : (x : Seek) (f : Node → Tail → Tail) (k : Tail) → z ≡ x → seek_then f b q m x k s ≡ each f b q m (m.nkeys - i) i k s
  came x f k e = (rw (← e, t)) ∙ sym (each_seek f b q m k s i)

  pub reach_over : z ≡ seek.Over → r ≡ record { turn = turn.Over; next = i; nodes = s } → Reaches b q m i s r
  reach_over e h = record {
    course = λ f k. rw h (came seek.Over f k e);
    behind = λ c g. absurd (let y : ◌≡◌ {A = ℕ} 0 1 = cc in omega arith);
    known = λ c g. absurd (let y : ◌≡◌ {A = ℕ} 0 1 = cc in omega arith);
    higher = λ c g. absurd (let y : ◌≡◌ {A = ℕ} 0 1 = cc in omega arith);
  }

  pub reach_stop : z ≡ seek.Stop → r ≡ record { turn = turn.Stop; next = i; nodes = s } → Reaches b q m i s r
  reach_stop e h = record {
    course = λ f k. rw h (came seek.Stop f k e);
    behind = λ c g. absurd (let y : ◌≡◌ {A = ℕ} 0 1 = cc in omega arith);
    known = λ c g. absurd (let y : ◌≡◌ {A = ℕ} 0 1 = cc in omega arith);
    higher = λ c g. absurd (let y : ◌≡◌ {A = ℕ} 0 1 = cc in omega arith);
  }

  pub reach_no : (w : Refusal) → z ≡ seek.No w → r ≡ record { turn = turn.No w; next = i; nodes = s } → Reaches b q m i s r
  reach_no w e h = record {
    course = λ f k. rw h (came (seek.No w) f k e);
    behind = λ c g. absurd (let y : ◌≡◌ {A = ℕ} 0 1 = cc in omega arith);
    known = λ c g. absurd (let y : ◌≡◌ {A = ℕ} 0 1 = cc in omega arith);
    higher = λ c g. absurd (let y : ◌≡◌ {A = ℕ} 0 1 = cc in omega arith);
  }

  module _ (j : ℕ) (e : z ≡ seek.At j) where
    pub reach_into : (d : Counted Node) → entering_told d ≡ counted s (enter_at b q m j) → r ≡ record { turn = turn_of d.answer; next = j + 1; nodes = d.nodes } → Reaches b q m i s r
    unfolding act enter_at child_node
    reach_into d g h = record {
      course = λ f k. (rw h (of f k d.answer)) ∙ (ap (λ (x : Counted Act). act f x (each f b q m (m.nkeys - (j + 1)) (j + 1) k)) g ∙ came (seek.At j) f k e);
      behind = λ c n. let low = seek_bound (bytes_of b q m) m q.keys.info q.keys.id q.keys.kind i j (sym t ∙ e) in rw h (omega (arith, low), omega (arith, low));
      known = λ c n. enter_known b q c m j s d g (sym (ap (λ (x : Turned). x.turn) h) ∙ n);
      higher = λ c n x lt y f k.
          let l : turn_of d.answer ≡ turn.Into c = sym (ap (λ (u : Turned). u.turn) h) ∙ n in
          let w : stays_at b (kinded q x) m (j + 1) ≡ true = ap (λ (u : Turned). stays_at b (kinded q x) m u.next) (sym h) ∙ y in
          rw h (goes_up x lt w f k c l);
    }
      where
        told : (y : Answer Node) (c : Node) → turn_of y ≡ turn.Into c → y ≡ Ok c
        told (Ok x) c l = let v : x ≡ c = cc in ap Ok v
        told (Err w) c l = absurd (let v : ◌≡◌ {A = ℕ} 0 1 = cc in omega arith)

        goes_up : (x : ℕ) → q.keys.kind < x → stays_at b (kinded q x) m (j + 1) ≡ true → (f : Node → Tail → Tail) (k : Tail) (c : Node) → turn_of d.answer ≡ turn.Into c →
            f c (each f b (kinded q x) m (m.nkeys - (j + 1)) (j + 1) k) d.nodes ≡ each f b (kinded q x) m (m.nkeys - i) i k s
        goes_up x lt w f k c l =
            let u : f c (each f b (kinded q x) m (m.nkeys - (j + 1)) (j + 1) k) d.nodes ≡ act f (entering_told d) (each f b (kinded q x) m (m.nkeys - (j + 1)) (j + 1) k) = rw (told d.answer c l) in
            u ∙ (ap (λ (y : Counted Act). act f y (each f b (kinded q x) m (m.nkeys - (j + 1)) (j + 1) k)) g
            ∙ (ap (λ (y : Seek). seek_then f b (kinded q x) m y k s) (sym (seek_up b q m x lt i j w (sym t ∙ e))) ∙ sym (each_seek f b (kinded q x) m k s i)))

        of : (f : Node → Tail → Tail) (k : Tail) (x : Answer Node) →
            turn_then f b q m (turn_of x) (j + 1) k d.nodes ≡ acting f (into_told x) (each f b q m (m.nkeys - (j + 1)) (j + 1) k) d.nodes
        of f k (Ok c) = refl
        of f k (Err w) = refl

-- where the block was read as a list u that is v
pub seek_of : (u v : List ℕ) (m : Node) (info : Info) (id kind n i : ℕ) (z : Seek) → u ≡ v → z ≡ seek_in u m info id kind n i → z ≡ seek_in v m info id kind n i
seek_of u v m info id kind n i z e h = rw e at h

pub ruleset reaching = (rules, reach_over, reach_stop, reach_no, reach_into)
