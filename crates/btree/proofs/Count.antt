-- A scan's count is the length of its path.
use Prim.Native.Nat.{ℕ, zero, suc, ◌+◌, ◌-◌, ◌^◌, ◌≤◌, min}
use mathlib.Core.Path.{◌≡◌, refl, sym, ap, ◌∙◌}
use mathlib.Core.List.{List, [], ◌∷◌, ◌++◌}
use lib.ListN.{length}
use native.Mathlib.Omega.{arith}
use Rattle.error.specs.Answer.{Answer, Ok, Err}
use Rattle.error.specs.declared.Refusal.{Refusal}
use Rattle.error.proofs.Laws.{le_cases}
use Rattle.arith.specs.Checked.{ticked}
use Rattle.node.specs.Entry.{child_at}
use Rattle.node.specs.declared.layout.Node.{Node}
use Rattle.lookup.specs.Path.{Through, at_once, by, on, and_then}
use Rattle.lookup.specs.Read.{node_at}
use Rattle.lookup.specs.Map.{resolve}
use Rattle.lookup.specs.Count.{name_path}
use Rattle.lookup.proofs.Count.{resolves_by}
use Rattle.lookup.proofs.Theorems.{read_block}
use Rattle.btree.specs.Entries.{bytes_of, Act, stop, skip, into, by_order, order_at, child_node, enter_at, follow_at, turn_at}
use Rattle.btree.specs.Scan.{Part, through, gives, passed, ended, failed, tree_part, end, counted_part, nth, scan_of}
use Rattle.btree.specs.Count.{path_to, EntryPath, CountsPath}
use Rattle.btree.specs.declared.entries.Search.{Search}
use Rattle.btree.specs.declared.entries.Order.{Order}
use Rattle.btree.specs.declared.entries.Order.TheVariants.{Below, Inside, Above}

-- of any part, where nothing follows
counted_path : (k : ℕ) (x : Part) (s : ℕ) → s ≤ 2 ^ 64 - 1 → (nth k (counted_part x end s)).nodes ≡ min (s + length (path_to k x)) (2 ^ 64 - 1)
unfolding counted_part nth path_to ticked
counted_path zero (through p x) s h = omega (arith, counted_path zero x (ticked s) (omega arith))
counted_path zero (gives p x) s h = omega arith
counted_path zero passed s h = omega arith
counted_path zero ended s h = omega arith
counted_path zero (failed e) s h = omega arith
counted_path (suc k) (through p x) s h = omega (arith, counted_path (suc k) x (ticked s) (omega arith))
counted_path (suc k) (gives p x) s h = counted_path k x s h
counted_path (suc k) passed s h = omega arith
counted_path (suc k) ended s h = omega arith
counted_path (suc k) (failed e) s h = omega arith

module _ (b : List ℕ) (q : Search) (m : Node) (i : ℕ) where
  no_path : (ps : List ℕ) (e : Refusal) → EntryPath b q m i (record { path = ps; answer = Err e })
  no_path ps e = record {
    stopped = λ h. absurd (let z : ◌≡◌ {A = ℕ} 0 1 = cc in omega arith);
    skipped = λ h. absurd (let z : ◌≡◌ {A = ℕ} 0 1 = cc in omega arith);
    entered = λ c h. absurd (let z : ◌≡◌ {A = ℕ} 0 1 = cc in omega arith);
  }

  stop_path : EntryPath b q m i (at_once (Ok stop))
  stop_path = record {
    stopped = λ h. refl;
    skipped = λ h. refl;
    entered = λ c h. absurd (let z : ◌≡◌ {A = ℕ} 0 1 = cc in omega arith);
  }

  skip_path : EntryPath b q m i (at_once (Ok skip))
  skip_path = record {
    stopped = λ h. refl;
    skipped = λ h. refl;
    entered = λ c h. absurd (let z : ◌≡◌ {A = ℕ} 0 1 = cc in omega arith);
  }

  on_path : {A : Type 0} (a : Answer A) (f : A → Through Act) → ((x : A) → a ≡ Ok x → EntryPath b q m i (f x)) → EntryPath b q m i (on a f)
  on_path (Ok x) f h = h x refl
  on_path (Err e) f h = no_path [] e

  order_path : (o : Order) (x y z : Through Act) → EntryPath b q m i x → EntryPath b q m i y → EntryPath b q m i z → EntryPath b q m i (by_order o x y z)
  unfolding by_order
  order_path Below x y z h j k = h
  order_path Inside x y z h j k = j
  order_path Above x y z h j k = k

  -- a child that was looked up and read
  child_path : (child : ℕ) → child_at (bytes_of b q m) m q.keys.info i ≡ Ok child → EntryPath b q m i (child_node b q child)
  unfolding child_node and_then
  child_path child e = of (resolve q.keys.reader b q.resolve child).answer
    where
      named : List ℕ
      named = (resolve q.keys.reader b q.resolve child).path

      read : ℕ → Answer Node → Through Act
      read p x = on x λ c. by p (at_once (Ok (into c)))

      into_path : (p : ℕ) (x : Answer Node) → node_at q.keys.reader b p ≡ x → EntryPath b q m i (record { path = named ++ (read p x).path; answer = (read p x).answer })
      into_path p (Ok d) g = record {
        stopped = λ h. absurd (let z : ◌≡◌ {A = ℕ} 0 1 = cc in omega arith);
        skipped = λ h. absurd (let z : ◌≡◌ {A = ℕ} 0 1 = cc in omega arith);
        entered = λ c h. (child, e, entered c h);
      }
        where
          entered : (c : Node) → ◌≡◌ {A = Answer _} (Ok (into d)) (Ok (into c)) → named ++ (p ∷ []) ≡ name_path q.keys.reader b q.resolve child ++ (c.block ∷ [])
          entered c h =
              let k : d ≡ c = cc in
              let l : p ≡ c.block = sym (read_block q.keys.reader b p d g) ∙ ap (λ (n : Node). n.block) k in
              rw (resolves_by q.keys.reader b q.resolve child, l)
      into_path p (Err w) g = no_path _ w

      of : (a : Answer ℕ) → EntryPath b q m i (record { path = named ++ (on a (λ p. read p (node_at q.keys.reader b p))).path; answer = (on a (λ p. read p (node_at q.keys.reader b p))).answer })
      of (Ok p) = into_path p (node_at q.keys.reader b p) refl
      of (Err w) = no_path _ w

  enter_path : EntryPath b q m i (enter_at b q m i)
  unfolding enter_at
  enter_path = on_path (child_at (bytes_of b q m) m q.keys.info i) (child_node b q) child_path

  turn_path : EntryPath b q m i (turn_at b q m i)
  unfolding turn_at follow_at
  turn_path = on_path (order_at b q m i) _ λ o e. order_path o _ _ _ follow follow stop_path
    where
      follow : EntryPath b q m i (follow_at b q m i)
      follow = le_cases (EntryPath b q m i) (λ h. enter_path) (λ h. on_path (order_at b q m (i + 1)) _ λ o e. order_path o _ _ _ skip_path enter_path enter_path)

pub counts_path : (b : List ℕ) (q : Search) → CountsPath b q
unfolding scan_of
counts_path b q = record { count = λ k s h. counted_path k (tree_part b q) s h; entry = turn_path b q }
