-- How many nodes a scan goes through. The buyer's note: "A node count must be the number on the defined path".
-- What is stated here is proved in proofs/Count.antt.
use Rattle.std.specs.Prelude.{ℕ, zero, suc, ◌+◌, ◌-◌, ◌^◌, ◌≤◌, min, ◌≡◌, List, [], ◌∷◌, ◌++◌, length}
use Rattle.error.specs.Answer.{Ok}
use Rattle.node.specs.Entry.{child_at}
use Rattle.node.specs.declared.layout.Node.{Node}
use Rattle.lookup.specs.Path.{Through}
use Rattle.lookup.specs.Count.{name_path}
use Rattle.btree.specs.Entries.{bytes_of, Act, stop, skip, into, turn_at}
use Rattle.btree.specs.Scan.{Part, through, gives, passed, ended, failed, tree_part, nth, scan_of}
use Rattle.btree.specs.declared.entries.Search.{Search}

-- the blocks gone through before a part's k-th record, or in all of it where it has no such record
unfoldable pub path_to : ℕ → Part → List ℕ
path_to zero (through p x) = p ∷ path_to zero x
path_to zero (gives p x) = []
path_to zero passed = []
path_to zero ended = []
path_to zero (failed e) = []
path_to (suc k) (through p x) = p ∷ path_to (suc k) x
path_to (suc k) (gives p x) = path_to k x
path_to (suc k) passed = []
path_to (suc k) ended = []
path_to (suc k) (failed e) = []

-- which blocks an entry of an index node has the scan go through: none where it is skipped or ends the scan,
-- and where its child is gone into, those of a lookup of the child's name and then the child's own
pub record EntryPath (b : List ℕ) (q : Search) (m : Node) (i : ℕ) (t : Through Act) : Type 0 where
  pub stopped : t.answer ≡ Ok stop → t.path ≡ []
  pub skipped : t.answer ≡ Ok skip → t.path ≡ []
  pub entered : (c : Node) → t.answer ≡ Ok (into c) →
      (child : ℕ) × (child_at (bytes_of b q m) m q.keys.info i ≡ Ok child) × (t.path ≡ name_path q.keys.reader b q.resolve child ++ (c.block ∷ []))

-- the count goes up by the length of the path, and stays at 2^64 − 1
pub record CountsPath (b : List ℕ) (q : Search) : Type 0 where
  pub count : (k s : ℕ) → s ≤ 2 ^ 64 - 1 → (nth k (scan_of b q s)).nodes ≡ min (s + length (path_to k (tree_part b q))) (2 ^ 64 - 1)
  pub entry : (m : Node) (i : ℕ) → EntryPath b q m i (turn_at b q m i)
