-- THE COUNTS OF DESKS: what one desk's count shows. Document 02, request 06. It is proved, as `desks`, in proofs/Alone.antt.
--
-- Of calls of all desks, one after the other, from any record of eight counts: a desk's count is what it was and the nodes of its own calls, at most
-- 2^64 − 1, whatever the other desks did. A call at a desk above 7 changes no count; that its answer is the usual one, `apfs_desk`'s contract says, whose
-- result and buffer do not name the desk.
use Rattle.std.specs.Prelude.{ℕ, ◌+◌, ◌^◌, ◌≤◌, ◌<◌, ◌≡◌, List, [], ◌∷◌, length, get_or, replicate}
use Rattle.error.specs.Answer.{if_eq}
use Rattle.calls.specs.Nodes.{capped}
use Rattle.desks.specs.Requests.{Request, nodes_of}
use Rattle.desks.specs.Desks.{added}

-- a call, and the desk that it names
pub record AtDesk : Type 0 where
  pub desk : ℕ
  pub request : Request

-- the counts after calls of all desks, one after the other
unfoldable pub after : List ℕ → List AtDesk → List ℕ
after cs [] = cs
after cs (x ∷ xs) = after (added cs x.desk (nodes_of x.request)) xs

-- the requests of one desk, in order
unfoldable pub of_desk : ℕ → List AtDesk → List Request
of_desk d [] = []
of_desk d (x ∷ xs) = if_eq x.desk d (x.request ∷ of_desk d xs) (of_desk d xs)

-- the nodes of all of them
unfoldable pub total : List Request → ℕ
total [] = 0
total (q ∷ qs) = nodes_of q + total qs

-- "all 0 at first"
abbrev pub none : List ℕ
none = replicate 8 0

pub record Desks : Type 0 where
  -- "that desk's count goes up in the dock's record by the nodes its call went through"
  pub count : (d : ℕ) → d < 8 → (xs : List AtDesk) → get_or (after none xs) d 0 ≡ capped (total (of_desk d xs))
  -- "At 2^64 − 1 a count stays."
  pub from : (d : ℕ) → d < 8 → (cs : List ℕ) → length cs ≡ 8 → get_or cs d 0 < 2 ^ 64 → (xs : List AtDesk) → get_or (after cs xs) d 0 ≡ capped (get_or cs d 0 + total (of_desk d xs))
  -- "What one desk's count shows depends on that desk's calls and images only."
  pub alone : (d : ℕ) → d < 8 → (cs cs' : List ℕ) → length cs ≡ 8 → length cs' ≡ 8 → get_or cs d 0 < 2 ^ 64 → get_or cs d 0 ≡ get_or cs' d 0 →
      (xs ys : List AtDesk) → of_desk d xs ≡ of_desk d ys → get_or (after cs xs) d 0 ≡ get_or (after cs' ys) d 0
  -- "A desk number above 7 changes no count"
  pub above : (cs : List ℕ) (d n : ℕ) → 8 ≤ d → added cs d n ≡ cs
