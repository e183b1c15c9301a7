-- How the words are added up: a buyer may pass over this file. What goes from one chunk of words to the next (`carried`), and the four lanes that
-- the words of a chunk go to in turn (`joint`); both sums of all words so added are proved to be `s1` and `s2` of Fletcher.antt, modulo M
-- (`from_sums`, proofs/Laws.antt).
use Rattle.std.specs.Prelude.{ℕ, ◌+◌, ◌-◌, ◌*◌, ◌%◌, ◌<◌, List}
use Rattle.byte_fields.specs.Number.{little}
use Rattle.checksum.specs.Fletcher.{M, sum, running}
use Rattle.checksum.specs.declared.Sums.{Sums}
use Rattle.checksum.specs.declared.Four.{Four}
use Rattle.checksum.specs.declared.Lanes.{Lanes}

-- checksum.rs, "Reduce every 1024 words"; here every 16,384
pub record Reduced (s : Sums) : Type 0 where
  pub first : s.s1 < M
  pub second : s.s2 < M

-- both sums of no words
abbrev pub none : Sums
none = record { s1 = 0; s2 = 0 }

-- both sums s, once the words ws are added to them, modulo M
unfoldable pub carried : Sums → List ℕ → Sums
carried s ws = record { s1 = (s.s1 + sum ws) % M; s2 = (s.s2 + sum (running s.s1 ws)) % M }

-- the four words from byte off on
abbrev pub four_at : List ℕ → ℕ → Four
four_at b off = record { w = little 4 b off; x = little 4 b (off + 4); y = little 4 b (off + 8); z = little 4 b (off + 12) }

abbrev pub plus_of : Four → Four → Four
plus_of a b = record { w = a.w + b.w; x = a.x + b.x; y = a.y + b.y; z = a.z + b.z }

abbrev pub total_of : Four → ℕ
total_of a = a.w + a.x + a.y + a.z

abbrev pub excess_of : Four → ℕ
excess_of a = a.x + 2 * a.y + 3 * a.z

pub record Below (k : ℕ) (a : Four) : Type 0 where
  pub of_w : a.w < k
  pub of_x : a.x < k
  pub of_y : a.y < k
  pub of_z_lem : a.z < k

-- no sum of the lanes is near 2^64
pub record Roomy (l : Lanes) : Type 0 where
  pub of_sums : Below 281474976710656 l.sums
  pub of_seconds : Below 288230376151711744 l.seconds

-- a word more in each lane
abbrev pub with_four : Lanes → Four → Lanes
with_four l f = record { sums = plus_of l.sums f; seconds = plus_of l.seconds (plus_of l.sums f) }

-- both sums that the lanes stand for, where the second began with c: each word of a lane is followed by as many fewer
-- words of its own four as there are lanes before its own
abbrev pub joint : ℕ → Lanes → Sums
joint c l = record { s1 = total_of l.sums; s2 = c + 4 * total_of l.seconds - excess_of l.sums }
