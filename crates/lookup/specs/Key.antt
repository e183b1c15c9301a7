-- The keys that a lookup compares: two numbers of 64 bits. Document 01, btree.rs, `lookup_le`; Apple File System Reference, "Object Maps", omap_key_t.
use Rattle.std.specs.Prelude.{ℕ, ◌<◌, ◌≡◌, Bool, true, false, List, ◌⊎◌}
use Rattle.std.proofs.Common.{inl, inr, ⊎_elim}
use Rattle.std.proofs.Math.Decide.{dec_lt, ℕ_discrete}
use Rattle.error.specs.Answer.{Answer, Ok, ◌>>=◌}
use Rattle.byte_fields.specs.Number.{number_at}
use Rattle.byte_fields.specs.Part.{part_of}
use Rattle.node.specs.Entry.{key_value_at}
use Rattle.node.specs.declared.layout.Node.{Node}
use Rattle.node.specs.declared.layout.Info.{Info}
use Rattle.lookup.specs.declared.descent.Target.{Target}

-- the two numbers that a key begins with
unfoldable pub key_in : List ℕ → Answer (ℕ × ℕ)
key_in key = number_at 8 key 0 >>= λ oid. number_at 8 key 8 >>= λ xid. Ok (oid, xid)

-- those of the i-th entry's key
unfoldable pub key_at : List ℕ → Node → Info → ℕ → Answer (ℕ × ℕ)
key_at b m info i = key_value_at b m info i >>= λ e. key_in (part_of b e.key)

abbrev pub target_key : Target → ℕ × ℕ
target_key t = (t.oid, t.xid)

-- keys are ordered by their first number, then by their second
abbrev pub IsAbove : ℕ × ℕ → ℕ × ℕ → Type 0
IsAbove p q = (q.0 < p.0) ⊎ ((q.0 ≡ p.0) × (q.1 < p.1))

abbrev pub NotAbove : ℕ × ℕ → ℕ × ℕ → Type 0
NotAbove p q = IsAbove p q → ⊥

-- the same as a test: its type says all of it
pub above? : (p q : ℕ × ℕ) → Dec (IsAbove p q)
above? p q = of (dec_lt q.0 p.0) (ℕ_discrete q.0 p.0) (dec_lt q.1 p.1)
  where
    of : Dec (q.0 < p.0) → Dec (q.0 ≡ p.0) → Dec (q.1 < p.1) → Dec (IsAbove p q)
    of (Dec.yes a) e d = Dec.yes (inl a)
    of (Dec.no a) (Dec.yes e) (Dec.yes d) = Dec.yes (inr (e, d))
    of (Dec.no a) (Dec.yes e) (Dec.no d) = Dec.no (⊎_elim a (λ h. d h.1))
    of (Dec.no a) (Dec.no e) d = Dec.no (⊎_elim a (λ h. e h.0))

abbrev pub is_yes : {P : Type 0} → Dec P → Bool
is_yes (Dec.yes p) = true
is_yes (Dec.no p) = false
