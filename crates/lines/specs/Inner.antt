-- Shares of a line, each what one function writes. They need no belief: together they are `node_line` and `attribute_line` (`node_pieces` and
-- `attribute_texts`, proofs/After.antt).
use Rattle.std.specs.Prelude.{ℕ, List, [], ◌∷◌}
use Rattle.text.specs.Words.{ascii, digits, signed, bytes, words}
use Rattle.inode_record.specs.declared.inode.Inode.{Inode}
use Rattle.inode_record.specs.declared.inode.Times.{Times}
use Rattle.inode_record.specs.declared.inode.Owner.{Owner}
use Rattle.lines.specs.Shown.{Form, embedded, streamed}

-- `CREATE MOD CHANGE ACCESS`
unfoldable pub time_words : Times → List ℕ → List ℕ
time_words t x = words (digits t.create ∷ digits t.modify ∷ digits t.change ∷ digits t.access ∷ []) x

-- `IFLAGS LINKS BSD OWNER GROUP MODE`
unfoldable pub owner_words : Owner → List ℕ → List ℕ
owner_words o x = words (
    digits o.internal_flags ∷ signed o.links ∷ digits o.bsd_flags ∷ digits o.owner ∷ digits o.group ∷ digits o.mode ∷ []) x

-- `(node ID PARENT PRIVATE`, then the times and the owner
unfoldable pub node_head : Inode → List ℕ → List ℕ
node_head i x =
    ascii "(node" (words (digits i.id ∷ digits i.ids.parent ∷ digits i.ids.private_id ∷ []) (time_words i.times (owner_words i.owner x)))

-- of `e DATA)` and `s OBJECT DATA)` what comes before the digits of DATA
unfoldable pub form_head : Form → List ℕ → List ℕ
form_head embedded x = ascii " e x" x
form_head (streamed o) x = ascii " s" (words (digits o ∷ []) (ascii " x" x))

-- of an attribute's line what comes before the digits of DATA
unfoldable pub attribute_head : ℕ → List ℕ → Form → List ℕ → List ℕ
attribute_head flags l f x = ascii "(attr" (words (digits flags ∷ bytes l ∷ []) (form_head f x))
