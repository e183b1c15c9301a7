-- An attribute by its name. fs.rs, `xattr`; document 01, "Records" and fs.rs: "comparisons read it lossily".
use Rattle.std.specs.Prelude.{ℕ, Bool, List, [], ◌∷◌}
use Rattle.std.specs.Prelude.{Option, None, Some}
use Rattle.error.specs.Answer.{Ok, pick}
use Rattle.utf8.specs.Text.{lossy, same_bytes}
use Rattle.obj.specs.declared.reader.Reader.{Reader}
use Rattle.lookup.specs.declared.counted.Counted.{Counted}
use Rattle.lookup.specs.Counted.{after, onto}
use Rattle.volume.specs.declared.Volume.{Volume}
use Rattle.records.specs.Attribute.{attribute_name}
use Rattle.records.specs.declared.attribute.Attribute.{Attribute}
use Rattle.lists.specs.Lists.{attributes_of}

-- the attribute's name, read lossily, is `name`
unfoldable pub has_name : Reader → List ℕ → List ℕ → Attribute → Bool
has_name r b name a = same_bytes (lossy (attribute_name r b a)) name

-- the first of that name (fs.rs, `xattr`: `find`)
unfoldable pub named : Reader → List ℕ → List ℕ → List Attribute → Option Attribute
named r b name [] = None
named r b name (a ∷ xs) = pick (has_name r b name a) (Some a) (named r b name xs)

-- all attributes of an id are read, then the first of a name is taken
unfoldable pub attribute_named : List ℕ → Volume → ℕ → List ℕ → ℕ → Counted (Option Attribute)
attribute_named b v id name s = onto (attributes_of b v id s) λ xs t. after t (Ok (named v.reader b name xs))
