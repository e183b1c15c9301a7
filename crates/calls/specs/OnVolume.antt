-- A call on a volume opens it first: document 01, "`Volume<'c>` holding `&Container`: both by value, the image passed beside them".
use Rattle.std.specs.Prelude.{ℕ, List}
use Rattle.lookup.specs.declared.counted.Counted.{Counted}
use Rattle.lookup.specs.Counted.{onto}
use Rattle.volume.specs.Open.{volume_of_image}
use Rattle.volume.specs.declared.Volume.{Volume}
use Rattle.volume.specs.declared.Which.{Which}

-- a volume of an image, and what f makes of it, its nodes counted from the opening's on
abbrev pub on_volume : (Volume → ℕ → Counted (List ℕ)) → List ℕ → Which → Counted (List ℕ)
on_volume f image w = onto (volume_of_image image w) f
