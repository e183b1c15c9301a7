-- The first attribute of a name, as the loop over an id's attributes finds it.
use Prim.Native.Nat.{ℕ}
use mathlib.Core.Path.{◌≡◌, refl, sym, ap, ◌∙◌}
use mathlib.Core.Bool.{Bool, true, false, not}
use native.Mathlib.Omega.{arith}
use Rattle.std.specs.Option.{is_some}
use mathlib.Core.List.{List, [], ◌∷◌}
use Rattle.std.specs.Prelude.{Option, None, Some}
use Rattle.error.specs.Answer.{Answer, Ok, pick}
use Rattle.obj.specs.declared.reader.Reader.{Reader}
use Rattle.lookup.specs.declared.counted.Counted.{Counted}
use Rattle.lookup.specs.Counted.{after, onto}
use Rattle.btree.specs.Scan.{Run, scan_of}
use Rattle.btree.specs.declared.entries.Search.{Search}
use Rattle.node.specs.declared.place.Place.{Place}
use Rattle.cursor.specs.Left.{run_at, in_step}
use Rattle.cursor.specs.declared.steps.Step.{Step}
use Rattle.volume.specs.declared.Volume.{Volume}
use Rattle.records.specs.Attribute.{attribute_at}
use Rattle.records.specs.declared.attribute.Attribute.{Attribute}
use Rattle.lists.specs.Lists.{search_of, list_of, attributes_of}
use Rattle.lists.specs.declared.seen.Seen.{Seen}
use Rattle.lists.specs.declared.seen.Seen.TheVariants.{Over, Element}
use Rattle.lists.specs.Seen.{seen_in}
use Rattle.lists.proofs.Reading.{reading, list_start, list_over, list_at}
use Rattle.lists.proofs.Turns as list-turns
use Rattle.links.specs.Named.{has_name, named, attribute_named}
use Rattle.links.specs.Inner.{keep_named}

-- what is kept of the list with one attribute more, by the tests
module _ (r : Reader) (b name : List ℕ) (a : Attribute) where
  pub kept_now : (o : Option Attribute) (t d : Bool) → is_some o ≡ not t → t ≡ true → d ≡ has_name r b name a → d ≡ true → Some a ≡ keep_named r b name o a
  unfolding keep_named
  kept_now None t d e h k l = rw (← k, l)
  kept_now (Some x) t d e h k l = let q : true ≡ not true = rw h at e in absurd (let z : ◌≡◌ {A = ℕ} 0 1 = cc in omega arith)

  pub kept_before : (o : Option Attribute) (t : Bool) → is_some o ≡ not t → t ≡ false → o ≡ keep_named r b name o a
  unfolding keep_named
  kept_before None t e h = let q : false ≡ not false = rw h at e in absurd (let z : ◌≡◌ {A = ℕ} 0 1 = cc in omega arith)
  kept_before (Some x) t e h = refl

  pub kept_still : (o : Option Attribute) (d : Bool) → d ≡ has_name r b name a → d ≡ false → o ≡ keep_named r b name o a
  unfolding keep_named
  kept_still None d k l = rw (← k, l)
  kept_still (Some x) d k l = refl

-- what is found in the list that is left, where o was kept
abbrev or_named : Reader → List ℕ → List ℕ → Option Attribute → List Attribute → Option Attribute
or_named r b name None xs = named r b name xs
or_named r b name (Some a) xs = Some a

unfoldable pub sought_name : Reader → List ℕ → List ℕ → Option Attribute → List Attribute → Answer (Option Attribute)
sought_name r b name o xs = Ok (or_named r b name o xs)

module _ (r : Reader) (b name : List ℕ) where
  or_end : (o : Option Attribute) → or_named r b name o [] ≡ o
  unfolding named
  or_end None = refl
  or_end (Some a) = refl

  or_next : (o : Option Attribute) (a : Attribute) (xs : List Attribute) → or_named r b name o (a ∷ xs) ≡ or_named r b name (keep_named r b name o a) xs
  unfolding named keep_named
  or_next None a xs = of (has_name r b name a)
    where
      of : (d : Bool) → pick d (Some a) (named r b name xs) ≡ or_named r b name (pick d (Some a) None) xs
      of true = refl
      of false = refl
  or_next (Some x) a xs = refl

-- the turns of the loop
module _ (r : Reader) (b name : List ℕ) (g : Place → Answer Attribute) where
  pub name_start : (m n : Run) → m ≡ n → reading g (sought_name r b name None) m ≡ (onto (list_of g n) λ xs t. after t (Ok (named r b name xs)))
  unfolding sought_name
  name_start m n e = rw e (list_start g (sought_name r b name None) n)

  module _ (q : Search) (s : Step) (i : ℕ) (x : Seen Attribute) (t : x ≡ seen_in g (in_step b q s.reached i))
      (o : Option Attribute) (whole : Counted (Option Attribute)) (inv : reading g (sought_name r b name o) (run_at b q s i) ≡ whole) where
    pub name_end : x ≡ Over → after s.nodes (Ok o) ≡ whole
    unfolding sought_name
    name_end e = ap (λ (y : Option Attribute). after s.nodes (Ok y)) (sym (or_end r b name o)) ∙ list_over g b q s i x t (sought_name r b name o) whole inv e

    pub name_next : (z : Option Attribute) (a : Attribute) (c : ℕ) → x ≡ Element a c → z ≡ keep_named r b name o a → reading g (sought_name r b name z) (run_at b q s c) ≡ whole
    unfolding sought_name
    name_next z a c e k = list_at g b q s i x t (sought_name r b name o) whole inv (sought_name r b name z) a c e (λ xs. ap Ok (or_next r b name o a xs ∙ rw k))

pub name_done : (b : List ℕ) (v : Volume) (id : ℕ) (name : List ℕ) (s : ℕ) (q : Search) (z : Counted (Option Attribute)) → q ≡ search_of v id 4
    → z ≡ (onto (list_of (attribute_at q.keys.reader b) (scan_of b q s)) λ xs t. after t (Ok (named v.reader b name xs))) → z ≡ attribute_named b v id name s
unfolding attribute_named attributes_of
name_done b v id name s q z e g = rw e at g

pub ruleset names = (list-turns.turns, name_start, name_end, name_next, name_done)
