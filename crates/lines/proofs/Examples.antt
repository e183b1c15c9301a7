-- Lines of document 01, "The listing (added)", and one of each other form.
use mathlib.Core.Path.{◌≡◌, refl}
use mathlib.Core.Bool.{true, false}
use mathlib.Core.List.{[], ◌∷◌}
use Rattle.std.specs.Prelude.{None, Some}
use lib.IntN.{pos, negsuc}
use Rattle.text.specs.Words.{ascii, places, digits, signed, glyph, pairs}
use Rattle.lines.specs.Shown.{InodeShown, embedded, streamed, packed, plain}
use Rattle.lines.specs.Lines.{volume_line, node_line, form_text, attribute_line, contents_line, entry_line, extent_line, total_line, close}

-- "an empty root of mode 16877, parent 1, private id 2 and all else 0"
abbrev root : InodeShown
root = record {
  id = 2;
  parent = 1;
  own = 2;
  create = 0;
  modify = 0;
  change = 0;
  access = 0;
  iflags = 0;
  links = pos 0;
  bsd = 0;
  owner = 0;
  group = 0;
  mode = 16877;
  label = None;
  stream = None;
}

-- its line
root_line : node_line root [] ≡ ascii "(node 2 1 2 0 0 0 0 0 0 0 0 0 16877 - -\n" []
unfolding node_line digits places signed
root_line = refl

-- "For a volume "A", case-insensitive", the whole listing, with document 02's `(total 1 0 0)`
sample : volume_line true false (65 ∷ []) (node_line root (contents_line (plain []) (close (total_line 1 0 0 (close [])))))
    ≡ ascii "(volume 1 0 x41\n(node 2 1 2 0 0 0 0 0 0 0 0 0 16877 - -\n(data x)\n)\n(total 1 0 0)\n)\n" []
unfolding volume_line node_line contents_line total_line close digits places signed glyph pairs
sample = refl

-- an empty name is no absent one; sizes and a count of links below zero
file_line : node_line (record { id = 18; parent = 2; own = 18; create = 1; modify = 2; change = 3; access = 4; iflags = 5; links = negsuc 0; bsd = 6; owner = 7; group = 8; mode = 9; label = Some []; stream = Some (10, 4096) }) []
    ≡ ascii "(node 18 2 18 1 2 3 4 5 -1 6 7 8 9 x 10,4096\n" []
unfolding node_line digits places signed glyph pairs
file_line = refl

embedded_line : attribute_line (record { flags = 2; label = 97 ∷ []; form = embedded; contents = 10 ∷ 255 ∷ [] }) [] ≡ ascii "(attr 2 x61 e x0aff)\n" []
unfolding attribute_line form_text digits places glyph pairs
embedded_line = refl

streamed_line : attribute_line (record { flags = 1; label = 97 ∷ []; form = streamed 20; contents = [] }) [] ≡ ascii "(attr 1 x61 s 20 x)\n" []
unfolding attribute_line form_text digits places glyph pairs
streamed_line = refl

entry_and_extent : entry_line (record { id = 16; date_added = 3; kind = 4; label = 98 ∷ [] }) (extent_line (record { logical = 0; len = 4096; phys_block = 77 }) (contents_line packed []))
    ≡ ascii "(entry 16 3 4 x62\n(extent 0 4096 77)\n(packed)\n" []
unfolding entry_line extent_line contents_line digits places glyph pairs
entry_and_extent = refl
