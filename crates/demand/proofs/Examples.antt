-- The definitions at work.
use Prim.Native.Nat.{ℕ, ◌+◌, ◌-◌, ◌*◌, ◌^◌, ◌≤◌}
use mathlib.Core.Path.{◌≡◌, refl}
use mathlib.Core.Bool.{true, false, cond}
use mathlib.Core.List.{List, [], ◌∷◌}
use lib.Dec.{eqb, ltb}
use native.Mathlib.Omega.{arith}
use lib.ListN.{take, drop, length, length-append}
use Rattle.error.specs.Answer.{Answer, Ok, Err, if_le, if_eq}
use Rattle.error.specs.declared.Refusal.TheVariants.{Corrupt, BufferTooShort, Overflow, TooDeep, TooLong}
use Rattle.text.specs.Words.{ascii, places, digits, signed, glyph, pairs}
use Rattle.lines.specs.Shown.{EntryShown, AttributeShown, embedded}
use Rattle.lines.specs.Lines.{volume_line, node_line, form_text, attribute_line, contents_line, entry_line, total_line, close}
use Rattle.totals.specs.Totals.{lines_of, begins, line_totals, all_lines, totals_of}
use Rattle.demand.specs.Trace.{done, stop, ◌then◌, reading, within}
use Rattle.demand.specs.View.{View}
use Rattle.demand.specs.Listing.{attribute_lines, data_line, entry_forms, node_form, footed, trace, listing}
use Rattle.demand.specs.Demand.{here, nowhere, place, onward, follow, chain}
use Rattle.demand.specs.Listers.{small_inode}
use Rattle.demand.specs.Measure.{deepest, measured}
use Rattle.demand.proofs.Measure.{view_long}
use Rattle.demand.proofs.TreeTotals.{pairs_length}

abbrev child : ℕ → List ℕ → EntryShown
child i l = record { id = i; date_added = 7; kind = 4; label = l }

-- files are empty, nothing is packed
abbrev plain : (ℕ → Answer (List EntryShown)) → (ℕ → Answer (List (AttributeShown (Answer (List ℕ))))) → View
plain es l = record {
  label = 65 ∷ [];
  rule = record { case_insensitive = true; normalization_insensitive = false };
  inode = λ i. Ok (small_inode 0 i);
  entries = es;
  attributes = l;
  contents = λ i. Ok [];
  read = λ i off len. Ok (take len (drop off []));
}

abbrev bare : View
bare = plain (λ i. Ok []) (λ i. Ok [])

-- document 01's example, with the line that request 08 gives it
bare_listed : listing bare 65_536 ≡ Ok (ascii "(volume 1 0 x41\n(node 2 1 2 0 0 0 0 0 0 0 0 0 16877 - -\n(data x)\n)\n(total 1 0 0)\n)\n" [])
unfolding listing within if_le trace node_form attribute_lines data_line entry_forms reading ◌then◌ volume_line node_line contents_line entry_line total_line close footed totals_of lines_of all_lines line_totals begins if_eq signed digits places pairs glyph
bare_listed = refl

-- 83 bytes: 6 in a room of 82, not in one of 83
bare_short : listing bare 82 ≡ Err BufferTooShort
unfolding listing within if_le trace node_form attribute_lines data_line entry_forms reading ◌then◌ volume_line node_line contents_line entry_line total_line close footed totals_of lines_of all_lines line_totals begins if_eq signed digits places pairs glyph
bare_short = refl

-- request 08: "a hard-linked file counting as often as it is printed and a packed one with 0 bytes". The root has file 3 twice and file 4 once, which is
-- packed; each has an attribute of three bytes, and 3 has two bytes of its own
abbrev linked : View
linked = record {
  label = 65 ∷ [];
  rule = record { case_insensitive = true; normalization_insensitive = false };
  inode = λ i. Ok (small_inode (cond (eqb i 4) 32 0) i);
  entries = λ i. Ok (cond (eqb i 2) (child 3 (97 ∷ []) ∷ child 3 (98 ∷ []) ∷ child 4 (99 ∷ []) ∷ []) []);
  attributes = λ i. Ok (cond (eqb i 2) [] (record { flags = 2; label = 120 ∷ []; form = embedded; contents = Ok (1 ∷ 2 ∷ 3 ∷ []) } ∷ []));
  contents = λ i. Ok (cond (eqb i 2) [] (5 ∷ 6 ∷ []));
  read = λ i off len. Ok [];
}

linked_foot : drop (length (trace linked).text - 16) (trace linked).text ≡ ascii "(total 4 4 3)\n)\n" []
unfolding trace node_form attribute_lines data_line entry_forms reading ◌then◌ volume_line node_line form_text attribute_line contents_line entry_line total_line close footed totals_of lines_of all_lines line_totals begins if_eq signed digits places pairs glyph
linked_foot = refl

-- inodes 2 to `last`, each in the one before it
abbrev tower : ℕ → View
tower last = plain (λ i. Ok (cond (ltb i last) (child (i + 1) (97 ∷ []) ∷ []) [])) (λ i. Ok [])

-- depth 64 is listed, 65 is not
tower_64 : (trace (tower 66)).ended ≡ done
unfolding trace node_form attribute_lines data_line entry_forms reading ◌then◌ volume_line node_line contents_line entry_line total_line close footed totals_of lines_of all_lines line_totals begins if_eq signed digits places pairs glyph
tower_64 = refl

tower_65 : (trace (tower 67)).ended ≡ stop TooDeep
unfolding trace node_form attribute_lines data_line entry_forms reading ◌then◌ volume_line node_line contents_line entry_line total_line close footed totals_of lines_of all_lines line_totals begins if_eq signed digits places pairs glyph
tower_65 = refl

-- 10 comes after the entry's line, before the inode: the text ends so
tower_65_text : drop (length (trace (tower 67)).text - 28) (trace (tower 67)).text ≡ ascii "\n(data x)\n(entry 67 7 4 x61\n" []
unfolding trace node_form attribute_lines data_line entry_forms reading ◌then◌ volume_line node_line contents_line entry_line total_line close footed totals_of lines_of all_lines line_totals begins if_eq signed digits places pairs glyph
tower_65_text = refl

-- a fault in reading the root's attributes: it counts once the node's line, which comes before, has room; else 6 does
abbrev faulty : View
faulty = plain (λ i. Err Overflow) (λ i. Err Corrupt)

faulty_listed : listing faulty 56 ≡ Err Corrupt
unfolding listing within if_le trace node_form attribute_lines data_line entry_forms reading ◌then◌ volume_line node_line contents_line entry_line total_line close footed totals_of lines_of all_lines line_totals begins if_eq signed digits places pairs glyph
faulty_listed = refl

faulty_short : listing faulty 55 ≡ Err BufferTooShort
unfolding listing within if_le trace node_form attribute_lines data_line entry_forms reading ◌then◌ volume_line node_line contents_line entry_line total_line close footed totals_of lines_of all_lines line_totals begins if_eq signed digits places pairs glyph
faulty_short = refl

-- chains: `b` and `A` at the root, `é` below `b`
abbrev some_dirs : View
some_dirs = plain (λ i. Ok (cond (eqb i 2) (child 5 (98 ∷ []) ∷ child 6 (65 ∷ []) ∷ []) (cond (eqb i 5) (child 7 (195 ∷ 169 ∷ []) ∷ []) []))) (λ i. Ok [])

chain_root : chain some_dirs [] ≡ here (small_inode 0 2)
unfolding follow onward place
chain_root = refl

chain_down : chain some_dirs (0 ∷ 0 ∷ []) ≡ here (small_inode 0 7)
unfolding follow onward place
chain_down = refl

chain_past : chain some_dirs (0 ∷ 1 ∷ 0 ∷ []) ≡ nowhere
unfolding follow onward place
chain_past = refl

-- request 09: the root is at depth 0, and the length is that of the whole text, its foot with it
bare_measured : measured bare ≡ Ok (record { length = 83; depth = 0 })
unfolding measured deepest listing within if_le trace node_form attribute_lines data_line entry_forms reading ◌then◌ volume_line node_line contents_line entry_line total_line close footed totals_of lines_of all_lines line_totals begins if_eq signed digits places pairs glyph
bare_measured = refl

tower_measured : measured (tower 5) ≡ Ok (record { length = 293; depth = 3 })
unfolding measured deepest listing within if_le trace node_form attribute_lines data_line entry_forms reading ◌then◌ volume_line node_line contents_line entry_line total_line close footed totals_of lines_of all_lines line_totals begins if_eq signed digits places pairs glyph
tower_measured = refl

-- the greatest depth, not the last
dirs_measured : measured some_dirs ≡ Ok (record { length = 295; depth = 2 })
unfolding measured deepest listing within if_le trace node_form attribute_lines data_line entry_forms reading ◌then◌ volume_line node_line contents_line entry_line total_line close footed totals_of lines_of all_lines line_totals begins if_eq signed digits places pairs glyph
dirs_measured = refl

tower_66_deep : deepest (tower 66) 65 2 ≡ 64
unfolding deepest
tower_66_deep = refl

tower_67_measured : measured (tower 67) ≡ Err TooDeep
unfolding measured deepest listing within if_le trace node_form attribute_lines data_line entry_forms reading ◌then◌ volume_line node_line contents_line entry_line total_line close footed totals_of lines_of all_lines line_totals begins if_eq signed digits places pairs glyph
tower_67_measured = refl

-- one node, with these contents: a fault in reading them is the measurement's, and 2^31 bytes or more are too long
abbrev holding_file : Answer (List ℕ) → View
holding_file c = record {
  label = 65 ∷ [];
  rule = record { case_insensitive = true; normalization_insensitive = false };
  inode = λ i. Ok (small_inode 0 i);
  entries = λ i. Ok [];
  attributes = λ i. Ok [];
  contents = λ i. c;
  read = λ i off len. c;
}

torn_measured : measured (holding_file (Err Overflow)) ≡ Err Overflow
unfolding measured deepest listing within if_le trace node_form attribute_lines data_line entry_forms reading ◌then◌ volume_line node_line contents_line entry_line total_line close footed totals_of lines_of all_lines line_totals begins if_eq signed digits places pairs glyph
torn_measured = refl

file_long : (d : List ℕ) → 2 * length d ≤ length (trace (holding_file (Ok d))).text
unfolding trace node_form attribute_lines data_line entry_forms reading ◌then◌ footed contents_line
file_long d = simp length-append (omega (arith, pairs_length d (ascii ")\n" [])))

file_too_long : (d : List ℕ) → 2 ^ 31 ≤ length d → measured (holding_file (Ok d)) ≡ Err TooLong
file_too_long d h = view_long (holding_file (Ok d)) (omega (arith, file_long d))
