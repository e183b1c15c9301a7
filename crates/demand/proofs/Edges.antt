-- Where the demand would not hold if less were supposed.
use Prim.Native.Nat.{ℕ}
use mathlib.Core.Path.{◌≡◌, refl, ap, ◌∙◌}
use mathlib.Core.Bool.{true, false}
use mathlib.Core.List.{List, [], ◌∷◌}
use native.Mathlib.Omega.{arith}
use lib.ListN.{take, drop}
use lib.Seq.{take-nil, drop-nil}
use Rattle.error.specs.Answer.{Answer, Ok, Err, if_le, if_eq}
use Rattle.error.specs.declared.Refusal.TheVariants.{Corrupt, Unsupported}
use Rattle.text.specs.Words.{ascii, places, digits, signed, pairs}
use Rattle.lines.specs.Shown.{InodeShown}
use Rattle.lines.specs.Lines.{volume_line, node_line, contents_line, total_line, close}
use Rattle.totals.specs.Totals.{lines_of, begins, line_totals, all_lines, totals_of}
use Rattle.demand.specs.Trace.{◌then◌, reading, within}
use Rattle.demand.specs.View.{View}
use Rattle.demand.specs.Listing.{attribute_lines, is_packed, data_line, entry_forms, node_form, footed, trace, listing}
use Rattle.demand.specs.Demand.{here, place, onward, follow, chain, Agree, past, on, Same}
use Rattle.demand.specs.Listers.{small_inode}
use Rattle.demand.proofs.Walks.{Reads, follow_nowhere}

-- one node, an empty directory
abbrev lone : ℕ → Answer (List ℕ) → Answer (List ℕ) → View
lone bsd contents read = record {
  label = [];
  rule = record { case_insensitive = false; normalization_insensitive = false };
  inode = λ i. Ok (small_inode bsd i);
  entries = λ i. Ok [];
  attributes = λ i. Ok [];
  contents = λ i. contents;
  read = λ i off len. read;
}

-- two that read alike are the same, whatever the listing makes of their contents
lone_same : (bsd : ℕ) (c d r : Answer (List ℕ)) → Same (lone bsd c r) (lone bsd d r)
unfolding follow onward place
lone_same bsd c d r = record { label = refl; rule = refl; chains = go }
  where
    go : (x : List ℕ) → Agree (lone bsd c r) (lone bsd d r) (chain (lone bsd c r) x) (chain (lone bsd d r) x)
    go [] = on (small_inode bsd 2) refl refl refl refl (λ off len. refl)
    go (k ∷ x) = past (follow_nowhere (lone bsd c r) x) (follow_nowhere (lone bsd d r) x)

-- 1. Both listings must be without refusal. An empty file whose extents overlap: it reads as any empty file, the volumes are the same,
-- the law of reads holds of both, and one is listed and the other refused.
abbrev clean : View
clean = lone 0 (Ok []) (Ok [])

abbrev tangled : View
tangled = lone 0 (Err Corrupt) (Ok [])

pub unpacked : (i : ℕ) (f : InodeShown) → ◌≡◌ {A = Answer _} (Ok (small_inode 0 i)) (Ok f) → is_packed f ≡ true → ⊥
unpacked i f h p =
    let e : small_inode 0 i ≡ f = cc in
    let k : false ≡ true = ap (λ (g : InodeShown). is_packed g) e ∙ p in
    let z : ◌≡◌ {A = ℕ} 0 1 = cc in omega arith

clean_reads : Reads clean
clean_reads = record {
  of_packed = λ i f h p off len. absurd (unpacked i f h p);
  of_plain = λ i f bs h p q off len. let e : [] ≡ bs = cc in rw (← e, drop-nil, take-nil);
}

tangled_reads : Reads tangled
tangled_reads = record {
  of_packed = λ i f h p off len. absurd (unpacked i f h p);
  of_plain = λ i f bs h p q off len. let z : ◌≡◌ {A = Answer (List ℕ)} (Ok []) (Ok (take len (drop off bs))) = cc in z;
}

clean_tangled : Same clean tangled
clean_tangled = lone_same 0 (Ok []) (Err Corrupt) (Ok [])

clean_listed : listing clean 65_536 ≡ Ok (ascii "(volume 0 0 x\n(node 2 1 2 0 0 0 0 0 0 0 0 0 16877 - -\n(data x)\n)\n(total 1 0 0)\n)\n" [])
unfolding listing within if_le trace node_form attribute_lines data_line entry_forms reading ◌then◌ volume_line node_line contents_line total_line close footed totals_of lines_of all_lines line_totals begins if_eq signed digits places pairs
clean_listed = refl

tangled_refused : listing tangled 65_536 ≡ Err Corrupt
unfolding listing within if_le trace node_form attribute_lines data_line entry_forms reading ◌then◌ volume_line node_line contents_line total_line close footed totals_of lines_of all_lines line_totals begins if_eq signed digits places pairs
tangled_refused = refl

-- 2. A packed file must read as 3 throughout. If it read as its bytes, equal listings could be of volumes that are not the same.
abbrev packed_as : ℕ → View
packed_as b = lone 32 (Err Unsupported) (Ok (b ∷ []))

packed_listings : listing (packed_as 0) 65_536 ≡ listing (packed_as 1) 65_536
unfolding listing within if_le trace node_form attribute_lines data_line entry_forms reading ◌then◌ volume_line node_line contents_line total_line close footed totals_of lines_of all_lines line_totals begins if_eq signed digits places pairs
packed_listings = refl

packed_listed : listing (packed_as 0) 65_536 ≡ Ok (ascii "(volume 0 0 x\n(node 2 1 2 0 0 0 0 0 0 32 0 0 16877 - -\n(packed)\n)\n(total 1 0 0)\n)\n" [])
unfolding listing within if_le trace node_form attribute_lines data_line entry_forms reading ◌then◌ volume_line node_line contents_line total_line close footed totals_of lines_of all_lines line_totals begins if_eq signed digits places pairs
packed_listed = refl

packed_differ : Same (packed_as 0) (packed_as 1) → ⊥
unfolding follow
packed_differ s = go (s.chains [])
  where
    go : Agree (packed_as 0) (packed_as 1) (here (small_inode 32 2)) (here (small_inode 32 2)) → ⊥
    go (past p q) = let z : ◌≡◌ {A = ℕ} 0 1 = cc in omega arith
    go (on f p q e a r) = let h = r 0 1 in let z : ◌≡◌ {A = ℕ} 0 1 = cc in omega arith
