use Rattle.std.proofs.Common.{◌≡◌, drop}
use Rattle.paths.specs.Names.{same_keys}
use Rattle.paths.proofs.compare.same_key.Given as goal

abbrev pub invariant-loop-i : goal.invariant-loop-i
invariant-loop-i l =
    same_keys l.rule.case_insensitive l.rule.normalization_insensitive (drop l.i l.a) (drop l.i l.b)
    ≡ same_keys l.rule.case_insensitive l.rule.normalization_insensitive l.a l.b
