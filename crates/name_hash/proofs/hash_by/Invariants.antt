-- the characters left give the whole hash
use Rattle.std.proofs.Common.{◌≡◌, drop}
use Rattle.name_hash.specs.Hash.{name_hash}
use Rattle.name_hash.proofs.Laws.{hash_from}
use Rattle.name_hash.proofs.hash_by.Given as goal

abbrev pub invariant-loop-x : goal.invariant-loop-x
invariant-loop-x l = hash_from l.insensitive l.c (drop l.x-index l.name) ≡ name_hash l.insensitive l.name
