-- How the reading of a record goes on from its steps.
use Rattle.btree.proofs.Laws as tree_laws

pub ruleset all = (tree_laws.all)
