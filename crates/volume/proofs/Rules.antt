-- The form of directory keys, by the rule.
use mathlib.Core.Path.{◌≡◌}
use mathlib.Core.Bool.{Bool}
use borrow.Author.Rules.{rules}
use Rattle.volume.specs.Rule.{rule_of, insensitive, hashed_keys}
use Rattle.volume.specs.declared.Volume.{Volume}
use Rattle.volume.specs.declared.rule.NameRule.{NameRule}

pub keys_by_rule : (v : Volume) (rule : NameRule) (d : Bool) → rule ≡ rule_of v → d ≡ insensitive rule → d ≡ hashed_keys v
unfolding hashed_keys
keys_by_rule v rule d e h = rw e at h

pub ruleset by_rule = (rules, keys_by_rule)
