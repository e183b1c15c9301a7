-- How a volume compares names, and which form its directory keys have.
use Rattle.std.specs.Prelude.{◌/◌, ◌%◌, Bool, ◌||◌, eqb}
use Rattle.volume.specs.declared.Volume.{Volume}
use Rattle.volume.specs.declared.rule.NameRule.{NameRule}

-- the name rule of a volume, by its incompatible features: APFS_INCOMPAT_CASE_INSENSITIVE 0x1, APFS_INCOMPAT_NORMALIZATION_INSENSITIVE 0x8
-- (Apple File System Reference, "Volumes"; fs.rs, `name_rule`)
unfoldable pub rule_of : Volume → NameRule
rule_of v = record { case_insensitive = eqb (v.sb.incompat % 2) 1; normalization_insensitive = eqb (v.sb.incompat / 8 % 2) 1 }

-- "an insensitive volume"
abbrev pub insensitive : NameRule → Bool
insensitive rule = rule.case_insensitive || rule.normalization_insensitive

-- document 02, request 03: "hashed keys where names are case-insensitive or normalization-insensitive, plain keys elsewhere"
unfoldable pub hashed_keys : Volume → Bool
hashed_keys v = insensitive (rule_of v)
