-- What a volume answers, with nothing of blocks or trees in it. Document 01, "The listing (added)": "Two volumes, and two lookups, are compared with
-- names and labels so read .. places in the image and node counts are left out".
use Rattle.std.specs.Prelude.{ℕ, List}
use Rattle.error.specs.Answer.{Answer}
use Rattle.volume.specs.declared.rule.NameRule.{NameRule}
use Rattle.lines.specs.Shown.{InodeShown, EntryShown, AttributeShown}

-- the label and the name rule; then by id an inode, "the entries `read_dir` gives there", the attributes, "each attribute with the contents of its
-- own record or stream", a file's contents as the listing reads them, and a file read at an offset and a length
pub record View : Type 0 where
  pub label : List ℕ
  pub rule : NameRule
  pub inode : ℕ → Answer InodeShown
  pub entries : ℕ → Answer (List EntryShown)
  pub attributes : ℕ → Answer (List (AttributeShown (Answer (List ℕ))))
  pub contents : ℕ → Answer (List ℕ)
  pub read : ℕ → ℕ → ℕ → Answer (List ℕ)
