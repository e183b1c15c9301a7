-- The lossy reading of bytes that come one after the other, up to the first zero byte, or the parts of it that are replaced. Document 01, bytes.rs:
-- "`cstr` stops at the first zero byte or the end and reads lossily"; document 02, request 02.
use Rattle.std.specs.Prelude.{ℕ, ◌<◌, ◌≡◌, Bool, List, [], ◌++◌, take, replicate}
use Rattle.error.specs.Answer.{pick, Answer}
use Rattle.byte_fields.specs.Part.{up_to_zero}
use Rattle.utf8.specs.Text.{lossy, replaced, shown, one_if_replaced}
use Rattle.utf8.specs.declared.Piece.{Piece}
use Rattle.text.specs.Output.{Output, output_of, puts}
use Rattle.feed.specs.declared.window.Window.{Window}
use Rattle.feed.specs.declared.feed.Feed.{Feed}

-- what a text is written as: its lossy reading, or a zero byte for each part of it that is replaced (document 02, request 02)
unfoldable pub written_as : Bool → List ℕ → List ℕ
written_as marks b = pick marks (replicate (replaced b) 0) (lossy b)

-- what its first piece is written as
abbrev pub shown_as : Bool → Piece → List ℕ → List ℕ
shown_as marks p b = pick marks (replicate (one_if_replaced p) 0) (shown p b)

-- the bytes that came and are not written yet
abbrev pub waiting : Window → List ℕ
waiting w = take w.len w.bytes

-- what was written, once the bytes xs have come too and all is written: document 01, "stops at the first zero byte or the end"
unfoldable pub fed : ℕ → Feed → List ℕ → List ℕ → Output
fed room f out xs = puts room (written_as f.marks (waiting f.window ++ pick f.ended [] (up_to_zero xs))) (output_of f.position out)

-- the same where no byte has come yet
unfoldable pub begun : Bool → ℕ → Answer ℕ → List ℕ → List ℕ → Output
begun marks room p out xs = puts room (written_as marks (up_to_zero xs)) (output_of p out)

-- r with its buffer is f with its own, and has room in its window
pub record Room (room : ℕ) (f : Feed) (before : List ℕ) (r : Feed) (after : List ℕ) : Type 0 where
  pub short : r.window.len < 4
  pub ends : r.ended ≡ f.ended
  pub kept : (xs : List ℕ) → fed room r after xs ≡ fed room f before xs
