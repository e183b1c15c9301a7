pub mod Spans
pub mod ReadLaws
pub mod CopyLaws
pub mod PasteLaws
pub mod CopyTurns
pub mod FileLaws
pub mod FileParts
