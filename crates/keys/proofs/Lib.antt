pub mod Scalars
pub mod LetterLaws
pub mod AsciiLaws
pub mod StreamLaws
pub mod RangeLaws
pub mod PrefixLaws
