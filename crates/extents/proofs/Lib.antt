pub mod Verdicts
pub mod ExtentLaws
pub mod VerdictLaws
pub mod JudgeLaws
pub mod JudgeTurns
