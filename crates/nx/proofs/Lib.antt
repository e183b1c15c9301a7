pub mod Laws
pub mod SlotTurns
pub mod BlockZero
pub mod Objects
pub mod MapBlocks
pub mod LatestCheckpoint
pub mod Numbers
