mod Replaying
mod NoEntries
mod Moves
mod Ties
mod Receiving
mod Leading
pub mod Crossing
