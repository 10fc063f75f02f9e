pub mod Fronts
pub mod Spells
pub mod Faults
pub mod Streams
