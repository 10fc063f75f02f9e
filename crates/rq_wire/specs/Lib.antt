pub mod Spelling
pub mod Looks
pub mod Stream
pub mod Faults
pub mod Notes
