pub mod Flagged
pub mod Marked
