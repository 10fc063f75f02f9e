pub mod Chains
pub mod Cover
pub mod Faults
pub mod Followed
pub mod Nexts
pub mod Options
pub mod Sound
pub mod Walks
