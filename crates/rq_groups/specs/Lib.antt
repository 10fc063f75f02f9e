pub mod Changes
pub mod Heads
pub mod Chains
pub mod Ends
pub mod Waiting
pub mod Sent
pub mod Sides
