pub mod Walks
pub mod Stops
pub mod LeftOut
pub mod OneRead
pub mod Shown
