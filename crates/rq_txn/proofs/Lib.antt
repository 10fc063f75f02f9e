pub mod Finding
mod Counting
pub mod Placing
pub mod Standing
mod Tallying
