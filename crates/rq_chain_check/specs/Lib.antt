pub mod Links
pub mod Follows
pub mod Stops
pub mod Theorems
