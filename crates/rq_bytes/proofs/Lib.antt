pub mod Placed
pub mod Overlaid
pub mod Strings
pub mod Compared
