pub mod Alike
pub mod Refusals
pub mod Made
pub mod Planned
