pub mod Asking
pub mod Held
pub mod Carried
