pub mod Keyed
pub mod Reading
pub mod Stopped
pub mod Texts
pub mod Told
pub mod Written
