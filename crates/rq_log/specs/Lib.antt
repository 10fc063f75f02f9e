pub mod Counted
pub mod Crash
pub mod Logged
pub mod Places
pub mod Reading
pub mod Spelled
