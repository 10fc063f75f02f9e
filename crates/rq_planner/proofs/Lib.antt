mod Told
pub mod Handing
mod Gathered
pub mod Replies
mod Backs
mod Lawful
pub mod Knowing
mod Choosing
pub mod Readings
pub mod Options
pub mod Asking
mod Tags
mod Latches
