pub mod Asked
pub mod Answered
pub mod Lawful
pub mod Backs
pub mod Handed
pub mod PageUndos
