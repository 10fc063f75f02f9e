pub mod Spelling
pub mod Reading
pub mod Decoding
pub mod Deeds
pub mod DeedReading
pub mod Sizes
