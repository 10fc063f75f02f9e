pub mod CellEntries
pub mod Doings
pub mod Spans
pub mod Refusing
pub mod Cells
