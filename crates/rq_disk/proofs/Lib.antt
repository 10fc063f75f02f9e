pub mod KeptCalls
pub mod KeptLog
pub mod KeptPages
pub mod LogFiles
pub mod PageFiles
pub mod Records
pub mod Replays
pub mod SinceCalls
