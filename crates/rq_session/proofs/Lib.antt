pub mod Commits
pub mod EachTurn
pub mod Balances
pub mod Telling
pub mod Due
pub mod One
