mod Leading
mod Leaving
mod Rounds
