pub mod Stages
pub mod Rules
pub mod Laws
pub mod Tells
