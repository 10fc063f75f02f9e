mod Gates
mod Carrying
mod Holding
