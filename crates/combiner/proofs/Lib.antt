mod Seats
mod Turns
mod Begun
mod Owning
mod Batches
mod PassSteps
mod Tellings
pub mod AllLists
pub mod Alone
