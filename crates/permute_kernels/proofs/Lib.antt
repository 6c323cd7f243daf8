pub mod Gathering
pub mod Joining
pub mod Marking
pub mod OneSegment
pub mod Parts
pub mod Placing
