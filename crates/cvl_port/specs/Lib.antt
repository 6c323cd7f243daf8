pub mod Replies
pub mod Ports
pub mod Lines
pub mod Posts
pub mod Begun
pub mod Closings
pub mod Families
