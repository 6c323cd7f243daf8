pub mod Standing
pub mod Cases
pub mod Making
pub mod Says
pub mod Own
pub mod Serving
pub mod Passes
