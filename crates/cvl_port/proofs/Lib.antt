mod LineLemmas
mod PortLemmas
pub mod BeginLemmas
