pub mod Boxes
mod FillLemmas
mod OpenLemmas
