pub mod Agreement
pub mod Forms
pub mod GoodLines
pub mod Kinds
pub mod Places
pub mod Printed
pub mod Wrongs
