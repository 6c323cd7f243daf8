pub mod Numbers
pub mod CallWords
pub mod Words
pub mod Grammar
pub mod LineGrammar
pub mod Printing
pub mod NearWords
