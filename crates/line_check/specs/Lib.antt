pub mod Words
pub mod Left
pub mod EventWords
pub mod HeaderText
