pub mod Mirror
pub mod Written
