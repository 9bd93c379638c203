pub mod Booleans
pub mod Choices
pub mod Copies
pub mod Outcomes
pub mod Numbers
pub mod Lists
pub mod Recordings
