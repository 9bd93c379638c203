pub mod Filling
pub mod Paging
pub mod GivenUp
pub mod Lengths
pub mod Levels
pub mod Cutting
pub mod Took
pub mod Cited
