pub mod EventLines
pub mod Bytes
pub mod Line
pub mod ReadResult
pub mod Fleeting
