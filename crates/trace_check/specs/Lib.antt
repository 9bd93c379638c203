pub mod Leads
pub mod Turn
pub mod After
pub mod SentLines
pub mod Walk
