pub mod Watches
pub mod Lives
pub mod Known
pub mod Noted
