pub mod ClientView
