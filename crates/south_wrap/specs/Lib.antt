pub mod SouthState
pub mod Translation
pub mod SouthPoint
