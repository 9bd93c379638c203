pub mod Handing
pub mod PairRun
