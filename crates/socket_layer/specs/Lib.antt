pub mod MemSocket
