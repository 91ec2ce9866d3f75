pub mod ByDelay
