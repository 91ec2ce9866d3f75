pub mod Moment
pub mod Due
pub mod Hhmm
pub mod TimeFaults
