pub mod Changes
pub mod Shown
pub mod CompareTable
pub mod CompareCsv
pub mod CompareJson
