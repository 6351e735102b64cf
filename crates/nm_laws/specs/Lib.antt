pub mod SeqidCalls
pub mod ToldRanges
pub mod DataReadings
pub mod StateidNow
pub mod StateidRows
pub mod TreeReadings
pub mod RowsLeft
