pub mod SameCalls
pub mod ToldLaws
mod AccessLaws
mod AnswerWords
mod Callers
mod ClosedCounters
mod DataLaws
mod DataOwners
mod LockStateids
mod OpenStateids
mod OwnerKinds
mod Puts
mod RowsExact
mod StateidLives
mod StateidMakers
mod StateidOnce
mod StateidOrder
mod StateidTurns
mod TreeActs
mod TreeLaws
