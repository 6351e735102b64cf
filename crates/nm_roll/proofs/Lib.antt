pub mod CaseLemmas
pub mod RowLemmas
pub mod LoopLemmas
pub mod LeaseLaws
