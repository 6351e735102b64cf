pub mod CallLemmas
pub mod TreeLemmas
