pub mod PartyLemmas
pub mod WireLaws
