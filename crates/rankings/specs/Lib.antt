pub mod SelfCalls
pub mod Entailment
pub mod Rankings
pub mod Templates
pub mod Passes
pub mod Caps
pub mod Visits
pub mod Laws
