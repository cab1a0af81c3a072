pub mod CardCalls
pub mod CardDemands
pub mod Sessions
