pub mod CardDemands
pub mod Sessions
pub mod Resumption
pub mod Satisfiable
