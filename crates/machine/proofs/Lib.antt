-- Independence: nothing in the machine reads what is not active. One file for each file of definitions, and Step for the theorem. Diagonals says which
-- diagonal a solve names, LentData which place of its data an update names, Readiness which factors are ready, Numbered which numbers its refusals have, CountLimits how many pair steps a call makes at most, and Counter what lists of calls make of the counter.
pub mod Choice
pub mod Products
pub mod Forward
pub mod Backward
pub mod Updates
pub mod Solves
pub mod Refusals
pub mod LentData
pub mod Numbered
pub mod Diagonals
pub mod Readiness
pub mod Step
pub mod Counts
pub mod CountLimits
pub mod Counter
