-- Ring: commutative rings, sums and row operations. Integers and Rationals: whole numbers and the values of fractions are such rings. Elimination: Forward and
-- Backward as row operations. Fractions: fractions as Elimination asks for them. Updates: the four updates. Theorem: every list of calls.
pub mod Ring
pub mod Integers
pub mod Rationals
pub mod Elimination
pub mod Fractions
pub mod Updates
pub mod Theorem
pub mod Example
