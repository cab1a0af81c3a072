-- Totals, Words and Blocks are about bytes and words; Entries about the order of a state's entries; Cards about states whose entries are words; Tests about
-- the refusals; Writing and Damage about the laws of request (b), which CardLaws has together; ByteSums about request (c). Put and
-- CardPut are for the functions that write a card.
pub mod Totals
pub mod Words
pub mod Blocks
pub mod Entries
pub mod Cards
pub mod Tests
pub mod Writing
pub mod Damage
pub mod CardLaws
pub mod ByteSums
pub mod Put
pub mod CardPut
