-- The definitions that the contracts of `text` cite.
--   Decimal  numbers as text
--   Put      text at a place of a lent buffer, whole or not at all
--   Line     the line feed, and the line of a refusal
--   Groups   things in groups of so many, and the rest in a last one
pub mod Decimal
pub mod Put
pub mod Line
pub mod Groups
