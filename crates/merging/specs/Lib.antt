-- Merging in definitions, between our own crates and no rule of document 01 or 02.
--   Merge  two lists in one
pub mod Merge
