-- The definitions that the contracts of `searches` cite.
--   Told      a place as one number, for programs in other languages
pub mod Told
