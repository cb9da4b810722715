-- A call between our own crates, and no rule of document 01. The beat itself is `beaten` of `rule`.
--   Lent  the beat of a node whose keys are lent, for any content
pub mod Lent
