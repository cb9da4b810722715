-- The definitions that the contracts of `drill` cite.
--   Request  how long a request's words are, and where its parts end
--   Call     how many words each call needs
pub mod Request
pub mod Call
