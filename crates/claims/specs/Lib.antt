-- The definitions that the contracts of `claims` cite, in the order of document 01. Read them from the top,
-- after Store of the crate `keys` (Keys and the store).
--   Claim     Claims
--   Refusal   the number of each refusal
--   Answer    what a call returns, and how it is read from what the code returns
--   Question  Questions 1 to 7, and the first one answered no
--   Reply     The reply to one claim; a false match
--   Call      what each public call returns, for any content
--   Lent      the calls on a lent run of keys: an interface between our own crates, and no rule of document 01
--   Words     a claim in a lent run of words: as Lent
--   Cases     the twelve lettered cases, and rows for what document 02 changes
pub mod Claim
pub mod Refusal
pub mod Answer
pub mod Question
pub mod Reply
pub mod Call
pub mod Lent
pub mod Words
pub mod Cases
