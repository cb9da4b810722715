-- The definitions that the contracts of `opening` cite: document 02, slip 5. Read them from the top.
--   Cost   E, the deliveries that fill an empty store
--   Call   what the call returns, for any number of keys
--   Cases  worked costs, beside the rounds themselves
pub mod Cost
pub mod Call
pub mod Cases
