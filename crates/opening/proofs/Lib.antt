-- The laws of `opening`. A file uses only those named before it.
--   Cases      worked costs
--   CostLaws   E (specs/Cost): the four equations of the request, and that it is at most n
--   CostPaths  the ways that the code works E out: cited by its proof alone
--   CallLaws   what the call tells (specs/Call)
pub mod Cases
pub mod CostLaws
mod CostPaths
pub mod CallLaws
