-- The laws of merging. A file uses only those named before it.
--   MergeLaws  two lists in one: its members and its order; the union of two runs, two tables in one
--   Walk       how it is made, turn by turn
--   RunsPaths  src/runs.rt
pub mod MergeLaws
pub mod Walk
mod RunsPaths
