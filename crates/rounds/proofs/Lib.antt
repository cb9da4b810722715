-- The laws of the code of src/log.rt, each way that it goes.
--   Narrow      senders and counts that fit their fields
--   LogLaws     records and words, and that a round on its words is the round
mod Narrow
mod LogLaws
