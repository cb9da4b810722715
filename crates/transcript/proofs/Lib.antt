-- The laws of a round on words: what specs/Core means, and each way that the code goes.
--   WordsLaws, StepLaws, CoreLaws        records in words; deliveries until none waits; the core of a round on flat words is the round
--   RecordPaths, FlatPaths               the functions of src/record.rt and src/flat.rt
mod RecordPaths
pub mod WordsLaws
mod StepLaws
mod CoreLaws
mod FlatPaths
