-- The laws of the definitions of specs/ and of the code of src/. Only LentLaws is cited from outside.
--   LentLaws    what the beat of a node whose keys are lent means
--   BeatsPaths  each way that the code of src/beats.rt goes
pub mod LentLaws
mod BeatsPaths
