-- The laws of `text`. A file uses only those named before it. `..Laws` say what definitions mean, `..Paths` have one law for each way that the code of a
-- file of src/ goes.
--   GroupsLaws    things in groups (specs/Groups)
--   DecimalLaws   numbers as text (specs/Decimal)
--   LineLaws      the line of a refusal (specs/Line)
--   PutLaws       text at a place of a buffer (specs/Put)
-- The laws of the code, cited by its proofs alone.
--   BytesPaths    src/bytes.rt
--   DigitsPaths   src/digits.rt
--   RefusedPaths  src/refused.rt
pub mod GroupsLaws
pub mod DecimalLaws
pub mod LineLaws
pub mod PutLaws
mod BytesPaths
mod DigitsPaths
mod RefusedPaths
