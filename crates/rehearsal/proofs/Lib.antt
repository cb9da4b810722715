-- The laws of `rehearsal`, by topic. A file uses only those named before it. XLaws has laws of what specs/X means, XPaths one law for each way that
-- src/x.rt goes.
--   RehearsalLaws  what is decided by a number; the deliveries fit the records
--   UnionLaws      which unions get 8 and 9
--   RunPaths       the two images and the round
--   TextLaws       the lines of deliveries
--   PagePaths      lines, and the whole text
pub mod RehearsalLaws
pub mod UnionLaws
pub mod RunPaths
pub mod TextLaws
pub mod PagePaths
