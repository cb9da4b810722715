-- The laws of `sheet`. A file uses only those named before it. `..Laws` say what definitions mean, `..Paths` have one law for each way that the code of a
-- file of src/ goes.
--   Cases        worked sheets
--   LineLaws     one line (specs/Sheet)
--   SheetLaws    lines, pages and the text of a sheet: `sheet_lines_lem`, every line has 62 characters and a line feed
--   TellsLaws    the sheet tells the keys: `sheet_tells_keys`
--   CallLaws     what the calls tell (specs/Call)
-- The laws of the code, cited by its proofs alone.
--   LayoutPaths  src/layout.rt
--   CallPaths    src/call.rt
--   WallPaths    src/wall.rt
pub mod Cases
pub mod LineLaws
pub mod SheetLaws
pub mod TellsLaws
pub mod CallLaws
mod LayoutPaths
mod CallPaths
mod WallPaths
