-- The laws of `host`. A file uses only those named before it. `..Laws` say what definitions mean, `..Paths` have one law for each way that the code of a
-- file of src/ goes; the others are named for what they are about.
--   Cases       a frame near the limit
--   SignPaths   src/sign.rt: lengths and minus numbers in 64 bits
--   TurnPaths   src/turn.rt: the claims of a frame taken in turn, by a node in order
--   FramesLaws  claims in frames of four (specs/Frames)
--   Passing     the claims that a beat sends may go into a frame
--   Words       claims in a lent run of words
--   SentPaths   src/sent.rt
--   Beats       a beat of a node in order, run on a lent run of words
--   EnterPaths  src/enter.rt: a key entered into a node in order
--   SavePaths   src/save.rt: the end of a call that writes one image
--   LibPaths    src/lib.rt: what the host calls return
--   JoinPaths   src/join.rt: two images joined
--   SheetPaths  src/lib.rt: the wall sheet of an image
--   CostPaths   src/lib.rt: what a new kiosk costs
--   Fitting     numbers that fit their widths in bytes
--   Trips       what the daemon is given back is what the next call takes
--   Joins       two images in one: in either order, with itself, read back, and as an event
pub mod Cases
mod SignPaths
mod TurnPaths
mod FramesLaws
mod Passing
mod Words
mod SentPaths
mod Beats
mod EnterPaths
mod SavePaths
mod LibPaths
mod JoinPaths
mod SheetPaths
mod CostPaths
mod Fitting
pub mod Trips
pub mod Joins
