-- The laws of the definitions of specs/ (`XLaws` of specs/X), one law for each way of the code (`XPaths` of src/x.rt), and the round trips. A file uses
-- only those named before it.
--   NumberLaws    numbers in bytes, over the width
--   ClaimLaws     a claim in bytes
--   RunLaws       keys or claims, one after the other
--   FrameLaws     questions 10 to 13, and what the two calls return
--   FramePaths    the ways of src/frames.rt
--   FrameTrips    the round trips of frames
--   ImageLaws     question 14, and what the calls return
--   SizesLaws     what an image's counts tell
--   LentLaws      the calls on lent keys, by the definitions of images
--   ImagePaths    the ways of src/images.rt
--   SectionLaws   a section at the front of some bytes, both ways
--   ImageTrips    the round trips of images
--   OldLimitLaws  images saved under the old limit
--   Cases         the worked examples
pub mod NumberLaws
pub mod ClaimLaws
pub mod RunLaws
pub mod FrameLaws
pub mod FramePaths
pub mod FrameTrips
pub mod ImageLaws
pub mod SizesLaws
pub mod LentLaws
pub mod ImagePaths
pub mod SectionLaws
pub mod ImageTrips
pub mod OldLimitLaws
pub mod Cases
