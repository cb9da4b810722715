-- The laws of the definitions of specs/. A file uses only those named before it. `..Laws` say what definitions mean, `..Paths` have a law for each way
-- that the code of a file of src/ goes, unless the check finds it alone.
--   Tests           conjunctions, the cases of two numbers
--   PlaceLaws       what a lent run holds once something is written to it (specs/Place)
--   Rising          rising lists of keys, by their members
--   Insert          entering keys
--   Position        the position of a key
--   StoreLaws       a store in order (specs/Store)
--   SumLaws         running sums, right below a mark and worked out anew
--   HalvingLaws, QuarteringLaws    the two searches of specs/Lent: of one to three keys; a turn, the fuel
--   PartingLaws     what they find in a part of the run
--   FindingLaws     what they find among rising keys
--   PuttingLaws     putting an element in at a place
--   LentLaws        what the calls on a lent run mean, above all where the run is a store in order (specs/Lent)
--   Cases           rows of question 1
-- The laws of the code, cited by its proofs alone.
--   LeafPaths       src/leaf.rt
--   SearchPaths     src/search.rt
--   LentPaths       src/lent.rt
pub mod Tests
pub mod PlaceLaws
pub mod Rising
pub mod Insert
pub mod Position
pub mod StoreLaws
pub mod SumLaws
mod HalvingLaws
mod QuarteringLaws
mod PartingLaws
mod FindingLaws
pub mod PuttingLaws
pub mod LentLaws
pub mod Cases
mod LeafPaths
mod SearchPaths
mod LentPaths
