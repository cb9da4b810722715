-- The laws of `nodes`. A file uses only those named before it.
--   LentLaws        what admitting an image and taking a claim into a lent node mean (specs/Lent)
--   Compared        two claims compared as the code does it
--   OrderPaths      one law for each way that the code of src/order.rt goes
--   AdmittingPaths  the same of src/admitting.rt
--   TakingPaths     the same of src/taking.rt
--   JoiningPaths    the same of src/joining.rt
--   JoiningLaws     what joining two lent nodes means (specs/Joining)
--   Cases           a refusal that leaves the node as it was
pub mod LentLaws
mod Compared
mod OrderPaths
mod AdmittingPaths
mod TakingPaths
mod JoiningPaths
pub mod JoiningLaws
mod Cases
