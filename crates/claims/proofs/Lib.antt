-- The laws of the definitions of specs/, over those of `keys`. A file uses only those named before it. `..Laws` say what definitions mean, `..Paths` have
-- one law for each way that the code of a file of src/ goes.
--   Xor           the XOR of a list
--   Between       the keys from lo to hi
--   Span          the keys at positions i to j, which are those from key i to key j
--   Stretch       all keys from one of them to one of them
--   QuestionLaws  the first question answered no; a claim that passes 2 to 5 and 16
--   RefusalLaws   what the number of a refusal says
--   ClaimLaws     claims of spans
--   ReplyLaws     what a reply says; a match that is not false
--   ThirdLaws     the middle key of three: where it is added the reply is a match
--   CountLaws     which answer a claim gets, by counts alone
--   LackLaws      a claim that comes to a store which lacks its keys
--   Cases         the twelve lettered cases
--   SpanSums      a span's sum, from two running sums
--   LentLaws      what the calls on a lent run mean
--   WordsLaws     what it means to read and to write a claim in words
-- The laws of the code, cited by its proofs alone.
--   ClaimPaths    src/claim.rt
--   LentPaths     src/lent.rt
--   CallsPaths    src/calls.rt
pub mod Xor
pub mod Between
pub mod Span
pub mod Stretch
pub mod QuestionLaws
pub mod RefusalLaws
pub mod ClaimLaws
pub mod ReplyLaws
pub mod ThirdLaws
pub mod CountLaws
pub mod LackLaws
pub mod Cases
pub mod SpanSums
pub mod LentLaws
pub mod WordsLaws
mod ClaimPaths
mod LentPaths
mod CallsPaths
