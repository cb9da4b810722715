-- The definitions that the contracts of `wire` cite, in the order of document 01. Read them from the top.
--   Answer    what the calls return, and what stands for it in the code
--   Number    numbers in bytes, high byte first
--   Claim     a claim in 26 bytes
--   Run       keys or claims, one after the other
--   Lengths   how many bytes a number and a claim take
--   Length    a length as a call returns it
--   Frame     frames, read and written
--   Image     images, read and written
--   OldLimit  reading an image under another limit
--   Sizes     what an image's counts tell, as the code hands it on
--   Cases     worked examples, as three tables
--   Lent      calls between our own crates, on lent keys, and no rule of document 01
pub mod Answer
pub mod Number
pub mod Claim
pub mod Run
pub mod Lengths
pub mod Length
pub mod Frame
pub mod Image
pub mod OldLimit
pub mod Sizes
pub mod Cases
pub mod Lent
