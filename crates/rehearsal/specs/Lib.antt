-- The definitions that the contracts of `rehearsal` cite, in the order of document 01. Read them from the top.
--   Answer     what a rehearsal returns, and what a `Result` of the code says of it
--   Rehearsal  what is decided: the two images, the questions, the round
--   Text       what is printed; numbers as text are in `text`
--   Page       how the code puts it
pub mod Answer
pub mod Rehearsal
pub mod Text
pub mod Page
