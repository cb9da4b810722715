-- What the code of a round does to any content, step by step: an interface between our own functions, and no rule of document 01.
--   Core  the round's core on flat words
pub mod Core
