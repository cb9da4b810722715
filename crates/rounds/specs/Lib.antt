-- What the code between a round's words and its records does to any content: an interface between our own functions, and no rule of document 01.
--   Log   records in a lent slice of delivery structs
pub mod Log
