-- The rule of the upper layer in definitions, which the contracts of the crates above cite.
-- Read them from the top, beside document 01, "A round" and "Pending table and beat".
--   Table     the order of pending claims, taking one into the table, two tables in one, what a beat sends and keeps
--   Node      a node: its keys and its pending claims, in order
--   Round     the union of two stores; a round: what waits, what a delivery does, two halves, the transcript, which matches are false
--   Question  question 1 for nodes, 8, 9 and 15
--   Answer    what the calls return, and what an answer of the code stands for
--   Call      what each public call returns, for any content, and what every lent place holds afterwards
--   Cases     worked examples, as one list of rows
pub mod Table
pub mod Node
pub mod Round
pub mod Question
pub mod Answer
pub mod Call
pub mod Cases
