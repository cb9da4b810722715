-- Laws of the definitions of the upper layer. The worked examples stand first: a definition that is wrong fails there. XLaws are the laws of specs/X.
--   Cases      the worked examples
--   TableLaws  the pending table
--   NodeLaws   a node in order
--   RoundLaws  a round: both stores grow within their union, nothing waits at the end, how many deliveries there are. It rests, idea by idea, on
--     Union      the union of two stores
--     Pair       both stores of a round, and one of them replaced
--     Entry      what waits, and its weight
--     Deliver    one delivery: what it adds, and that its answers weigh less
--     Half       a half ends, and its deliveries and what waits fit the union
--   CallLaws   what the calls return, one law a return path; what comes out is in order
--   Sorted     lists that rise by an order: keys and claims
--   Joining    two tables in one, two nodes in one
--   Words      claims and records as words
pub mod Cases
pub mod TableLaws
pub mod NodeLaws
pub mod Union
pub mod Pair
pub mod Entry
pub mod Deliver
pub mod Half
pub mod RoundLaws
pub mod CallLaws
pub mod Sorted
pub mod Joining
pub mod Words
