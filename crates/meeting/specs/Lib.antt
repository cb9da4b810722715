-- Demand 3 in definitions (document 01, "Lists of events"). Read them from the top.
--   Event      an event: one call with all its arguments
--   World      the kiosks and the claims made so far; what an event makes of them; which keys were entered
--   Premise    which lists are meant
--   Statement  the theorem's statement; its proof is `every_list_meets` of proofs/Theorem
--   Opening    what a round comes to where one store has all keys of the other, or is empty (document 02, slip 5)
--   Examples   lists of events that meet every premise
pub mod Event
pub mod World
pub mod Premise
pub mod Statement
pub mod Opening
pub mod Examples
