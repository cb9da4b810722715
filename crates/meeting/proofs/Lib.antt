-- The proof of demand 3. A file uses only those named before it.
--   Progress   a round in which no match is false brings a key across, if the stores differ
--   Apart      how many keys just one of two stores holds, and that a round leaves fewer
--   Backed     what a claim is worth, whoever made it and whenever it arrives
--   WorldLaws  what each event comes to; a refused one changes nothing
--   Invariant  what every event keeps, from any world that has it
--   Meeting    two kiosks that meet come away with the same keys
--   Theorem    demand 3, for every list of events
--   Beyond     what follows besides: nothing is turned away for want of space before the limit is reached
--   Equal      a round of two equal stores
--   Local      a delivery depends only on the keys in its range
--   Sum        what waits has disjoint ranges, so deliveries add up
--   Fuller     where one store has all keys of the other, a round makes them equal, whatever matches
--   Counting   what waits costs, where one end has all keys: what follows from a help
--   Claiming   .. and from a claim of that end
--   Opening    what a new kiosk costs (document 02, slip 5)
--   Examples   lists that meet every premise
pub mod Progress
pub mod Apart
pub mod Backed
pub mod WorldLaws
pub mod Invariant
pub mod Meeting
pub mod Theorem
pub mod Beyond
pub mod Equal
pub mod Local
pub mod Sum
pub mod Fuller
pub mod Counting
pub mod Claiming
pub mod Opening
pub mod Examples
