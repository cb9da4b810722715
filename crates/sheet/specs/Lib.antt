-- The definitions that the contracts of `sheet` cite: document 02, slip 4. Read them from the top.
--   Sheet  the wall sheet of some keys: lines, pages, and how long it is
--   Call   what the calls return, for any store, and what the lent buffer holds afterwards
--   Laid   what the code that lays it out is given: no rule of the request
--   Puts   what one piece more makes of a sheet in the making
--   Wall   what the program `wallsheet` prints
--   Cases  worked sheets
pub mod Sheet
pub mod Call
pub mod Laid
pub mod Puts
pub mod Wall
pub mod Cases
