-- The definitions that the contracts of `keys` cite. Read them from the top; what comes after them is in `claims`, specs/.
--   Store     Keys and the store
--   Place     what a lent run holds once something is written at a place of it
--   Lent      the calls on a lent run of keys: an interface between our own crates, and no rule of document 01
--   Cases     question 1 of stores with these or those sums
pub mod Store
pub mod Place
pub mod Lent
pub mod Cases
