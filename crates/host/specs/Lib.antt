-- The definitions that the contracts of `host` cite. Read them from the top, beside document 01, "Frame and image" (host calls) and "Questions".
--   Taking  the claims of a frame taken in turn, with question 6 for each
--   Frames  a beat's claims in frames
--   Call    what each host call returns, for any bytes, and what its lent buffers hold afterwards
--   Known   what the code knows on its way: no rule of document 01
--   Cases   a frame near the limit
pub mod Taking
pub mod Frames
pub mod Call
pub mod Known
pub mod Cases
