-- The laws of the code, cited by its proofs alone. What a place means is in `keys`, proofs/LentLaws.
--   LibPaths  src/lib.rt
mod LibPaths
