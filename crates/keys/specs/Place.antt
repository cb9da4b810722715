-- What a lent run holds once something is written at a place of it: "output past what was written keeps its contents" (document 01), and so does what
-- stands before. Assumes nothing.
use Rattle.std.specs.Prelude.{ℕ, List, ◌++◌, length, take, drop}

unfoldable pub put_at : {A : Type 0} → List A → ℕ → List A → List A
put_at s at bs = take at s ++ (bs ++ drop (length bs) (drop at s))
