-- What the counts of some bytes tell, as the code hands it on from one function to the next. Assumes nothing.
use Rattle.std.specs.Prelude.{ℕ, ◌+◌, ◌≤◌, true, cond, List, ◌≡◌, length, Result, Ok, Err}
use Rattle.keys.specs.Store.{limit}
use Rattle.claims.specs.declared.refusal.Refusal.{Refusal}
use Rattle.claims.specs.declared.refusal.Refusal.TheVariants.{WrongImageLength}
use Rattle.rule.specs.Table.{table_limit}
use Rattle.wire.specs.declared.images.Sizes.{Sizes}
use Rattle.wire.specs.Image.{key_section, claim_section, sections, section_length, count_of, behind, count_fits, counts_fit, told_length}

-- the count of the section at the front, of which there may be `most` things: refused where it is not there or too high
unfoldable pub count_told : ℕ → List ℕ → Result ℕ Refusal
count_told most bs = cond (count_fits most bs) (Ok (count_of bs)) (Err WrongImageLength)

-- the counts of the whole image
unfoldable pub sizes_of : List ℕ → Result Sizes Refusal
sizes_of bs =
    cond (counts_fit sections bs)
    (Ok (record { keys = count_of bs; pending = count_of (behind key_section bs) }))
    (Err WrongImageLength)

-- neither count is too high
pub record Few (s : Sizes) : Type 0 where
  pub keys : s.keys ≤ limit
  pub pending : s.pending ≤ table_limit

-- how long the image is that they tell of
abbrev pub length_of : Sizes → ℕ
length_of s = section_length key_section s.keys + section_length claim_section s.pending

-- bytes whose counts are n and m, and whose length is theirs
pub record AsTold (bs : List ℕ) (n m : ℕ) : Type 0 where
  pub counts : counts_fit sections bs ≡ true
  pub whole : length bs ≡ told_length sections bs
  pub keys : n ≡ count_of bs
  pub pending : m ≡ count_of (behind key_section bs)

-- .. with room for so many keys and claims
pub record Readable (bs : List ℕ) (s : Sizes) : Type 0 where
  pub told : AsTold bs s.keys s.pending
  pub few : Few s
  pub enough : length_of s ≤ length bs
