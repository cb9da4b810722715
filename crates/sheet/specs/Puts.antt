-- A sheet in the making: what one piece more makes of it. No rule of the request. Assumes nothing.
use Rattle.std.specs.Prelude.{ℕ, List, ◌≡◌, ◌+◌, ◌≤◌, length}
use Rattle.keys.specs.Place.{put_at}
use Rattle.sheet.specs.declared.layout.Sheet.{Sheet}

-- some text, of so many characters, put where the sheet ended, into the same buffer, which is as long as it was and has room for it
pub record Puts (before : Sheet) (text : List ℕ) (size : ℕ) (after : Sheet) : Type 0 where
  pub same : after.out.ghost_name ≡ before.out.ghost_name
  pub long : length after.out.now ≡ length before.out.now
  pub sized : length text ≡ size
  pub ends : after.end ≡ before.end + size
  pub fits : after.end ≤ length after.out.now
  pub put : after.out.now ≡ put_at before.out.now before.end text
