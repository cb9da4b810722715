-- A page in the making: what one piece more makes of it. Assumes nothing.
use Rattle.std.specs.Prelude.{ℕ, List, ◌≡◌, ◌≤◌, length}
use Rattle.text.specs.Put.{Put}
use Rattle.rehearsal.specs.declared.page.Page.{Page}

-- some text, of so many characters at most, put where the page ended, into the same buffer, which is as long as it was and has room for it
pub record Puts (before : Page) (text : List ℕ) (most : ℕ) (after : Page) : Type 0 where
  pub same : after.out.ghost_name ≡ before.out.ghost_name
  pub long : length after.out.now ≡ length before.out.now
  pub fits : after.end ≤ length after.out.now
  pub put : Put before.out.now before.end text most after.end after.out.now
