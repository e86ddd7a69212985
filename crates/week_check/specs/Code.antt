-- What the check's code tests, one place at a time. Assumes nothing: these are definitions.
use Rattle.std.specs.Prelude.{ℕ, Bool, ◌&&◌, ◌||◌, leb}
use Rattle.week.specs.declared.Window.{Window}
use Rattle.week.specs.Weeks.{is_window, is_unused}

-- whether a place may stand after a window that ends at the minute m
unfoldable pub fits : ℕ → Window → Bool
fits m w = is_unused w || (is_window w && leb m w.first)
