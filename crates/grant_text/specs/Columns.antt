-- A figure in a column of the text. Assumes nothing.
use Rattle.std.specs.Prelude.{ℕ, ◌-◌, List, ◌++◌, length, replicate, decimal}

-- n in decimal at the right of w columns, blanks before it.
unfoldable pub column : ℕ → ℕ → List ℕ
column w n = replicate (w - length (decimal n)) 32 ++ decimal n
