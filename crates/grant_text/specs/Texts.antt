-- The text of a grant. Assumes nothing.
use Rattle.std.specs.Prelude.{ℕ, List, [], ◌∷◌, ◌++◌, length, codes}
use Rattle.std.specs.List.{flat_map}
use Rattle.grant.specs.declared.grant.row.Row.{Row}
use Rattle.grant.specs.declared.grant.Grant.{Grant}
use Rattle.grant.specs.Grants.{rows_of}
use Rattle.grant_text.specs.Columns.{column}

-- The figures of the first line and its newline: the height in 3 columns, the number of rows in 4.
unfoldable pub sizes : ℕ → ℕ → List ℕ
sizes height count = column 3 height ++ (column 4 count ++ (10 ∷ []))

abbrev pub heading : ℕ → ℕ → List ℕ
heading height count = codes "PASS" ++ sizes height count

-- A row's line: the level in 3 columns, the index in 11, the two words of the seed in 21 each, a newline.
unfoldable pub row_line : Row → List ℕ
row_line r = column 3 r.level ++ (column 11 r.index ++ (column 21 r.seed.high ++ (column 21 r.seed.low ++ (10 ∷ []))))

-- The heading and a line for each row.
abbrev pub text : ℕ → List Row → List ℕ
text height rows = heading height (length rows) ++ flat_map row_line rows

abbrev pub text_of : {C : Type 0} → Grant C → List ℕ
text_of g = text g.height.levels (rows_of g)
