-- What a flat store is. Assumes nothing.
use Rattle.std.specs.Prelude.{ℕ, min, length, take}
use Rattle.store.specs.Contents.{Contents}
use Rattle.store.specs.declared.flat.FlatStore.{FlatStore}

-- How many figures it takes over so many cells: at most 1048576.
abbrev pub flat_places : ℕ → ℕ
flat_places count = min count 1048576

-- Its figures are the first cells, as many as are used.
abbrev pub flat : {G : Type 0} → FlatStore G → Contents G
flat s = record { entries = take s.used s.cells.now; capacity = flat_places (length s.cells.now) }
