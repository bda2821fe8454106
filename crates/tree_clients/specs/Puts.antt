-- What several puts make of a tree. Assumes nothing.
use Rattle.std.specs.Prelude.{ℕ, ◌-◌, List, ◌++◌, length, take}
use Rattle.store.specs.Contents.{Contents}
use Rattle.tree_store.specs.Levels.{level_start}
use Rattle.tree_store.specs.declared.shape.Shape.{Shape}

-- The figures are taken in order, as far as there are places.
abbrev pub filled : {G : Type 0} → Contents G → List G → Contents G
filled c figures = record { entries = c.entries ++ take (c.capacity - length c.entries) figures; capacity = c.capacity }

-- Where the cells of all levels end.
abbrev pub top : Shape → ℕ
top s = level_start s.fan_out s.capacity s.levels
