-- What is printed of a figure, as the bytes of its text. Assumes nothing.
use Rattle.std.specs.Prelude.{ℕ, ◌-◌, ◌^◌, cond, List, ◌++◌, codes, decimal, nat_lt}
use Rattle.group.specs.declared.modular.Count.{Count}
use Rattle.group.specs.declared.tally.Moments.{Moments}
use Rattle.group.specs.declared.xor.Flags.{Flags}

-- From 2^63 up a count stands for a negative number, and is printed as that.
abbrev pub count_text : Count → List ℕ
count_text c = cond (nat_lt c.value (2 ^ 63)) (decimal c.value) (codes "-" ++ decimal (2 ^ 64 - c.value))

abbrev pub flags_text : Flags → List ℕ
flags_text f = decimal f.bits

abbrev pub moments_text : Moments → List ℕ
moments_text m = decimal m.count ++ (codes " parcels, " ++ (decimal m.sum ++ (codes " g, squares " ++ decimal m.squares)))
