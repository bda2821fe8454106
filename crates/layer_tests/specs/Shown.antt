-- Answers as plain numbers, which tests compare. Assumes nothing.
use Rattle.std.specs.Prelude.{ℕ, Some, None, Ok, Err, Option, Result}
use Rattle.refusal.specs.Numbers.{code}
use Rattle.refusal.specs.declared.Refusal.{Refusal}
use Rattle.group.specs.declared.modular.Count.{Count}

-- The number of a key, if there is one.
abbrev pub shown : Option Count → Option ℕ
shown (Some x) = Some x.value
shown None = None

-- An answer with its refusal's number.
abbrev pub refused : Result ℕ Refusal → Result ℕ ℕ
refused (Ok j) = Ok j
refused (Err e) = Err (code e)
