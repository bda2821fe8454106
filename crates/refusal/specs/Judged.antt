-- How a call answers: it is judged by a list of rules, in their order. Assumes nothing.
use Rattle.std.specs.Prelude.{Bool, cond, List, [], ◌∷◌, Some, None, Ok, Err, Option, Result}
use Rattle.refusal.specs.declared.Refusal.{Refusal}

-- A rule: whether it applies, and the refusal that it gives.
abbrev pub Rules : Type 0
Rules = List (Bool × Refusal)

-- The refusal of the first rule that applies, if one does.
abbrev pub first : Rules → Option Refusal
first [] = None
first (rule ∷ rest) = cond rule.0 (Some rule.1) (first rest)

-- The call refuses by the first rule that applies, and gives the answer where none does.
abbrev pub judged : {R : Type 0} → Rules → R → Result R Refusal
judged [] answer = Ok answer
judged (rule ∷ rest) answer = cond rule.0 (Err rule.1) (judged rest answer)

-- Why a call refused, if it did.
abbrev pub refusal : {R : Type 0} → Result R Refusal → Option Refusal
refusal (Ok x) = None
refusal (Err e) = Some e

-- What a call leaves: the new where it answered, the old where it refused.
abbrev pub left_by : {R S : Type 0} → Result R Refusal → S → S → S
left_by (Ok x) old new = new
left_by (Err e) old new = old
