-- What a benchmark of totals comes to. Assumes nothing.
use Rattle.std.specs.Prelude.{ℕ, zero, suc, ◌+◌, ◌%◌, ◌^◌, cond, List, length, Some, None, Option, nat_lt}
use Rattle.refusal.specs.Judged.{first}
use Rattle.refusal.specs.declared.Refusal.{Refusal}
use Rattle.group.specs.Kind.{sum}
use Rattle.group.specs.Kinds.{counts}
use Rattle.group.specs.declared.modular.Count.{Count}
use Rattle.store.specs.Contents.{between}
use Rattle.tree_store.specs.Plans.{plan_rules}

-- The sum of the figures from one on, or 0 where there are not so many.
abbrev pub span_sum : List Count → ℕ → ℕ
span_sum figures from = cond (nat_lt (length figures) from) 0 (sum counts (between from (length figures) figures)).0

-- The spans of so many rounds, added up modulo 2^64.
abbrev pub rounds_sum : List Count → ℕ → ℕ
rounds_sum figures zero = 0
rounds_sum figures (suc round) = (rounds_sum figures round + span_sum figures (round % 8)) % 2 ^ 64

-- The same for a tree with a place for each figure, or 0 where its plan is refused.
abbrev pub unless_refused : Option Refusal → ℕ → ℕ
unless_refused (Some e) n = 0
unless_refused None n = n

abbrev pub planned_sum : ℕ → ℕ → List Count → ℕ → ℕ
planned_sum fan-out cells figures rounds = unless_refused (first (plan_rules fan-out (length figures) cells)) (rounds_sum figures rounds)
