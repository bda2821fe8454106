-- What one post does. Assumes nothing.
use Rattle.std.specs.Prelude.{◌≡◌, ℕ, ◌*◌, ◌||◌, [], ◌∷◌, length, Result, nat_le, nat_lt}
use Rattle.refusal.specs.Judged.{Rules, judged, left_by}
use Rattle.refusal.specs.declared.Refusal.{Refusal}
use Rattle.refusal.specs.declared.Refusal.TheVariants.{Step, Full, NoKeyBefore, NoKeyAfter}
use Rattle.group.specs.Kind.{Kind}
use Rattle.store.specs.Contents.{Contents, push}
use Rattle.source.specs.Sources.{Keys, lacks, key}

-- When post refuses with j envelopes posted: by 20 when the step is not from 1 to 65536, by 31 when full, by 33 without the other key j, by 34 without the fine key j · step.
abbrev pub post_rules : {G : Type 0} → ℕ → Keys G → Keys G → ℕ → ℕ → Rules
post_rules step fine other capacity j =
    (nat_lt step 1 || nat_lt 65536 step, Step) ∷ (nat_le capacity j, Full) ∷ (lacks other j, NoKeyBefore) ∷ (lacks fine (j * step), NoKeyAfter) ∷ []

-- Envelope j: fine key j · step + other key j.
abbrev pub envelope : {G V : Type 0} → Kind G V → ℕ → Keys G → Keys G → ℕ → G
envelope k step fine other j = k.plus (key k fine (j * step)) (key k other j)

-- A post answers by its rules, with the number of the envelope; the store gets the envelope at its end, or stays.
pub record Posts {G V : Type 0} (k : Kind G V) (step : ℕ) (fine other : Keys G) (before : Contents G) (answer : Result ℕ Refusal) (after : Contents G) : Type 0 where
  pub answers : answer ≡ judged (post_rules step fine other before.capacity (length before.entries)) (length before.entries)
  pub leaves : after ≡ left_by answer before (push before (envelope k step fine other (length before.entries)))
