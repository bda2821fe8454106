-- Two lines sealed into a new store, and their sum opened with the same keys. Assumes nothing.
use Rattle.std.specs.Prelude.{◌≡◌, ℕ, ◌≤◌, true, ◌↔◌, List, [], ◌∷◌, is_ok, Ok, Result, nat_le, slice_set}
use Rattle.refusal.specs.Judged.{Rules, judged, first, refusal, left_by}
use Rattle.refusal.specs.declared.Refusal.{Refusal}
use Rattle.refusal.specs.declared.Refusal.TheVariants.{Full, NoKeyBefore, NoKeyAfter}
use Rattle.group.specs.Kind.{Kind}
use Rattle.store.specs.Contents.{Contents, push}
use Rattle.source.specs.Sources.{Keys, Has, lacks}
use Rattle.sealing.specs.Calls.{append_rules, seal}

-- When it refuses, by the first of: no place, no key 0, no key 1, no second place, no key 2.
abbrev pub two_rules : {G : Type 0} → Keys G → ℕ → Rules
two_rules keys places = (nat_le places 0, Full) ∷ (lacks keys 0, NoKeyBefore) ∷ (lacks keys 1, NoKeyAfter) ∷ (nat_le places 1, Full) ∷ (lacks keys 2, NoKeyAfter) ∷ []

-- It is answered exactly when there are two places and three keys, and then the figure counts as the sum of the two lines.
pub record SumOfTwo {G V : Type 0} (k : Kind G V) (keys : Keys G) (places : ℕ) (x y : G) (answer : Result G Refusal) : Type 0 where
  pub answered : (is_ok answer ≡ true) ↔ ((2 ≤ places) × Has keys 0 × Has keys 1 × Has keys 2)
  pub refuses : refusal answer ≡ first (two_rules keys places)
  pub figure : (v : G) → answer ≡ Ok v → k.value v ≡ k.sums.plus (k.value x) (k.value y)

-- The first append answers by its rules; the second is made, and answers, where none of all the rules applies.
abbrev pub first_answer : {G : Type 0} → Keys G → ℕ → Result ℕ Refusal
first_answer keys places = judged (append_rules keys places 0) 0

abbrev pub second_answer : {G : Type 0} → Keys G → ℕ → Result ℕ Refusal
second_answer keys places = judged (two_rules keys places) 1

-- What the memory of any store holds then, `middle` being the store between the two appends.
pub record CellsOfTwo {G V S : Type 0} (k : Kind G V) (contents : S → Contents G) (cells : S → List G) (written : S → G → List G) (keys : Keys G) (x y : G) (before after : S) : Type 0 where
  pub middle : S
  pub first_line : contents middle ≡ left_by (first_answer keys (contents before).capacity) (contents before) (push (contents before) (seal k keys 0 x))
  pub first_cells : cells middle ≡ left_by (first_answer keys (contents before).capacity) (cells before) (written before (seal k keys 0 x))
  pub second_cells : cells after ≡ left_by (second_answer keys (contents before).capacity) (cells middle) (written middle (seal k keys 1 y))

-- What lent cells hold then: the ciphertext of an accepted line is in the cell of its number, and no other cell is changed.
abbrev pub first_left : {G V : Type 0} → Kind G V → Keys G → ℕ → G → List G → List G
first_left k keys places x cells = left_by (first_answer keys places) cells (slice_set cells 0 (seal k keys 0 x))

abbrev pub both_left : {G V : Type 0} → Kind G V → Keys G → ℕ → G → G → List G → List G
both_left k keys places x y cells =
    left_by (second_answer keys places) (first_left k keys places x cells) (slice_set (first_left k keys places x cells) 1 (seal k keys 1 y))
