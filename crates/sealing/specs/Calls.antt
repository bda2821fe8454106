-- What one append does, and one open. Assumes nothing.
use Rattle.std.specs.Prelude.{◌≡◌, ℕ, ◌+◌, List, [], ◌∷◌, length, Ok, Result, nat_le, nat_lt}
use Rattle.refusal.specs.Judged.{Rules, judged, first, refusal, left_by}
use Rattle.refusal.specs.declared.Refusal.{Refusal}
use Rattle.refusal.specs.declared.Refusal.TheVariants.{Reversed, Full, Beyond, NoKeyBefore, NoKeyAfter}
use Rattle.group.specs.Kind.{Kind, sum}
use Rattle.store.specs.Contents.{Contents, push, between}
use Rattle.source.specs.Sources.{Keys, lacks, key}

-- When append refuses with n lines accepted: by 31 when full, by 33 without key n, by 34 without key n+1.
abbrev pub append_rules : {G : Type 0} → Keys G → ℕ → ℕ → Rules
append_rules owner capacity n = (nat_le capacity n, Full) ∷ (lacks owner n, NoKeyBefore) ∷ (lacks owner (n + 1), NoKeyAfter) ∷ []

-- When open of a up to b refuses with n lines accepted: by 1 when a > b, by 32 when b > n, by 33 without key a, by 34 without key b.
abbrev pub open_rules : {G : Type 0} → Keys G → ℕ → ℕ → ℕ → Rules
open_rules reader n a b = (nat_lt b a, Reversed) ∷ (nat_lt n b, Beyond) ∷ (lacks reader a, NoKeyBefore) ∷ (lacks reader b, NoKeyAfter) ∷ []

-- The ciphertext of line n: line + key n - key n+1.
abbrev pub seal : {G V : Type 0} → Kind G V → Keys G → ℕ → G → G
seal k owner n line = k.plus (k.plus line (key k owner n)) (k.minus (key k owner (n + 1)))

-- An append answers by its rules, with the number of the line; the store gets the ciphertext at its end, or stays.
pub record Appends {G V : Type 0} (k : Kind G V) (owner : Keys G) (before : Contents G) (line : G) (answer : Result ℕ Refusal) (after : Contents G) : Type 0 where
  pub answers : answer ≡ judged (append_rules owner before.capacity (length before.entries)) (length before.entries)
  pub leaves : after ≡ left_by answer before (push before (seal k owner (length before.entries) line))

-- What an opened sum counts as: total - key a + key b.
abbrev pub opening : {G V : Type 0} → Kind G V → Keys G → List G → ℕ → ℕ → V
opening k reader entries a b =
    k.sums.plus (k.sums.plus (sum k (between a b entries)) (k.sums.minus (k.value (key k reader a)))) (k.value (key k reader b))

-- An open answers by its rules. Its figure is the opening wherever the store's own sums are right.
pub record Opens {G V : Type 0} (k : Kind G V) (reader : Keys G) (store : Contents G) (sound : Type 0) (a b : ℕ) (answer : Result G Refusal) : Type 0 where
  pub refuses : refusal answer ≡ first (open_rules reader (length store.entries) a b)
  pub figure : sound → (x : G) → answer ≡ Ok x → k.value x ≡ opening k reader store.entries a b
