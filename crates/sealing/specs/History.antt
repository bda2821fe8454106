-- Whole runs of appends and opens on one store, and what is true of every answer in them. Assumes nothing.
use Rattle.std.specs.Prelude.{◌≡◌, ℕ, ◌+◌, ◌<◌, ◌≤◌, true, ◌↔◌, List, [], ◌∷◌, ◌++◌, length, is_ok, Ok, Err, Result}
use Rattle.refusal.specs.Judged.{first, refusal}
use Rattle.refusal.specs.declared.Refusal.{Refusal}
use Rattle.group.specs.Kind.{Kind, sum}
use Rattle.store.specs.Contents.{Contents, between}
use Rattle.source.specs.Sources.{Keys, Has, Agree}
use Rattle.sealing.specs.Calls.{Appends, Opens, append_rules, open_rules}

-- A call with its answer; a reader is the keys that it has.
pub data Call (G : Type 0) : Type 0 where
  appended : (line : G) (answer : Result ℕ Refusal) → Call G
  opened : (reader : Keys G) (a b : ℕ) (answer : Result G Refusal) → Call G

-- The calls, latest first, led from a new store to this one. All appends have one owner; each open has a reader of its own.
pub data Reached {G V S : Type 0} (k : Kind G V) (contents : S → Contents G) (sound : S → Type 0) (owner : Keys G) : List (Call G) → S → Type 0 where
  start : (store : S) → sound store → (contents store).entries ≡ [] → Reached k contents sound owner [] store
  append : {calls : List (Call G)} {before after : S} {line : G} {answer : Result ℕ Refusal} →
      Reached k contents sound owner calls before → Appends k owner (contents before) line answer (contents after) → (sound before → sound after) →
      Reached k contents sound owner (appended line answer ∷ calls) after
  look : {calls : List (Call G)} {store : S} {reader : Keys G} {a b : ℕ} {answer : Result G Refusal} →
      Reached k contents sound owner calls store → Opens k reader (contents store) (sound store) a b answer →
      Reached k contents sound owner (opened reader a b answer ∷ calls) store

-- A run, seen by what its stores hold.
abbrev pub Ran : {G V : Type 0} → Kind G V → Keys G → List (Call G) → Contents G → Type 0
Ran k owner = Reached k (λ store. store) (λ store. Unit {0}) owner

-- The lines that were accepted, from line 0 on.
abbrev pub accepted : {G : Type 0} → List (Call G) → List G
accepted [] = []
accepted (appended line (Ok n) ∷ earlier) = accepted earlier ++ (line ∷ [])
accepted (appended line (Err e) ∷ earlier) = accepted earlier
accepted (opened reader a b answer ∷ earlier) = accepted earlier

-- An append with n lines accepted before it.
pub record AppendLaw {G : Type 0} (owner : Keys G) (capacity n : ℕ) (answer : Result ℕ Refusal) : Type 0 where
  pub accepts : (is_ok answer ≡ true) ↔ ((n < capacity) × Has owner n × Has owner (n + 1))
  pub number : (m : ℕ) → answer ≡ Ok m → m ≡ n
  pub refuses : refusal answer ≡ first (append_rules owner capacity n)

-- An open with these lines accepted before it.
pub record OpenLaw {G V : Type 0} (k : Kind G V) (owner reader : Keys G) (lines : List G) (a b : ℕ) (answer : Result G Refusal) : Type 0 where
  pub answers : (is_ok answer ≡ true) ↔ ((a ≤ b) × (b ≤ length lines) × Has reader a × Has reader b)
  pub figure : Agree k owner reader → (x : G) → answer ≡ Ok x → k.value x ≡ sum k (between a b lines)
  pub refuses : refusal answer ≡ first (open_rules reader (length lines) a b)

-- Every answer of a run is right.
abbrev pub Faithful : {G V : Type 0} → Kind G V → Keys G → ℕ → List (Call G) → Type 0
Faithful k owner capacity [] = Unit {0}
Faithful k owner capacity (appended line answer ∷ earlier) = AppendLaw owner capacity (length (accepted earlier)) answer × Faithful k owner capacity earlier
Faithful k owner capacity (opened reader a b answer ∷ earlier) = OpenLaw k owner reader (accepted earlier) a b answer × Faithful k owner capacity earlier

-- Each run that led to this store goes on with the call to the store after it, and every answer in it is right.
abbrev pub Continues : {G V S : Type 0} → Kind G V → (S → Contents G) → (S → Type 0) → Keys G → S → Call G → S → Type 0
Continues {G} k contents sound owner before call after =
    (calls : List (Call G)) → Reached k contents sound owner calls before →
    Reached k contents sound owner (call ∷ calls) after × Ran k owner (call ∷ calls) (contents after) × Faithful k owner (contents before).capacity (call ∷ calls)
