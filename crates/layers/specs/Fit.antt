-- Posting and reading fit: whole runs of posts, and what a coarse source over their envelopes has. Assumes nothing.
use Rattle.std.specs.Prelude.{◌≡◌, ℕ, ◌+◌, ◌*◌, ◌/◌, ◌%◌, ◌<◌, ◌≤◌, true, ◌↔◌, List, [], ◌∷◌, is_ok, Some, Ok, Err, Result}
use Rattle.refusal.specs.Judged.{first, refusal}
use Rattle.refusal.specs.declared.Refusal.{Refusal}
use Rattle.group.specs.Kind.{Kind}
use Rattle.store.specs.Contents.{Contents}
use Rattle.source.specs.Sources.{Keys, Has, Agree, key}
use Rattle.layers.specs.Layers.{coarse}
use Rattle.layers.specs.Posting.{Posts, post_rules}

-- The second source has each key of the first, the same figure.
abbrev pub Extends : {G : Type 0} → Keys G → Keys G → Type 0
Extends {G} source more = (i : ℕ) (x : G) → source i ≡ Some x → more i ≡ Some x

-- Posts with these answers, latest first, led from a store without figures to this one. All have one step, one fine source and one other; between posts the two may gain keys.
pub data Posted {G V : Type 0} (k : Kind G V) (step : ℕ) : Keys G → Keys G → List (Result ℕ Refusal) → Contents G → Type 0 where
  start : {fine other : Keys G} (store : Contents G) → store.entries ≡ [] → Posted k step fine other [] store
  next : {fine other : Keys G} {answers : List (Result ℕ Refusal)} {before after : Contents G} {answer : Result ℕ Refusal} →
      Posted k step fine other answers before → Posts k step fine other before answer after →
      Posted k step fine other (answer ∷ answers) after
  gain : {fine other more-fine more-other : Keys G} {answers : List (Result ℕ Refusal)} {store : Contents G} →
      Posted k step fine other answers store → Extends fine more-fine → Extends other more-other →
      Posted k step more-fine more-other answers store

-- How many posts were accepted.
abbrev pub accepted_posts : List (Result ℕ Refusal) → ℕ
accepted_posts [] = 0
accepted_posts (Ok j ∷ earlier) = accepted_posts earlier + 1
accepted_posts (Err e ∷ earlier) = accepted_posts earlier

-- A post with n accepted before it.
pub record PostLaw {G : Type 0} (step : ℕ) (fine other : Keys G) (capacity n : ℕ) (answer : Result ℕ Refusal) : Type 0 where
  pub accepts : (is_ok answer ≡ true) ↔ ((1 ≤ step) × (step ≤ 65536) × (n < capacity) × Has other n × Has fine (n * step))
  pub number : (j : ℕ) → answer ≡ Ok j → j ≡ n
  pub refuses : refusal answer ≡ first (post_rules step fine other capacity n)

-- With n posts accepted, the coarse source has the keys that were posted and no others, and each counts as the fine one.
-- A reader with a source of its own in place of the other has those of them whose other key it has, and where these count as the other's, its keys count as the fine ones.
pub record Fits {G V : Type 0} (k : Kind G V) (step : ℕ) (fine other : Keys G) (n : ℕ) (envelopes : List G) : Type 0 where
  pub posted : (j : ℕ) → j < n → Has (coarse k step envelopes other) (j * step)
  pub has : (i : ℕ) → Has (coarse k step envelopes other) i ↔ ((i % step ≡ 0) × (i / step < n))
  pub counts : (i : ℕ) → Has (coarse k step envelopes other) i → Has fine i × (k.value (key k (coarse k step envelopes other) i) ≡ k.value (key k fine i))
  pub reads : (reader : Keys G) (i : ℕ) → Has (coarse k step envelopes reader) i ↔ ((i % step ≡ 0) × (i / step < n) × Has reader (i / step))
  pub agrees : (reader : Keys G) → Agree k other reader → Agree k fine (coarse k step envelopes reader)

-- Each run of posts that led to the one store goes on with this post to the other, where posting and reading fit.
abbrev pub Continues : {G V : Type 0} → Kind G V → ℕ → Keys G → Keys G → Contents G → Result ℕ Refusal → Contents G → Type 0
Continues k step fine other before answer after =
    (answers : List (Result ℕ Refusal)) → Posted k step fine other answers before →
    Posted k step fine other (answer ∷ answers) after × PostLaw step fine other before.capacity (accepted_posts answers) answer × Fits k step fine other (accepted_posts (answer ∷ answers)) after.entries

-- No reader of the envelopes loses a key, whatever its step and its other source.
abbrev pub Grows : {G V : Type 0} → Kind G V → Contents G → Contents G → Type 0
Grows {G} k before after = (width : ℕ) (reader : Keys G) → Extends (coarse k width before.entries reader) (coarse k width after.entries reader)
