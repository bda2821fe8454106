-- Which lists of lines a reader cannot tell from the accepted ones. Assumes nothing.
use Rattle.std.specs.Prelude.{◌≡◌, ℕ, ◌<◌, ◌≤◌, Bool, true, ◌↔◌, List, [], ◌∷◌, map, length, Some, None, Ok, Option}
use Rattle.group.specs.Kind.{Kind, sum}
use Rattle.store.specs.Contents.{Contents, empty, nth, between}
use Rattle.source.specs.Sources.{Keys, Has}
use Rattle.sealing.specs.Calls.{Appends}
use Rattle.sealing.specs.History.{Call, Ran, accepted}

-- The lines, appended in order, are each accepted, and lead from the one store to the other.
abbrev pub Fills : {G V : Type 0} → Kind G V → Keys G → Contents G → List G → Contents G → Type 0
Fills k source before [] after = after ≡ before
Fills {G} k source before (line ∷ lines) after =
    (n : ℕ) × (next : Contents G) × Appends k source before line (Ok n) next × Fills k source next lines after

-- Some key list, longer than the lines, whose keys count as the owner's wherever reader, owner and list have one, seals the lines to these ciphertexts.
pub record Double {G V : Type 0} (k : Kind G V) (owner reader : Keys G) (ciphertexts lines : List G) : Type 0 where
  pub keys : List G
  pub longer : length lines < length keys
  pub agree : (i : ℕ) (x y : G) → Has reader i → owner i ≡ Some x → nth keys i ≡ Some y → k.value x ≡ k.value y
  pub sealed : (capacity : ℕ) → length lines ≤ capacity →
      (store : Contents G) × Fills k (nth keys) (empty capacity) lines store × (map k.value store.entries ≡ map k.value ciphertexts)

-- The others sum like the lines between every two of the reader's keys.
abbrev pub Alike : {G V : Type 0} → Kind G V → Keys G → List G → List G → Type 0
Alike k reader lines others =
    (a b : ℕ) → a ≤ b → b ≤ length others → Has reader a → Has reader b → sum k (between a b others) ≡ sum k (between a b lines)

-- The answer tells whether the others are as many and sum alike; and so, after each run that accepted the lines, whether they are a double.
pub record Decides {G V : Type 0} (k : Kind G V) (reader : Keys G) (lines others : List G) (answer : Bool) : Type 0 where
  pub sums : (answer ≡ true) ↔ ((length others ≡ length lines) × Alike k reader lines others)
  pub double : (owner : Keys G) (calls : List (Call G)) (store : Contents G) → Ran k owner calls store → accepted calls ≡ lines →
      (answer ≡ true) ↔ Double k owner reader store.entries others

-- The figure counts as the one before it, if there was one.
abbrev pub Fits : {G V : Type 0} → Kind G V → Option G → G → Type 0
Fits k (Some x) y = k.value x ≡ k.value y
Fits k None y = Unit {0}
