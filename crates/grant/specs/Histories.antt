-- Whole histories of issues and narrows on one grant, and what is true of them. Assumes nothing.
use Rattle.std.specs.Prelude.{◌≡◌, ℕ, List, [], ◌∷◌, length, Some, None, Ok, Err, Option}
use Rattle.refusal.specs.Judged.{judged}
use Rattle.cover.specs.declared.node.Node.{Node}
use Rattle.cover.specs.declared.node.Span.{Span}
use Rattle.cover.specs.Tree.{Cover, named, named_by, both}
use Rattle.cipher.specs.declared.Block.{Block}
use Rattle.grant.specs.declared.grant.Grant.{Grant}
use Rattle.grant.specs.Seeds.{Encrypted}
use Rattle.grant.specs.Rules.{Answer, issue_rules, narrow_rules}
use Rattle.grant.specs.Grants.{grant_keys, Granted, granted_keys, Holds, Serves}
use Rattle.grant.specs.Calls.{issued_keys, Issues, Narrows}

-- A call with its answer; a tree is its height and root, and of the scratch the count of words matters.
pub data Call : Type 0 where
  issued : (height : ℕ) (root : Block) (spans : List Span) (words : ℕ) (answer : Answer) → Call
  narrowed : (span : Span) (words : ℕ) (answer : Answer) → Call

-- The calls, latest first, led from some grant to this one.
pub data Led {C : Type 0} (e : Encrypted) : List Call → Grant C → Type 0 where
  start : (grant : Grant C) → Led e [] grant
  issue : {calls : List Call} {before after : Grant C} {height : ℕ} {root : Block} {spans : List Span} {words : ℕ} {answer : Answer} →
      Led e calls before → Issues e height root spans words before answer after →
      Led e (issued height root spans words answer ∷ calls) after
  narrow : {calls : List Call} {before after : Grant C} {span : Span} {words : ℕ} {answer : Answer} →
      Led e calls before → Narrows e span words before answer after →
      Led e (narrowed span words answer ∷ calls) after

-- The granted keys that are in a span.
abbrev pub within_span : Span → Option Granted → Option Granted
within_span span None = None
within_span span (Some a) = Some (record { height = a.height; root = a.root; numbers = both a.numbers (named span) })

-- What the calls have granted: the keys that the last accepted issue and every accepted narrow after it name, of that issue's tree.
-- Before an issue is accepted it is not known whose seeds the grant has.
abbrev pub granted : List Call → Option Granted
granted [] = None
granted (issued height root spans words (Ok x) ∷ earlier) = Some (issued_keys height root spans)
granted (issued height root spans words (Err why) ∷ earlier) = granted earlier
granted (narrowed span words (Ok x) ∷ earlier) = within_span span (granted earlier)
granted (narrowed span words (Err why) ∷ earlier) = granted earlier

-- An issue is accepted exactly when none of its rules applies, and else refused by the first that does.
abbrev pub IssueLaw : ℕ → List Span → ℕ → Answer → Type 0
IssueLaw height spans words answer = (rows : List Node) → Cover height (named_by spans) rows → answer ≡ judged (issue_rules words height spans (length rows)) tt

-- So is a narrow, by the height and the keys that the calls before it have left.
abbrev pub NarrowLaw : Granted → Span → ℕ → Answer → Type 0
NarrowLaw a span words answer = (rows : List Node) → Cover a.height (both a.numbers (named span)) rows → answer ≡ judged (narrow_rules words a.height span (length rows)) tt

-- Every answer of a history is right.
abbrev pub Faithful : List Call → Type 0
Faithful [] = Unit {0}
Faithful (issued height root spans words answer ∷ earlier) = IssueLaw height spans words answer × Faithful earlier
Faithful (narrowed span words answer ∷ earlier) = ((a : Granted) → granted earlier ≡ Some a → NarrowLaw a span words answer) × Faithful earlier

-- The law of histories: every answer is right, and once an issue was accepted the grant holds the cover of exactly the granted keys with
-- the seeds of their tree, and has those keys alone, each as the tree makes it.
pub record Lawful {C : Type 0} (e : Encrypted) (calls : List Call) (grant : Grant C) : Type 0 where
  pub faithful : Faithful calls
  pub holds : (a : Granted) → granted calls ≡ Some a → Holds e a grant
  pub serves : (a : Granted) → granted calls ≡ Some a → Serves e a grant

-- Each history that led to the grant before goes on with the call to the grant after it, and is lawful.
abbrev pub Continues : {C : Type 0} → Encrypted → Grant C → Call → Grant C → Type 0
Continues e before call after = (calls : List Call) → Led e calls before → Led e (call ∷ calls) after × Lawful e (call ∷ calls) after

-- The keys of a grant at one kind of figure, whatever history led to it: the granted ones alone, each equal to the tree's.
abbrev pub KeepsTo : {C G : Type 0} → Encrypted → ℕ → (List ℕ → G) → Grant C → Type 0
KeepsTo e width made grant =
    (calls : List Call) → Led e calls grant → (a : Granted) → granted calls ≡ Some a → (k : ℕ) → grant_keys e width made grant k ≡ granted_keys e width made a k
