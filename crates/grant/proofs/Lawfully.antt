-- The law of histories, call by call. Assumes nothing.
use Rattle.std.proofs.Common.{◌≡◌, ℕ, ◌+◌, ◌-◌, ◌^◌, ◌<◌, List, ◌∷◌, length, Some, None, Ok, Err, Option, sym, refl, ap, ◌∙◌, subst, arith}
use Rattle.refusal.specs.Judged.{judged}
use Rattle.refusal.proofs.Judging.{some-none}
use Rattle.cover.specs.declared.node.Node.{Node}
use Rattle.cover.specs.declared.node.Span.{Span}
use Rattle.cover.specs.Tree.{Cover, named, both}
use Rattle.cover.proofs.Covers.{cover-same}
use Rattle.cover.proofs.Held.{held-keys}
use Rattle.cipher.specs.declared.Block.{Block}
use Rattle.grant.specs.declared.grant.row.Row.{Row}
use Rattle.grant.specs.declared.grant.Grant.{Grant}
use Rattle.grant.specs.Seeds.{Encrypted, walk}
use Rattle.grant.specs.Rows.{node_of}
use Rattle.grant.specs.Rules.{Answer, narrow_rules}
use Rattle.grant.specs.Grants.{rows_of, nodes_of, numbers_of, Granted, Holds}
use Rattle.grant.specs.Calls.{issued_keys, ComesFrom, Issues, Narrows}
use Rattle.grant.specs.Histories.{Call, issued, narrowed, Led, start, issue, narrow, within_span, granted, NarrowLaw, Faithful, Lawful, Continues, KeepsTo}
use Rattle.grant.proofs.Walks.{walk-walk}
use Rattle.grant.proofs.Found.{member_map}
use Rattle.grant.proofs.Serving.{index-above, serves, has-keys}

abbrev left : Granted → Span → Granted
left a s = record { height = a.height; root = a.root; numbers = both a.numbers (named s) }

module _ {C : Type 0} (e : Encrypted) (a : Granted) (before : Grant C) (h : Holds e a before) where
  -- in the tree, the keys under the rows are the granted ones
  same_numbers : (k : ℕ) → k < 2 ^ a.height → numbers_of before k ≡ a.numbers k
  same_numbers k l = held-keys a.height a.numbers (nodes_of before) k h.rows l

  same_left : (s : Span) (k : ℕ) → k < 2 ^ a.height → both (numbers_of before) (named s) k ≡ both a.numbers (named s) k
  same_left s k l = ap (λ b. mathlib.Core.Bool.◌&&◌ b (named s k)) (same_numbers k l)

  tree_seed : (x : Row) → ComesFrom e (rows_of before) x → x.seed ≡ walk e a.root (a.height - x.level) x.index
  tree_seed x q =
      let y = q.0 in
      let row = h.rows.row (node_of y) (member_map node_of (rows_of before) y q.1) in
      let low = row.low in
      let lower = q.3 in
      let index = index-above (node_of y) (node_of x) lower q.2 in
      let sum : a.height - y.level + (y.level - x.level) ≡ a.height - x.level = omega arith in
      q.4
      ∙ ap (λ (b : Block). walk e b (y.level - x.level) x.index) (h.seeds y q.1 ∙ ap (λ (i : ℕ). walk e a.root (a.height - y.level) i) index)
      ∙ sym (walk-walk e a.root (a.height - y.level) (y.level - x.level) x.index)
      ∙ ap (λ (d : ℕ). walk e a.root d x.index) sum

  -- an accepted narrow leaves the granted keys that are in the span
  narrow-holds : (s : Span) (words : ℕ) (after : Grant C) → Narrows e s words before (Ok tt) after → Holds e (left a s) after
  narrow-holds s words after n = record {
    height = n.height refl ∙ h.height;
    rows =
        cover-same a.height (both (numbers_of before) (named s)) (both a.numbers (named s)) (nodes_of after) (same_left s)
        (subst (λ (x : ℕ). Cover x (both (numbers_of before) (named s)) (nodes_of after)) h.height (n.rows refl));
    seeds = λ x m. tree_seed x (n.seeds refl x m);
  }

  narrow-judged : (s : Span) (words : ℕ) (answer : Answer) (after : Grant C) → Narrows e s words before answer after → NarrowLaw a s words answer
  narrow-judged s words answer after n rows c =
      let back = cover-same a.height (both a.numbers (named s)) (both (numbers_of before) (named s)) rows (λ k l. sym (same_left s k l)) c in
      let answers = subst (λ (x : ℕ). (ns : List Node) → Cover x (both (numbers_of before) (named s)) ns → answer ≡ judged (narrow_rules words x s (length ns)) tt) h.height n.answers in
      answers rows back

module _ {C : Type 0} (e : Encrypted) where
  -- a refused call leaves what was held
  still : (a : Granted) (before after : Grant C) → after ≡ before → Holds e a before → Holds e a after
  still a before after same h = subst (λ (g : Grant C). Holds e a g) (sym same) h

  holds-issue : (calls : List Call) {before after : Grant C} {height : ℕ} {root : Block} {spans : List Span} {words : ℕ} (answer : Answer) →
      ((a : Granted) → granted calls ≡ Some a → Holds e a before) → Issues e height root spans words before answer after →
      (a : Granted) → granted (issued height root spans words answer ∷ calls) ≡ Some a → Holds e a after
  holds-issue calls {after = after} {height = height} {root = root} {spans = spans} (Ok x) h i a is =
      let same : issued_keys height root spans ≡ a = cc in subst (λ (b : Granted). Holds e b after) same (i.holds refl)
  holds-issue calls {before} {after} (Err why) h i a is = still a before after (i.kept why refl) (h a is)

  -- what a narrow leaves, by what was granted before it
  within : {before after : Grant C} (s : Span) (words : ℕ) (earlier : Option Granted) → ((a : Granted) → earlier ≡ Some a → Holds e a before) → Narrows e s words before (Ok tt) after →
      (a : Granted) → within_span s earlier ≡ Some a → Holds e a after
  within s words None h n a is = absurd (some-none (sym is))
  within {before} {after} s words (Some b) h n a is =
      let same : left b s ≡ a = cc in subst (λ (c : Granted). Holds e c after) same (narrow-holds e b before (h b refl) s words after n)

  holds-narrow : (calls : List Call) {before after : Grant C} {span : Span} {words : ℕ} (answer : Answer) →
      ((a : Granted) → granted calls ≡ Some a → Holds e a before) → Narrows e span words before answer after →
      (a : Granted) → granted (narrowed span words answer ∷ calls) ≡ Some a → Holds e a after
  holds-narrow calls {span = span} {words = words} (Ok x) h n a is = within span words (granted calls) h n a is
  holds-narrow calls {before} {after} (Err why) h n a is = still a before after (n.kept why refl) (h a is)

  holds : {calls : List Call} {grant : Grant C} → Led e calls grant → (a : Granted) → granted calls ≡ Some a → Holds e a grant
  holds (start grant) a is = absurd (some-none (sym is))
  holds (issue {calls = calls} {answer = answer} led i) a is = holds-issue calls answer (holds led) i a is
  holds (narrow {calls = calls} {answer = answer} led n) a is = holds-narrow calls answer (holds led) n a is

  faithful : {calls : List Call} {grant : Grant C} → Led e calls grant → Faithful calls
  faithful (start grant) = tt
  faithful (issue led i) = (i.answers, faithful led)
  faithful (narrow {before = before} {after = after} {span = span} {words = words} {answer = answer} led n) =
      (λ a is. narrow-judged e a before (holds led a is) span words answer after n, faithful led)

  lawful : {calls : List Call} {grant : Grant C} → Led e calls grant → Lawful e calls grant
  lawful {grant = grant} led = record { faithful = faithful led; holds = holds led; serves = λ a is. serves e a grant (holds led a is) }

  pub issue-continues : {before after : Grant C} {height : ℕ} {root : Block} {spans : List Span} {words : ℕ} {answer : Answer} →
      Issues e height root spans words before answer after → Continues e before (issued height root spans words answer) after
  issue-continues i calls led = let more = issue led i in (more, lawful more)

  pub narrow-continues : {before after : Grant C} {span : Span} {words : ℕ} {answer : Answer} →
      Narrows e span words before answer after → Continues e before (narrowed span words answer) after
  narrow-continues n calls led = let more = narrow led n in (more, lawful more)

  pub keeps_to : {G : Type 0} (width : ℕ) (made : List ℕ → G) (grant : Grant C) → KeepsTo e width made grant
  keeps_to width made grant calls led a is k = has-keys e width made a grant k (serves e a grant (holds led a is))
