-- What an issue comes to. Assumes nothing.
use Rattle.std.proofs.Common.{◌≡◌, ℕ, ◌+◌, ◌-◌, ◌^◌, ◌<◌, ◌≤◌, true, cond, ltb, leb, List, [], ◌∷◌, ◌++◌, map, length, get_or, take, Ok, Err, sym, refl, ap, ◌∙◌, subst, arith}
use mathlib.Core.List.{Memᴰ}
use Rattle.refusal.specs.declared.Refusal.{Refusal}
use Rattle.refusal.specs.declared.Refusal.TheVariants.{TooManyRows}
use Rattle.std.proofs.lemmas.Bool.Decides.{nat_tests}
use Rattle.std.proofs.lemmas.Bool.{both_ways, lt-ltb, or_left, le-leb, and_from}
use Rattle.cover.specs.declared.node.Node.{Node}
use Rattle.cover.specs.declared.node.Span.{Span}
use Rattle.cover.specs.Tree.{Cover, named, named_by, Spaced, sound}
use Rattle.cover.specs.Cut.{spans_rows}
use Rattle.cover.proofs.Covers.{cover_unique, spans_cover}
use Rattle.cover.proofs.Held.{held-keys}
use Rattle.cover.proofs.Sound.{cover-sound}
use Rattle.cipher.specs.declared.Block.{Block}
use Rattle.grant.specs.declared.grant.row.Row.{Row}
use Rattle.grant.specs.declared.grant.Grant.{Grant}
use Rattle.grant.specs.Seeds.{Encrypted, walk}
use Rattle.grant.specs.Rows.{node_of, sound_rows}
use Rattle.grant.specs.Rules.{span_rules, issue_rules}
use Rattle.grant.proofs.Verdicts.{verdict, refused-ok, judged-found, judged-rest}
use Rattle.grant.specs.Grants.{rows_of, seeded}
use Rattle.grant.specs.Calls.{Issues}
use Rattle.grant.proofs.Filled.{from-map, map_back}
use Rattle.grant.proofs.Found.{member_at}

-- spans without a fault are spaced
pub spaced-from : (from limit : ℕ) (ss : List Span) → verdict (span_rules from limit ss) ≡ Ok tt → Spaced from limit ss
spaced-from from limit [] e = tt
spaced-from from limit (s ∷ ss) e =
    let rest : verdict (span_rules (s.to + 1) limit ss) ≡ Ok tt = grind (arith, nat_tests) in
    (grind (arith, nat_tests), grind (arith, nat_tests), grind (arith, nat_tests), spaced-from (s.to + 1) limit ss rest)

module _ (words height : ℕ) (ss : List Span) (room : 66 ≤ words) (some : 0 < length ss) (few : length ss ≤ 16) where
  after-counts : (rows : ℕ) → verdict (issue_rules words height ss rows) ≡ verdict (span_rules 0 (2 ^ height) ss ++ ((ltb 128 rows, TooManyRows) ∷ []))
  after-counts rows = grind (arith, nat_tests)

  -- a refusal leaves the grant as it was
  refused : {C : Type 0} (e : Encrypted) (root : Block) (g : Grant C) (why : Refusal) → ((rows : List Node) → Cover height (named_by ss) rows → Err why ≡ verdict (issue_rules words height ss (length rows))) → Issues e height root ss words g (Err why) g
  refused e root g why a = record { answers = a; holds = λ z. absurd (refused-ok z); kept = λ m z. refl }

  pub span_fault : {C : Type 0} (e : Encrypted) (root : Block) (g : Grant C) (n : Refusal) → Err n ≡ verdict (span_rules 0 (2 ^ height) ss) → Issues e height root ss words g (Err n) g
  span_fault e root g n f =
      refused e root g n (λ rows c. sym (after-counts (length rows) ∙ judged-found (span_rules 0 (2 ^ height) ss) ((ltb 128 (length rows), TooManyRows) ∷ []) n (sym f)))

  module _ (fine : Ok tt ≡ verdict (span_rules 0 (2 ^ height) ss)) (nodes : List Node) (are : nodes ≡ spans_rows height ss) where
    cover : Cover height (named_by ss) nodes
    cover = subst (Cover height (named_by ss)) (sym are) (spans_cover height ss (spaced-from 0 (2 ^ height) ss (sym fine)))

    after_spans : (rows : List Node) → Cover height (named_by ss) rows → verdict (issue_rules words height ss (length rows)) ≡ cond (ltb 128 (length nodes)) (Err TooManyRows) (Ok tt)
    after_spans rows c =
        after-counts (length rows) ∙ judged-rest (span_rules 0 (2 ^ height) ss) ((ltb 128 (length rows), TooManyRows) ∷ []) (sym fine) ∙ ap (λ (x : List Node). cond (ltb 128 (length x)) (Err TooManyRows) (Ok tt)) (cover_unique height (named_by ss) rows nodes c cover)

    pub many_rows : {C : Type 0} (e : Encrypted) (root : Block) (g : Grant C) (why : Refusal) → why ≡ TooManyRows → 128 < length nodes → Issues e height root ss words g (Err why) g
    many_rows e root g why is l =
        refused e root g why (λ rows c. let q = after_spans rows c in ap Err is ∙ grind (arith, nat_tests))

    pub low_rows : (d : Node) (i : ℕ) → i < length nodes → (get_or nodes i d).level ≤ height
    low_rows d i h = (cover.row (get_or nodes i d) (member_at nodes i d h)).low

    pub some-rows : 0 < length nodes
    some-rows = by ss refl nodes cover
      where
        by : (xs : List Span) → ss ≡ xs → (ns : List Node) → Cover height (named_by ss) ns → 0 < length ns
        by [] e ns c = absurd (omega (arith, ap length e))
        by (s ∷ xs) e (n ∷ ns) c = omega arith
        by (s ∷ xs) e [] c =
            let sp = spaced-from 0 (2 ^ height) (s ∷ xs) (ap (λ (x : List Span). verdict (span_rules 0 (2 ^ height) x)) (sym e) ∙ sym fine) in
            let on : named_by (s ∷ xs) s.from ≡ true = or_left (named s s.from) (named_by xs s.from) (and_from (leb s.from s.from) (ltb s.from s.to) (le-leb s.from s.from (omega arith)) (lt-ltb s.from s.to sp.1)) in
            let on' : named_by ss s.from ≡ true = subst (λ (x : List Span). named_by x s.from ≡ true) (sym e) on in
            absurd (both_ways (named_by ss s.from) (sym (held-keys height (named_by ss) [] s.from c (omega (arith, sp.1, sp.2)))) on')

    module _ (e : Encrypted) (root : Block) (count : ℕ) (rows : List Row) (made : take count rows ≡ map (seeded e root height) nodes) where
      made_nodes : map node_of (take count rows) ≡ nodes
      made_nodes = ap (map node_of) made ∙ map_back (seeded e root height) node_of (λ n. refl) nodes

      pub made_sound : sound_rows height count rows ≡ true
      made_sound = ap (λ (x : List Node). sound height x) made_nodes ∙ cover-sound height (named_by ss) nodes cover

      pub accepted : {C : Type 0} (before after : Grant C) → after.height.levels ≡ height → rows_of after ≡ take count rows → length nodes ≤ 128 → Issues e height root ss words before (Ok tt) after
      accepted before after h same l = record {
        answers = λ ns c. let q = after_spans ns c in grind (arith, nat_tests);
        holds = λ z. record {
          height = h;
          rows = subst (λ (x : List Node). Cover height (named_by ss) x) (sym (ap (map node_of) same ∙ made_nodes)) cover;
          seeds = λ r m. let q = from-map (seeded e root height) nodes r (subst (λ (x : List Row). Memᴰ r x) (same ∙ made) m) in
              ap (λ (x : Row). x.seed) q.2 ∙ ap (λ (x : Row). walk e root (height - x.level) x.index) (sym q.2);
        };
        kept = λ m z. absurd (refused-ok (sym z));
      }
