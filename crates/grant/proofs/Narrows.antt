-- What a narrow comes to. Assumes nothing.
use Rattle.std.proofs.Common.{◌≡◌, ℕ, ◌^◌, ◌<◌, ◌≤◌, true, List, map, length, get_or, take, Some, None, Ok, Err, Option, sym, refl, ap, ◌∙◌, subst, arith, pow_mono}
use mathlib.Core.List.{Memᴰ}
use Rattle.refusal.specs.declared.Refusal.{Refusal}
use Rattle.refusal.specs.declared.Refusal.TheVariants.{TooManyRows, NothingLeft}
use Rattle.std.proofs.lemmas.Bool.{both_ways}
use Rattle.std.proofs.lemmas.Bool.Decides.{nat_tests}
use Rattle.cover.specs.declared.node.Node.{Node}
use Rattle.cover.specs.declared.node.Span.{Span}
use Rattle.cover.specs.Tree.{first_key, past, KeySet, Cover, held, named, both, sound}
use Rattle.cover.specs.Cut.{cut, left_rows}
use Rattle.cover.proofs.Geometry.{first_past}
use Rattle.cover.proofs.Cuts.{row_under, cut_row}
use Rattle.cover.proofs.Covers.{cover_unique, left-cover}
use Rattle.cover.proofs.Held.{in_held, one-row}
use Rattle.cover.proofs.Members.{from_joined}
use Rattle.cover.proofs.Sound.{sound-cover, cover-sound}
use Rattle.grant.specs.declared.grant.row.Row.{Row}
use Rattle.grant.specs.declared.grant.Grant.{Grant}
use Rattle.grant.specs.Seeds.{Encrypted}
use Rattle.grant.specs.Rows.{node_of, sound_rows}
use Rattle.grant.specs.Rules.{bound_rules, narrow_rules}
use Rattle.grant.proofs.Verdicts.{verdict, refused-ok}
use Rattle.grant.specs.Grants.{rows_of, nodes_of, numbers_of, row_over, seed_from, lowered, Placed}
use Rattle.grant.specs.Calls.{ComesFrom, Narrows}
use Rattle.grant.proofs.Filled.{from-map, map_back}
use Rattle.grant.proofs.Found.{under_member, member_map, member_at}
use Rattle.grant.proofs.Serving.{stands_from, under_none}

-- a row that is left lies under the row that stands over its first key
record Above (rs : List Row) (n : Node) : Type 0 where
  row : Row
  found : row_over rs (first_key n) ≡ Some row
  level : n.level ≤ row.level

above : (height : ℕ) (keys : KeySet) (s : Span) (rs : List Row) (n : Node) → Cover height keys (map node_of rs) → Memᴰ n (left_rows s (map node_of rs)) → Above rs n
above height keys s rs n c m = by (row_over rs (first_key n)) refl
  where
    from : (x : Node) × Memᴰ x (map node_of rs) × Memᴰ n (cut s.from s.to x.level x.index)
    from = from_joined (λ (x : Node). cut s.from s.to x.level x.index) (map node_of rs) n m

    under : (n.level ≤ from.0.level) × (first_key from.0 ≤ first_key n) × (past n ≤ past from.0)
    under = row_under (cut_row s.from s.to from.0.level from.0.index n from.2)

    high : first_key n < past from.0
    high = omega (arith, under.2, first_past n)

    by : (o : Option Row) → row_over rs (first_key n) ≡ o → Above rs n
    by None u = absurd (both_ways (held (map node_of rs) (first_key n)) (under_none rs (first_key n) u) (in_held (map node_of rs) from.0 (first_key n) from.1 under.1 high))
    by (Some y) u =
        let q = under_member rs (first_key n) y u in
        let o = stands_from (node_of y) (first_key n) q.1 in
        let same : node_of y ≡ from.0 = one-row 0 (2 ^ height) (map node_of rs) (node_of y) from.0 (first_key n) c.rising (member_map node_of rs y q.0) from.1 o.0 o.1 under.1 high in
        record { row = y; found = u; level = omega (arith, under.0, ap (λ (x : Node). x.level) same) }

module _ {C : Type 0} (e : Encrypted) (words : ℕ) (s : Span) (g : Grant C) where
  -- a refusal leaves the grant as it was
  refused : (why : Refusal) → ((rows : List Node) → Cover g.height.levels (both (numbers_of g) (named s)) rows → Err why ≡ verdict (narrow_rules words g.height.levels s (length rows))) → Narrows e s words g (Err why) g
  refused why a = record { answers = a; height = λ z. absurd (refused-ok z); rows = λ z. absurd (refused-ok z); seeds = λ z. absurd (refused-ok z); kept = λ m z. refl }

  pub bound_fault : (why : Refusal) → 66 ≤ words → Err why ≡ verdict (bound_rules (2 ^ g.height.levels) s) → Narrows e s words g (Err why) g
  bound_fault why room f = refused why (λ rows d. grind (arith, nat_tests))

module _ {C : Type 0} (e : Encrypted) (words : ℕ) (s : Span) (g : Grant C) (room : 66 ≤ words) (fine : Ok tt ≡ verdict (bound_rules (2 ^ g.height.levels) s)) where
  own : Cover g.height.levels (numbers_of g) (nodes_of g)
  own = sound-cover g.height.levels (nodes_of g) g.sound

  module _ (nodes : List Node) (are : nodes ≡ left_rows s (nodes_of g)) where
    left_covers : Cover g.height.levels (both (numbers_of g) (named s)) nodes
    left_covers = subst (Cover g.height.levels (both (numbers_of g) (named s))) (sym are) (left-cover g.height.levels (numbers_of g) s (nodes_of g) own)

    same_count : (rows : List Node) → Cover g.height.levels (both (numbers_of g) (named s)) rows → length rows ≡ length nodes
    same_count rows d = ap length (cover_unique g.height.levels (both (numbers_of g) (named s)) rows nodes d left_covers)

    over_left : (n : Node) → Memᴰ n nodes → Above (rows_of g) n
    over_left n m = above g.height.levels (numbers_of g) s (rows_of g) n own (subst (λ (x : List Node). Memᴰ n x) are m)

    pub many_left : (why : Refusal) → why ≡ TooManyRows → 128 < length nodes → Narrows e s words g (Err why) g
    many_left why is l = refused e words s g why (λ rows d. let n = same_count rows d in ap Err is ∙ grind (arith, nat_tests))

    pub none_left : length nodes ≡ 0 → Narrows e s words g (Err NothingLeft) g
    none_left l = refused e words s g NothingLeft (λ rows d. let n = same_count rows d in grind (arith, nat_tests))

    pub placed : (d : Node) (i : ℕ) → i < length nodes → Placed (rows_of g) (get_or nodes i d)
    placed d i h =
        let n = get_or nodes i d in
        let m = member_at nodes i d h in
        let r = left_covers.row n m in
        let a = over_left n m in
        let high : g.height.levels ≤ 32 = g.height.fits in
        record {
          low = omega (arith, r.low);
          inside = omega (arith, r.inside, pow_mono high, first_past n);
          row = a.row;
          over = a.found;
          level = a.level;
        }

    module _ (count : ℕ) (rows : List Row) (made : take count rows ≡ map (lowered e (rows_of g)) nodes) where
      made_nodes : map node_of (take count rows) ≡ nodes
      made_nodes = ap (map node_of) made ∙ map_back (lowered e (rows_of g)) node_of (λ n. refl) nodes

      pub left-sound : sound_rows g.height.levels count rows ≡ true
      left-sound = ap (λ (x : List Node). sound g.height.levels x) made_nodes ∙ cover-sound g.height.levels (both (numbers_of g) (named s)) nodes left_covers

      seed_above : (x : Row) → Memᴰ x (take count rows) → ComesFrom e (rows_of g) x
      seed_above x m =
          let q = from-map (lowered e (rows_of g)) nodes x (subst (λ (l : List Row). Memᴰ x l) made m) in
          let n = q.0 in
          let a = over_left n q.1 in
          let y = a.row in
          let u = under_member (rows_of g) (first_key n) y a.found in
          subst (ComesFrom e (rows_of g)) (sym q.2)
          (y, u.0, u.1, a.level, ap (λ (o : Option Row). seed_from e o n) a.found)

      pub narrowed_to : (after : Grant C) → after.height.levels ≡ g.height.levels → rows_of after ≡ take count rows → 0 < length nodes → length nodes ≤ 128 → Narrows e s words g (Ok tt) after
      narrowed_to after h same some l =
          record {
            answers = λ ns d. let n = same_count ns d in grind (arith, nat_tests);
            height = λ z. h;
            rows = λ z. subst (λ (x : List Node). Cover g.height.levels (both (numbers_of g) (named s)) x) (sym (ap (map node_of) same ∙ made_nodes)) left_covers;
            seeds = λ z x m. seed_above x (subst (λ (r : List Row). Memᴰ x r) same m);
            kept = λ m z. absurd (refused-ok (sym z));
          }
