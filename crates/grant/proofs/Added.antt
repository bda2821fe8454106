-- A grant with one row more. Assumes nothing.
use Rattle.std.proofs.Common.{◌≡◌, ℕ, suc, ◌+◌, ◌-◌, ◌^◌, ◌<◌, true, leb, List, [], ◌∷◌, map, length, set, Some, None, Ok, Err, Option, option_map, sym, refl, ap, ◌∙◌, arith}
use Rattle.std.specs.List.{slice_get}
use Rattle.std.proofs.lemmas.List.{take_more_set, map-append}
use Rattle.std.proofs.lemmas.Bool.{le-leb, and_from}
use Rattle.refusal.specs.declared.Refusal.{Refusal}
use Rattle.refusal.specs.declared.Refusal.TheVariants.{TooManyRows}
use Rattle.refusal.specs.Judged.{Rules, first, refusal}
use Rattle.refusal.proofs.Judging.{refusal-judged}
use Rattle.cover.specs.declared.node.Node.{Node}
use Rattle.cover.specs.Tree.{sound}
use Rattle.cover.specs.Next.{next_rules, last_of}
use Rattle.cover.proofs.Passing.{sound_more}
use Rattle.grant.specs.declared.grant.row.Row.{Row}
use Rattle.grant.specs.declared.grant.Grant.{Grant}
use Rattle.grant.specs.Rows.{node_of, sound_rows}
use Rattle.grant.specs.Grants.{rows_of, nodes_of}
use Rattle.grant.specs.Filling.{add_rules}
use Rattle.grant.proofs.Verdicts.{verdict, judged-found, judged-rest}

last_at : (before : Option Node) (r : Row) (rs : List Row) → last_of before (map node_of (r ∷ rs)) ≡ option_map node_of (slice_get (r ∷ rs) (length rs))
last_at before r [] = refl
last_at before r (x ∷ rs) = last_at (Some (node_of r)) x rs

pub last_row : (rs : List Row) → option_map node_of (slice_get rs (length rs - 1)) ≡ last_of None (map node_of rs)
last_row [] = refl
last_row (r ∷ rs) = ap (λ (n : ℕ). option_map node_of (slice_get (r ∷ rs) n)) (let q : suc (length rs) - 1 ≡ length rs = omega arith in q) ∙ sym (last_at None r rs)

-- what the check of the next row says of the adding
module _ {C : Type 0} (g : Grant C) (row : Row) {m : Option Node} {n : Node} (before : m ≡ last_of None (nodes_of g)) (here : n ≡ node_of row) where
  rules : Rules
  rules = next_rules g.height.levels (last_of None (nodes_of g)) (node_of row)

  same : verdict (next_rules g.height.levels m n) ≡ verdict rules
  unfolding rules
  same i = verdict (next_rules g.height.levels (before i) (here i))

  pub added_refused : (why : Refusal) → Err why ≡ verdict (next_rules g.height.levels m n) → verdict (add_rules g row) ≡ Err why
  unfolding rules
  added_refused why e = judged-found rules ((leb 128 (length (rows_of g)), TooManyRows) ∷ []) why (sym (e ∙ same))

  pub added_passed : verdict (next_rules g.height.levels m n) ≡ Ok tt → verdict (add_rules g row) ≡ verdict ((leb 128 (length (rows_of g)), TooManyRows) ∷ [])
  unfolding rules
  added_passed e = judged-rest rules ((leb 128 (length (rows_of g)), TooManyRows) ∷ []) (sym same ∙ e)

  pub added_sound : g.count < length g.rows → verdict (next_rules g.height.levels m n) ≡ Ok tt → sound_rows g.height.levels (g.count + 1) (set g.rows g.count row) ≡ true
  unfolding rules
  added_sound room e =
      let free : first rules ≡ None = sym (refusal-judged rules tt) ∙ ap refusal (sym same ∙ e) in
      ap (λ (rs : List Row). sound g.height.levels (map node_of rs)) (take_more_set g.rows g.count row room)
      ∙ ap (sound g.height.levels) (map-append node_of (rows_of g) (row ∷ []))
      ∙ sound_more g.height.levels (nodes_of g) (node_of row) g.sound free

-- a first row that passes
pub first_sound : (height : ℕ) (row : Row) {n : Node} → n ≡ node_of row → verdict (next_rules height None n) ≡ Ok tt → sound height (node_of row ∷ []) ≡ true
first_sound height row {n} here e =
    let rules = next_rules height None (node_of row) in
    let free : first rules ≡ None = sym (refusal-judged rules tt) ∙ ap refusal (ap (λ (x : Node). verdict (next_rules height None x)) (sym here) ∙ e) in
    sound_more height [] (node_of row) (and_from (leb 0 (2 ^ height)) true (le-leb 0 (2 ^ height) (omega arith)) refl) free
