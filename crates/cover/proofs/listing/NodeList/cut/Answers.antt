use Rattle.std.proofs.Common.{ℕ, length, take, refl, sym, ap, ◌∙◌, arith}
use Rattle.cover.specs.Cut.{CutsCover, CutsNarrow}
use Rattle.cover.specs.Listed.{listed}
use Rattle.cover.specs.Tree.{CoverIsOne, NoRowsNoKeys}
use Rattle.cover.proofs.Covers.{spans_cover, left-cover}
use Rattle.cover.proofs.Empty.{no_rows_no_keys}
use Rattle.cover.proofs.Existing.{cover_is_one}
use Rattle.cover.proofs.Passing.{tree-low, tree-past}
use Rattle.cover.proofs.Placing.{placed_tree, placed_nowhere, out_of_place, no_room, room}
use Rattle.cover.proofs.listing.NodeList.cut.Goals as goal

-- beside what one call does stands what holds of every cover
with_covers : {A L : Type 0} → A → L → record { answers : A; leaves : L; spans : CutsCover; narrowed : CutsNarrow; one : CoverIsOne; none : NoRowsNoKeys }
with_covers a l = record { answers = a; leaves = l; spans = spans_cover; narrowed = left-cover; one = cover_is_one; none = no_rows_no_keys }

pub returns-then-not-is_in_tree : goal.returns-then-not-is_in_tree
returns-then-not-is_in_tree c = with_covers (out_of_place c.args.node _ (placed_nowhere c.args.node (sym c.if-not-is_in_tree.ensures))) refl

pub cut-requires : goal.cut-requires
cut-requires c =
    let e = sym c.if-not-is_in_tree.ensures in
    record { low = tree-low 32 c.args.node e; inside = tree-past 32 c.args.node e }

pub returns-in-Err : goal.returns-in-Err
returns-in-Err c =
    with_covers
    (no_room c.args.node _ (placed_tree c.args.node (sym c.if-not-is_in_tree.ensures)) c.in-Err.ensures.added)
    (c.truncate.ensures.items ∙ ap (λ (k : ℕ). take k (listed c.cut.new.rows)) c.len-count.ensures.value ∙ c.in-Err.ensures.kept)

pub returns : goal.returns
returns c =
    with_covers
    (room c.args.node _ (placed_tree c.args.node (sym c.if-not-is_in_tree.ensures)) (omega (arith, c.cut.new.rows.fits, ap length c.in_default.ensures.added)))
    c.in_default.ensures.added
