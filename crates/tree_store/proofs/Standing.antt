-- New trees. Assumes nothing.
use Rattle.std.proofs.Common.{◌≡◌, ℕ, ◌+◌, ◌*◌, ◌^◌, ◌<◌, ◌≤◌, List, [], ◌∷◌, ◌++◌, length, take, drop, replicate, sym, refl, ap, ◌∙◌, arith, length-append, length-drop}
use Rattle.std.specs.List.{FoldsTo}
use lib.ListN.{length-replicate}
use Rattle.std.proofs.lemmas.List.{get_or_append_left, get_or-replicate, length-take-le}
use Rattle.group.specs.Kind.{Kind, sum}
use Rattle.tree_store.specs.Levels.{level_start}
use Rattle.tree_store.specs.Cells.{cleared}
use Rattle.tree_store.specs.declared.planning.Plan.{Plan}
use Rattle.tree_store.proofs.Widths.{ends-before}
use Rattle.tree_store.proofs.Parts.{between-beyond}
use Rattle.tree_store.proofs.Places.{Sound}
use Rattle.tree_store.proofs.Shapes.{plan_cells}

pub cleared-long : {G : Type 0} (none : G) (count : ℕ) (cells : List G) → count ≤ length cells → length (cleared none count cells) ≡ length cells
cleared-long none count cells h =
    let long = length-append (replicate count none) (drop count cells) in
    let front = length-replicate count none in
    let back = length-drop count cells in
    omega arith

-- cells that are filled by a closure which gives the same each time
pub filled_with : {G F : Type 0} (step : F → G → F → Type 0) (none : G) (keep : F → Type 0) (each : (f g : F) (x : G) → keep f → step f x g → (x ≡ none) × keep g) (xs : List G) (f g : F) → keep f → FoldsTo step f xs g → xs ≡ replicate (length xs) none
filled_with step none keep each [] f g now ran = refl
filled_with step none keep each (x ∷ xs) f g now ran =
    let here = each f ran.0 x now ran.1 in
    λ i. here.0 i ∷ filled_with step none keep each xs ran.0 g here.1 ran.2 i

-- where the first cells are all cleared
pub cleared_front : {G : Type 0} (none : G) (count : ℕ) (cells front : List G) → count ≤ length cells → front ≡ replicate (length (take count cells)) none → front ++ drop count cells ≡ cleared none count cells
cleared_front none count cells front h is = ap (λ (f : List _). f ++ drop count cells) (is ∙ ap (λ n. replicate n none) (length-take-le count cells h))

-- a tree of a plan, with every cell cleared
pub sound_new : {G V : Type 0} (kind : Kind G V) (p : Plan) (cells : List G) → Sound kind p.shape.fan_out p.shape.capacity p.shape.levels 0 (cleared kind.zero p.cells cells)
sound_new kind p cells l j low col =
    let none = kind.zero in
    let front = length-replicate p.cells none in
    let ends = ends-before p.shape.fan_out p.shape.capacity l p.shape.levels low in
    let at = level_start p.shape.fan_out p.shape.capacity l + j in
    let inside : at < p.cells = omega (arith, plan_cells p) in
    ap kind.value (get_or_append_left (replicate p.cells none) (drop p.cells cells) none at (omega arith) ∙ get_or-replicate p.cells at none none inside)
    ∙ kind.zero_counts ∙ sym (ap (sum kind) (between-beyond (j * p.shape.fan_out ^ l) ((j + 1) * p.shape.fan_out ^ l) [] (omega arith)))
