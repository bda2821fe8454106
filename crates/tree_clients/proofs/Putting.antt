-- Puts into a tree, one after another. Assumes nothing.
use Rattle.std.proofs.Common.{◌≡◌, ℕ, suc, ◌+◌, ◌-◌, ◌<◌, ◌≤◌, false, List, [], ◌∷◌, ◌++◌, length, get_or, take, drop, replicate, is_ok, Ok, Err, Result, sym, ap, ◌∙◌, subst, ⊎_elim, arith, length-take}
use Rattle.std.proofs.lemmas.List.{append_assoc, take_all, take_more, take-append-le, drop_at, length_push, length-append, length-replicate}
use Rattle.std.proofs.lemmas.Bool.{le-leb, lt-leb, cond-true, cond-false, cases_lt}
use Rattle.refusal.specs.Judged.{judged, left_by}
use Rattle.refusal.specs.declared.Refusal.{Refusal}
use Rattle.refusal.specs.declared.Refusal.TheVariants.{Full}
use Rattle.group.specs.Kind.{Kind}
use Rattle.store.specs.Contents.{Contents, push, put_rules}
use Rattle.tree_store.specs.Levels.{level_start}
use Rattle.tree_store.specs.Cells.{cleared}
use Rattle.tree_store.specs.Trees.{tree, Summed, with_figure}
use Rattle.tree_store.specs.declared.tree.TreeStore.{TreeStore}
use Rattle.tree_store.proofs.Rising.{raised-beyond}
use Rattle.tree_store.proofs.Shapes.{some_level}
use Rattle.tree_clients.specs.Puts.{filled, top}

-- a put is accepted while there is a place, and refused after
module _ {G R : Type 0} (c : Contents G) (x : R) (r : Result R Refusal) (answers : r ≡ judged (put_rules c) x) where
  pub put_free : length c.entries < c.capacity → r ≡ Ok x
  put_free h = answers ∙ cond-false _ _ _ (lt-leb c.capacity (length c.entries) h)

  pub put_full : c.capacity ≤ length c.entries → r ≡ Err Full
  put_full h = answers ∙ cond-true _ _ _ (le-leb c.capacity (length c.entries) h)

-- one figure more, where there is a place and where there is none
pub filled-free : {G : Type 0} (c : Contents G) (xs : List G) (x : G) → length (filled c xs).entries < c.capacity → push (filled c xs) x ≡ filled c (xs ++ (x ∷ []))
filled-free c xs x h =
    let m = c.capacity - length c.entries in
    let long = length-append c.entries (take m xs) in
    let part = length-take m xs in
    let more = length_push xs x in
    let room : length xs < m = omega arith in
    let row : take m xs ++ (x ∷ []) ≡ take m (xs ++ (x ∷ [])) = ap (λ ys. ys ++ (x ∷ [])) (take_all m xs (omega arith)) ∙ sym (take_all m (xs ++ (x ∷ [])) (omega arith)) in
    λ i. record { entries = (append_assoc c.entries (take m xs) (x ∷ []) ∙ ap (λ ys. c.entries ++ ys) row) i; capacity = c.capacity }

pub filled-full : {G : Type 0} (c : Contents G) (xs : List G) (x : G) → c.capacity ≤ length (filled c xs).entries → filled c xs ≡ filled c (xs ++ (x ∷ []))
filled-full c xs x h =
    let m = c.capacity - length c.entries in
    let long = length-append c.entries (take m xs) in
    let part = length-take m xs in
    let over : m ≤ length xs = omega arith in
    λ i. record { entries = c.entries ++ sym (take-append-le m xs (x ∷ []) over) i; capacity = c.capacity }

-- the next of a row of figures is put
module _ {G R : Type 0} (unit : R) (c s t : Contents G) (x : G) (r : Result R Refusal) (answers : r ≡ judged (put_rules s) unit) (leaves : t ≡ left_by r s (push s x)) where
  put_more : (xs : List G) → s ≡ filled c xs → t ≡ filled c (xs ++ (x ∷ []))
  put_more xs is =
      let most = ap (λ a. a.capacity) is in
      let long = ap (λ a. length a.entries) is in
      ⊎_elim
      (λ (h : length s.entries < s.capacity).
      leaves ∙ ap (λ q. left_by q s (push s x)) (put_free s unit r answers h) ∙ ap (λ a. push a x) is ∙ filled-free c xs x (omega (arith, h, most, long)))
      (λ (h : s.capacity ≤ length s.entries).
      leaves ∙ ap (λ q. left_by q s (push s x)) (put_full s unit r answers h) ∙ is ∙ filled-full c xs x (omega (arith, h, most, long)))
      (cases_lt (length s.entries) s.capacity)

-- from this tree to that, by putting the figures
pub record Filling {G V : Type 0} (kind : Kind G V) (start : TreeStore G) (figures : List G) (s : TreeStore G) : Type 0 where
  pub leaves : tree s ≡ filled (tree start) figures
  pub keeps : Summed kind start → Summed kind s
  pub shape : s.shape ≡ start.shape
  pub place : s.cells.ghost_name ≡ start.cells.ghost_name
  pub beyond : drop (top start.shape) s.cells.now ≡ drop (top start.shape) start.cells.now
  pub spares : (tree start).capacity ≡ 0 → s.cells.now ≡ start.cells.now

module _ {G V : Type 0} (kind : Kind G V) where
  -- past the cells of all levels a put changes nothing
  put_beyond : (s : TreeStore G) (x : G) → length (tree s).entries < (tree s).capacity → drop (top s.shape) (with_figure kind s x) ≡ drop (top s.shape) s.cells.now
  put_beyond s x h =
      let some = some_level s in
      let all : suc (s.shape.levels - 1) ≡ s.shape.levels = omega arith in
      raised-beyond kind s.shape.fan_out s.shape.capacity (length (tree s).entries) x (omega (arith, s.shape.fanned.0)) h s.cells.now (top s.shape) (s.shape.levels - 1)
      (subst (λ m. level_start s.shape.fan_out s.shape.capacity m ≤ top s.shape) (sym all) (omega arith))

  module _ {R : Type 0} (unit : R) (start s t : TreeStore G) (xs : List G) (x : G) (r : Result R Refusal) (f : Filling kind start xs s) (answers : r ≡ judged (put_rules (tree s)) unit) (leaves : tree t ≡ left_by r (tree s) (push (tree s) x)) (spares : is_ok r ≡ false → t ≡ s) (keeps : Summed kind s → Summed kind t) (writes : t.cells.now ≡ left_by r s.cells.now (with_figure kind s x)) (place : t.cells.ghost_name ≡ s.cells.ghost_name) (shape : t.shape ≡ s.shape) where
    same_capacity : (tree s).capacity ≡ (tree start).capacity
    same_capacity = ap (λ c. c.capacity) f.leaves

    free : length (tree s).entries < (tree s).capacity → Filling kind start (xs ++ (x ∷ [])) t
    free h =
        let ok = put_free (tree s) unit r answers h in
        let held : t.cells.now ≡ with_figure kind s x = writes ∙ ap (λ q. left_by q s.cells.now (with_figure kind s x)) ok in
        let ends : top s.shape ≡ top start.shape = ap top f.shape in
        record {
          leaves = put_more unit (tree start) (tree s) (tree t) x r answers leaves xs f.leaves;
          keeps = λ sound. keeps (f.keeps sound);
          shape = shape ∙ f.shape;
          place = place ∙ f.place;
          beyond = ap (drop (top start.shape)) held ∙ subst (λ m. drop m (with_figure kind s x) ≡ drop m s.cells.now) ends (put_beyond s x h) ∙ f.beyond;
          spares = λ none. absurd (omega (arith, h, same_capacity, none));
        }

    full : (tree s).capacity ≤ length (tree s).entries → Filling kind start (xs ++ (x ∷ [])) t
    full h =
        let same : t ≡ s = spares (ap is_ok (put_full (tree s) unit r answers h)) in
        let long = ap (λ c. length c.entries) f.leaves in
        subst (Filling kind start (xs ++ (x ∷ []))) (sym same)
        (record { leaves = f.leaves ∙ filled-full (tree start) xs x (omega (arith, h, same_capacity, long)); keeps = f.keeps; shape = f.shape; place = f.place; beyond = f.beyond; spares = f.spares })

    filling-more : Filling kind start (xs ++ (x ∷ [])) t
    filling-more = ⊎_elim free full (cases_lt (length (tree s).entries) (tree s).capacity)

    -- the next of a row of figures is put
    pub filling-next : (figures : List G) (i : ℕ) → xs ≡ take i figures → i < length figures → x ≡ get_or figures i x → Filling kind start (take (i + 1) figures) t
    filling-next figures i is low read =
        subst (λ (ys : List G). Filling kind start ys t) (sym (take_more figures i x low ∙ (λ j. sym is j ++ (sym read j ∷ [])))) filling-more

pub cleared-beyond : {G : Type 0} (none : G) (count : ℕ) (cells : List G) → drop count (cleared none count cells) ≡ drop count cells
cleared-beyond none count cells = drop_at (replicate count none) (drop count cells) count (length-replicate count none)
