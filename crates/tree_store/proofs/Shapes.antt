-- What the ghost fields of a plan and of a tree say. Assumes nothing.
use Rattle.std.proofs.Common.{◌≡◌, ℕ, suc, ◌+◌, ◌-◌, ◌/◌, ◌^◌, ◌<◌, ◌≤◌, length, take, sym, ap, ◌∙◌, arith}
use Rattle.tree_store.specs.Levels.{level_start, level_width, cells_needed}
use Rattle.tree_store.specs.declared.planning.Plan.{Plan}
use Rattle.tree_store.specs.declared.tree.TreeStore.{TreeStore}
use Rattle.tree_store.proofs.Places.{Stands, levels_some, lowest-room, figures-long, next_up, place-within}

-- the cells of a plan are those of all its levels
pub plan_cells : (p : Plan) → p.cells ≡ level_start p.shape.fan_out p.shape.capacity p.shape.levels
unfolding cells_needed
plan_cells p = p.counted ∙ ap (level_start p.shape.fan_out p.shape.capacity) (sym p.shape.levelled)

module _ {G : Type 0} (s : TreeStore G) where
  pub stands : Stands s.shape.fan_out s.shape.capacity s.shape.levels s.used (length s.cells.now)
  stands = record { fanned = s.shape.fanned; sized = s.shape.sized; levelled = s.shape.levelled; room = s.room; within = s.within }

  pub some_level : 1 ≤ s.shape.levels
  some_level = levels_some s.shape.fan_out s.shape.capacity s.shape.levels s.shape.levelled

  pub places_room : s.shape.capacity ≤ length s.cells.now
  places_room = lowest-room s.shape.fan_out s.shape.capacity s.shape.levels (length s.cells.now) s.shape.levelled s.room

  pub used_long : s.used ≡ length (take s.used s.cells.now)
  used_long = figures-long s.shape.fan_out s.shape.capacity s.shape.levels s.used s.cells.now s.shape.levelled s.room s.within

  -- one level up, the cell of the next figure is among the cells
  pub inside : (l start width at : ℕ) → start ≡ level_start s.shape.fan_out s.shape.capacity l → width ≡ level_width s.shape.fan_out s.shape.capacity l → at ≡ s.used / s.shape.fan_out ^ l → l < s.shape.levels - 1 → s.used < s.shape.capacity → start + width + at / s.shape.fan_out < length s.cells.now
  inside l start width at is wide here up free =
      let k = s.shape.fan_out in
      let e : at / k ≡ s.used / k ^ suc l = ap (λ m. m / k) here ∙ next_up k s.used l in
      let p = place-within k s.shape.capacity s.used (suc l) s.shape.levels (omega (arith, s.shape.fanned.0)) free (omega arith) in
      omega (arith, s.room)
