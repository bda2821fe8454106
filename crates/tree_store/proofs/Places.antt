-- Where a figure's cells are. Assumes nothing.
use Rattle.std.proofs.Common.{◌≡◌, ℕ, zero, suc, ◌/◌, ◌^◌, ◌<◌, ◌≤◌, List, length, get_or, take, set, sym, ap, ◌∙◌, pow-suc, div-one, arith, length-set, length-take}
use native.Mathlib.Nat.{div-div-eq-div-mul, pow-zero, one-le-pow}
use Rattle.std.proofs.lemmas.List.{set-set, get_or_read}
use Rattle.std.proofs.lemmas.Nat.{div_below}
use Rattle.group.specs.Kind.{Kind}
use Rattle.tree_store.specs.Levels.{level_width, level_start, level_count}
use Rattle.tree_store.specs.Cells.{Holds, place, raised}
use Rattle.tree_store.proofs.Widths.{width_reaches, ends-before}
use Rattle.tree_store.proofs.Climbs.{count-some}

-- the numbers of a tree over `count` cells, n of the lowest in use
pub record Stands (k most levels n count : ℕ) : Type 0 where
  pub fanned : (2 ≤ k) × (k ≤ 64)
  pub sized : most ≤ 1048576
  pub levelled : levels ≡ level_count k most
  pub room : level_start k most levels ≤ count
  pub within : n ≤ most

-- every cell holds the sum of its block of the first n cells
abbrev pub Sound : {G V : Type 0} → Kind G V → ℕ → ℕ → ℕ → ℕ → List G → Type 0
Sound kind k most levels n cells = Holds kind k most levels (take n cells) cells

pub levels_some : (k most levels : ℕ) → levels ≡ level_count k most → 1 ≤ levels
levels_some k most levels e = rw e (count-some k most)

-- the lowest level is among the cells
pub lowest-room : (k most levels count : ℕ) → levels ≡ level_count k most → level_start k most levels ≤ count → most ≤ count
lowest-room k most levels count e room = let b = ends-before k most 0 levels (levels_some k most levels e) in omega arith

-- its figures are as many as it counts
pub figures-long : {G : Type 0} (k most levels n : ℕ) (cells : List G) → levels ≡ level_count k most → level_start k most levels ≤ length cells → n ≤ most → n ≡ length (take n cells)
figures-long k most levels n cells e room within = let b = lowest-room k most levels (length cells) e room in let t = length-take n cells in omega arith

pub lowest : (k n : ℕ) → n ≡ n / k ^ 0
lowest k n = sym (ap (λ p. n / p) (pow-zero k) ∙ div-one n)

pub next_up : (k n l : ℕ) → n / k ^ l / k ≡ n / k ^ suc l
next_up k n l = div-div-eq-div-mul n (k ^ l) k ∙ ap (λ p. n / p) (sym (pow-suc k l))

pub column-within : (k most n l : ℕ) → 0 < k → n < most → n / k ^ l < level_width k most l
column-within k most n l h lt =
    let reach = width_reaches k most h l in
    div_below n (k ^ l) (level_width k most l) (one-le-pow l k h) (omega arith)

pub place-within : (k most n l levels : ℕ) → 0 < k → n < most → l < levels → place k most n l < level_start k most levels
place-within k most n l levels h lt up =
    let c = column-within k most n l h lt in
    let e = ends-before k most l levels up in
    omega arith

module _ {G V : Type 0} (kind : Kind G V) (k most n : ℕ) (x : G) where
  pub raised_again : (cells : List G) (l : ℕ) → raised kind k most n x (set cells n x) l ≡ raised kind k most n x cells l
  raised_again cells zero = set-set cells n x x
  raised_again cells (suc l) = ap (λ (c : List G). set c (place k most n (suc l)) (kind.plus (get_or c (place k most n (suc l)) kind.zero) x)) (raised_again cells l)

  pub raised-length : (cells : List G) (l : ℕ) → length (raised kind k most n x cells l) ≡ length cells
  raised-length cells zero = length-set cells n x
  raised-length cells (suc l) = length-set (raised kind k most n x cells l) (place k most n (suc l)) _ ∙ raised-length cells l

  -- one level more is written
  pub raised-more : (cells now : List G) (l i : ℕ) (old new : G) → now ≡ raised kind k most n x cells l → i ≡ place k most n (suc l) → i < length now → old ≡ get_or now i old → new ≡ kind.plus old x → set now i new ≡ raised kind k most n x cells (suc l)
  raised-more cells now l i old new is at lt read sum =
      let got : old ≡ get_or now i kind.zero = get_or_read now i old lt read kind.zero in
      let written : set now i new ≡ set now i (kind.plus (get_or now i kind.zero) x) = ap (set now i) (sum ∙ ap (λ o. kind.plus o x) got) in
      written ∙ ap (λ (c : List G). set c i (kind.plus (get_or c i kind.zero) x)) is ∙ ap (λ j. set (raised kind k most n x cells l) j (kind.plus (get_or (raised kind k most n x cells l) j kind.zero) x)) at
