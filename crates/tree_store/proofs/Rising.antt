-- A tree with one figure more. Assumes nothing.
use Rattle.std.proofs.Common.{◌≡◌, ℕ, zero, suc, ◌+◌, ◌-◌, ◌*◌, ◌/◌, ◌^◌, ◌<◌, ◌≤◌, ◌≢◌, ◌⊎◌, List, [], ◌∷◌, ◌++◌, length, get_or, take, drop, sym, refl, ap, ◌∙◌, subst, inl, inr, ⊎_elim, mul-le-mul_right, add-mul, mul-one, div-mul-le_self, arith}
use native.Mathlib.Nat.{lt-div-mul-add, one-le-pow, pow-zero}
use Rattle.std.proofs.lemmas.List.{take_more_set, take-set-le, get_or-set_same, get_or-set_other, drop-set-lt}
use Rattle.std.proofs.lemmas.Bool.{cases_lt, cases_eq}
use Rattle.group.specs.Kind.{Kind, sum}
use Rattle.group.proofs.Sums.{sum-push}
use Rattle.tree_store.specs.Levels.{level_width, level_start}
use Rattle.tree_store.specs.Cells.{block, Entered, place, raised}
use Rattle.tree_store.proofs.Widths.{start_mono}
use Rattle.tree_store.proofs.Parts.{between-push, between-before, between-after, between-beyond}
use Rattle.tree_store.proofs.Places.{Sound, Stands, levels_some, lowest-room, figures-long, column-within, place-within, raised-length, lowest}

module _ {G V : Type 0} (kind : Kind G V) (k most n : ℕ) (x : G) (fanned : 0 < k) (within : n < most) (cells : List G) where
  -- the lowest level has the new figure, after those before it
  raised-front : (l : ℕ) → n < length cells → take (n + 1) (raised kind k most n x cells l) ≡ take n cells ++ (x ∷ [])
  raised-front zero h = take_more_set cells n x h
  raised-front (suc l) h =
      let s = start_mono k most 1 (suc l) (omega arith) in
      take-set-le (n + 1) (raised kind k most n x cells l) (place k most n (suc l)) _ (omega arith) ∙ raised-front l h

  -- a level's cells stay as they are while those above are written
  raised-later : (p l m : ℕ) → l ≤ m → p < level_start k most (suc l) → get_or (raised kind k most n x cells m) p kind.zero ≡ get_or (raised kind k most n x cells l) p kind.zero
  raised-later p l zero h lt = let e : l ≡ 0 = omega arith in rw e refl
  raised-later p l (suc m) h lt =
      ⊎_elim
      (λ (low : l < suc m).
      let s = start_mono k most (suc l) (suc m) low in
      let ne : p ≢ place k most n (suc m) = omega arith in
      get_or-set_other (raised kind k most n x cells m) (place k most n (suc m)) p _ kind.zero ne ∙ raised-later p l m (omega arith) lt)
      (λ (high : suc m ≤ l). let e : l ≡ suc m = omega arith in rw e refl)
      (cases_lt l (suc m))

  -- and are as they were until their level is written
  raised-above : (p l : ℕ) → level_start k most (suc l) ≤ p → get_or (raised kind k most n x cells l) p kind.zero ≡ get_or cells p kind.zero
  raised-above p zero h = let ne : p ≢ n = omega arith in get_or-set_other cells n p x kind.zero ne
  raised-above p (suc l) h =
      let inside = place-within k most n (suc l) (suc (suc l)) fanned within (omega arith) in
      let ne : p ≢ place k most n (suc l) = omega arith in
      get_or-set_other (raised kind k most n x cells l) (place k most n (suc l)) p _ kind.zero ne ∙ raised-above p l (omega arith)

  -- the cell of a level that the figure is in
  hit_lowest : (top : ℕ) → n < length cells → get_or (raised kind k most n x cells top) n kind.zero ≡ x
  hit_lowest top h = raised-later n 0 top (omega arith) (omega arith) ∙ get_or-set_same cells n x kind.zero h

  hit_upper : (l top : ℕ) → suc l ≤ top → level_start k most (suc top) ≤ length cells → get_or (raised kind k most n x cells top) (place k most n (suc l)) kind.zero ≡ kind.plus (get_or cells (place k most n (suc l)) kind.zero) x
  hit_upper l top h room =
      let p = place k most n (suc l) in
      let inside = place-within k most n (suc l) (suc (suc l)) fanned within (omega arith) in
      let s = start_mono k most (suc (suc l)) (suc top) (omega arith) in
      let long = raised-length kind k most n x cells l in
      raised-later p (suc l) top h (omega arith) ∙ get_or-set_same (raised kind k most n x cells l) p _ kind.zero (omega arith) ∙ ap (λ c. kind.plus c x) (raised-above p l (omega arith))

  -- the other cells
  miss : (l j top : ℕ) → l ≤ top → j < level_width k most l → j ≢ n / k ^ l → get_or (raised kind k most n x cells top) (level_start k most l + j) kind.zero ≡ get_or cells (level_start k most l + j) kind.zero
  miss zero j top h lt ne =
      let low = lowest k n in
      let off : 0 + j ≢ n = λ e. ne (omega arith) in
      raised-later (0 + j) 0 top h (omega arith) ∙ get_or-set_other cells n (0 + j) x kind.zero off
  miss (suc l) j top h lt ne =
      let off : level_start k most (suc l) + j ≢ place k most n (suc l) = λ e. ne (omega arith) in
      raised-later (level_start k most (suc l) + j) (suc l) top h (omega arith) ∙ get_or-set_other (raised kind k most n x cells l) (place k most n (suc l)) (level_start k most (suc l) + j) _ kind.zero off ∙ raised-above (level_start k most (suc l) + j) l (omega arith)

  -- a cell that the figure is in at no level
  raised-others : (p top : ℕ) → ((l : ℕ) → l ≤ top → p ≢ place k most n l) → get_or (raised kind k most n x cells top) p kind.zero ≡ get_or cells p kind.zero
  raised-others p zero apart =
      let low = lowest k n in
      let off : p ≢ n = λ e. apart 0 (omega arith) (omega arith) in
      get_or-set_other cells n p x kind.zero off
  raised-others p (suc top) apart =
      get_or-set_other (raised kind k most n x cells top) (place k most n (suc top)) p _ kind.zero (apart (suc top) (omega arith)) ∙ raised-others p top (λ l h. apart l (omega arith))

  -- the cells past those of all levels
  pub raised-beyond : (count l : ℕ) → level_start k most (suc l) ≤ count → drop count (raised kind k most n x cells l) ≡ drop count cells
  raised-beyond count zero h = drop-set-lt count cells n x (omega arith)
  raised-beyond count (suc l) h =
      let inside = place-within k most n (suc l) (suc (suc l)) fanned within (omega arith) in
      drop-set-lt count (raised kind k most n x cells l) (place k most n (suc l)) _ (omega arith) ∙ raised-beyond count l (omega arith)

-- which blocks a number is in
column-holds : (K n : ℕ) → 0 < K → (n / K * K ≤ n) × (n < (n / K + 1) * K)
column-holds K n h = let a = div-mul-le_self n K in let b = lt-div-mul-add {a = n} {b = K} h in let e = add-mul (n / K) 1 K in (a, omega arith)

column_misses : (K n j : ℕ) → 0 < K → j ≢ n / K → (n < j * K) ⊎ ((j + 1) * K ≤ n)
column_misses K n j h ne =
    let c = column-holds K n h in
    ⊎_elim
    (λ (lt : j < n / K). inr (let m = mul-le-mul_right {m = j + 1} {n = n / K} K (omega arith) in omega arith))
    (λ (ge : n / K ≤ j). inl (let m = mul-le-mul_right {m = n / K + 1} {n = j} K (lt_of_le_ne' (n / K) j ge ne) in omega arith))
    (cases_lt j (n / K))
  where
    lt_of_le_ne' : (a b : ℕ) → a ≤ b → b ≢ a → a + 1 ≤ b
    lt_of_le_ne' a b h ne = ⊎_elim (λ (lt : a < b). omega arith) (λ (ge : b ≤ a). absurd (ne (omega arith))) (cases_lt a b)

module _ {G V : Type 0} (kind : Kind G V) where
  -- what a block comes to, with figure x at the end
  block-grows : (k l j : ℕ) (es : List G) (x : G) → 0 < k → j ≡ length es / k ^ l → sum kind (block k l j (es ++ (x ∷ []))) ≡ kind.sums.plus (sum kind (block k l j es)) (kind.value x)
  block-grows k l j es x h at =
      let c = column-holds (k ^ l) (length es) (one-le-pow l k h) in
      let low : j * k ^ l ≤ length es = rw at c.0 in
      let high : length es < (j + 1) * k ^ l = rw at c.1 in
      ap (sum kind) (between-push (j * k ^ l) ((j + 1) * k ^ l) es x low high) ∙ sum-push kind (block k l j es) x

  block_stays : (k l j : ℕ) (es : List G) (x : G) → 0 < k → j ≢ length es / k ^ l → sum kind (block k l j (es ++ (x ∷ []))) ≡ sum kind (block k l j es)
  block_stays k l j es x h ne =
      ap (sum kind)
      (⊎_elim
      (λ (lt : length es < j * k ^ l). between-after (j * k ^ l) ((j + 1) * k ^ l) es x lt)
      (λ (le : (j + 1) * k ^ l ≤ length es). between-before (j * k ^ l) ((j + 1) * k ^ l) es x le)
      (column_misses (k ^ l) (length es) j (one-le-pow l k h) ne))

  -- the lowest block of a figure that is not there yet is empty
  block-empty : (k j : ℕ) (es : List G) → length es ≤ j → sum kind (block k 0 j es) ≡ kind.sums.zero
  block-empty k j es h =
      let e : j * k ^ 0 ≡ j = ap (λ p. j * p) (pow-zero k) ∙ mul-one j in
      ap (sum kind) (between-beyond (j * k ^ 0) ((j + 1) * k ^ 0) es (omega arith))

  module _ (k most levels n : ℕ) (cells : List G) (x : G) (t : Stands k most levels n (length cells)) (lt : n < most) where
    positive : 0 < k
    positive = omega (arith, t.fanned.0)

    inside : n < length cells
    inside = let b = lowest-room k most levels (length cells) t.levelled t.room in omega arith

    long : length (take n cells) ≡ n
    long = sym (figures-long k most levels n cells t.levelled t.room t.within)

    -- the cell that the figure is in, level by level
    held_hit : Sound kind k most levels n cells → (l j top : ℕ) → l ≤ top → suc top ≡ levels → j ≡ n / k ^ l → kind.value (get_or (raised kind k most n x cells top) (level_start k most l + j) kind.zero) ≡ kind.sums.plus (sum kind (block k l j (take n cells))) (kind.value x)
    held_hit s zero j top low up at =
        let e : 0 + j ≡ n = omega (arith, lowest k n) in
        let hit : get_or (raised kind k most n x cells top) (0 + j) kind.zero ≡ x = ap (λ p. get_or (raised kind k most n x cells top) p kind.zero) e ∙ hit_lowest kind k most n x positive lt cells top inside in
        let none = block-empty k j (take n cells) (omega (arith, long)) in
        ap kind.value hit ∙ sym (kind.sums.unit (kind.value x)) ∙ ap (λ v. kind.sums.plus v (kind.value x)) (sym none)
    held_hit s (suc l) j top low up at =
        let e : level_start k most (suc l) + j ≡ place k most n (suc l) = ap (λ c. level_start k most (suc l) + c) at in
        let room : level_start k most (suc top) ≤ length cells = subst (λ m. level_start k most m ≤ length cells) (sym up) t.room in
        let hit = ap (λ p. get_or (raised kind k most n x cells top) p kind.zero) e ∙ hit_upper kind k most n x positive lt cells l top low room ∙ ap (λ p. kind.plus (get_or cells p kind.zero) x) (sym e) in
        let col : j < level_width k most (suc l) = rw at (column-within k most n (suc l) positive lt) in
        ap kind.value hit ∙ kind.plus_counts _ x ∙ ap (λ v. kind.sums.plus v (kind.value x)) (s (suc l) j (omega arith) col)

    pub figures_put : take (n + 1) (raised kind k most n x cells (levels - 1)) ≡ take n cells ++ (x ∷ [])
    figures_put = raised-front kind k most n x positive lt cells (levels - 1) inside

    pub sound_put : Sound kind k most levels n cells → Sound kind k most levels (n + 1) (raised kind k most n x cells (levels - 1))
    sound_put s l j low col =
        let some = levels_some k most levels t.levelled in
        let top = levels - 1 in
        let es = take n cells in
        let after = raised kind k most n x cells top in
        let pushed : kind.value (get_or after (level_start k most l + j) kind.zero) ≡ sum kind (block k l j (es ++ (x ∷ []))) =
        ⊎_elim
        (λ (at : j ≡ n / k ^ l).
        held_hit s l j top (omega arith) (omega arith) at ∙ sym (block-grows k l j es x positive (rw long at)))
        (λ (ne : j ≢ n / k ^ l).
        ap kind.value (miss kind k most n x positive lt cells l j top (omega arith) col ne) ∙ s l j low col ∙ sym (block_stays k l j es x positive (rw long ne)))
        (cases_eq j (n / k ^ l)) in
        pushed ∙ ap (λ (fs : List G). sum kind (block k l j fs)) (sym figures_put)

    -- one cell of each level is written, and no other
    pub entered : Entered kind k most levels n x cells (raised kind k most n x cells (levels - 1))
    entered =
        let some = levels_some k most levels t.levelled in
        let top = levels - 1 in
        record {
          long = raised-length kind k most n x cells top;
          lowest = hit_lowest kind k most n x positive lt cells top inside;
          above = λ l up low. hit_above l up (omega arith);
          others = λ p apart. raised-others kind k most n x positive lt cells p top (λ l h. apart l (omega arith));
        }
      where
        hit_above : (l : ℕ) → 0 < l → l ≤ levels - 1 → get_or (raised kind k most n x cells (levels - 1)) (place k most n l) kind.zero ≡ kind.plus (get_or cells (place k most n l) kind.zero) x
        hit_above zero up low = absurd (omega arith)
        hit_above (suc l) up low =
            let some = levels_some k most levels t.levelled in
            let all : suc (levels - 1) ≡ levels = omega arith in
            hit_upper kind k most n x positive lt cells l (levels - 1) low (subst (λ m. level_start k most m ≤ length cells) (sym all) t.room)
