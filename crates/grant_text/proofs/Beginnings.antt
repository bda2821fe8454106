-- Texts that begin with the lines of rows: one row more, and that a text begins in one way. Assumes nothing.
use Rattle.std.proofs.Common.{◌≡◌, ℕ, zero, suc, ◌+◌, ◌-◌, ◌*◌, ◌<◌, ◌≤◌, List, [], ◌∷◌, ◌++◌, length, get_or, take, drop, sym, refl, ap, ◌∙◌, subst, ⊎_elim, arith, take-add}
use Rattle.std.specs.List.{flat_map}
use Rattle.std.proofs.lemmas.List.{append-nil, length-append, length_push, length-take, length-take-le, length-drop, take_at, take_all, drop_at, drop-drop, get_or_append_left, get_or-append_right, get_or-take, ext_get_or, flat_map_more}
use Rattle.std.proofs.lemmas.Bool.{cases_lt}
use Rattle.grant.specs.declared.grant.row.Row.{Row}
use Rattle.grant.specs.Rows.{zero_row}
use Rattle.grant_text.specs.Texts.{heading, row_line}
use Rattle.grant_text.specs.Readings.{FitsLine, AllFit, Headed, line, Shows, Begins}
use Rattle.grant_text.proofs.Widths.{length-row_line, length-heading}
use Rattle.grant_text.proofs.Cuts.{part_of_take, row_same, sizes-same}

-- the parts of rows in which each fits
fit_tail : (r : Row) (rows : List Row) → AllFit (r ∷ rows) → AllFit rows
fit_tail r rows f i h = f (suc i) (omega arith)

pub fit-more : (rows : List Row) (r : Row) → AllFit rows → FitsLine r → AllFit (rows ++ (r ∷ []))
fit-more rows r f here i h =
    ⊎_elim
    (λ (lt : i < length rows). subst FitsLine (sym (get_or_append_left rows (r ∷ []) zero_row i lt)) (f i lt))
    (λ (ge : length rows ≤ i).
    let z : i - length rows ≡ 0 = omega (arith, length_push rows r) in
    subst FitsLine (sym (get_or-append_right rows (r ∷ []) (length rows) i zero_row refl ge ∙ ap (λ (k : ℕ). get_or (r ∷ []) k zero_row) z)) here)
    (cases_lt i (length rows))

pub length-lines : (rows : List Row) → AllFit rows → length (flat_map row_line rows) ≡ 57 * length rows
length-lines [] f = refl
length-lines (r ∷ rows) f =
    omega (arith, length-append (row_line r) (flat_map row_line rows), length-row_line r (f 0 (omega arith)), length-lines rows (fit_tail r rows f))

-- line i of joined lines
joined_line : (rows : List Row) → AllFit rows → (i : ℕ) → i < length rows → take 57 (drop (57 * i) (flat_map row_line rows)) ≡ row_line (get_or rows i zero_row)
joined_line [] f i h = absurd (omega arith)
joined_line (r ∷ rows) f zero h = take_at (row_line r) (flat_map row_line rows) 57 (length-row_line r (f 0 (omega arith)))
joined_line (r ∷ rows) f (suc i) h =
    let more : 57 * suc i ≡ 57 + 57 * i = omega arith in
    let past : drop 57 (row_line r ++ flat_map row_line rows) ≡ flat_map row_line rows = drop_at (row_line r) (flat_map row_line rows) 57 (length-row_line r (f 0 (omega arith))) in
    ap (λ (k : ℕ). take 57 (drop k (flat_map row_line (r ∷ rows)))) more
    ∙ ap (take 57) (sym (drop-drop (57 * i) 57 (flat_map row_line (r ∷ rows))) ∙ ap (drop (57 * i)) past)
    ∙ joined_line rows (fit_tail r rows f) i (omega arith)

-- two headings of one text are one
pub same-heading : (bs : List ℕ) (h k p q : ℕ) → Headed bs h k → Headed bs p q → (h ≡ p) × (k ≡ q)
same-heading bs h k p q a b =
    let size = a.0 in
    let size' = b.0 in
    let s : List ℕ = drop 4 (take 12 bs) in
    let all : take 8 s ≡ s = take_all 8 s (omega (arith, length-drop 4 (take 12 bs), length-take 12 bs)) in
    sizes-same s h k p q (omega arith) (omega arith) (omega arith) (omega arith) (all ∙ ap (drop 4) a.1) (all ∙ ap (drop 4) b.1)

module _ (bs : List ℕ) (h k : ℕ) where
  pub begins-none : Headed bs h k → length bs ≡ 12 + 57 * k → Begins bs h k []
  begins-none headed long = record { headed = headed; long = long; few = omega arith; fit = λ i lt. absurd (omega arith); lines = headed.1 ∙ sym (append-nil (heading h k)) }

  pub begins-more : (rows : List Row) (r : Row) → Begins bs h k rows → length rows < k → Shows bs (length rows) r → Begins bs h k (rows ++ (r ∷ []))
  begins-more rows r b few shown =
      let next : 12 + 57 * length (rows ++ (r ∷ [])) ≡ 12 + 57 * length rows + 57 = omega (arith, length_push rows r) in
      record {
        headed = b.headed;
        long = b.long;
        few = omega (arith, length_push rows r);
        fit = fit-more rows r b.fit shown.0;
        lines = ap (λ (n : ℕ). take n bs) next ∙ take-add (12 + 57 * length rows) 57 bs ∙ (λ z. b.lines z ++ shown.1 z) ∙ flat_map_more row_line (heading h k) rows r;
      }

  pub line_at : (rows : List Row) → Begins bs h k rows → (i : ℕ) → i < length rows → line i bs ≡ row_line (get_or rows i zero_row)
  line_at rows b i lt =
      let size = b.headed.0 in
      let n : ℕ = 12 + 57 * length rows in
      let long = length-heading h k (omega (arith, size.1)) (omega (arith, size.3)) in
      sym (part_of_take (12 + 57 * i) 57 n bs (omega arith))
      ∙ ap (λ (t : List ℕ). take 57 (drop (12 + 57 * i) t)) b.lines
      ∙ ap (λ (t : List ℕ). take 57 t) (sym (drop-drop (57 * i) 12 (heading h k ++ flat_map row_line rows)) ∙ ap (drop (57 * i)) (drop_at (heading h k) (flat_map row_line rows) 12 long))
      ∙ joined_line rows b.fit i lt

  pub same_row : (rows : List Row) (r : Row) → Begins bs h k rows → (i : ℕ) → i < length rows → Shows bs i r → r ≡ get_or rows i zero_row
  same_row rows r b i lt shown =
      row_same (line i bs) r (get_or rows i zero_row) shown.0 (b.fit i lt) shown.1 (line_at rows b i lt)

  -- the shorter of two beginnings is the front of the longer
  pub same-front : (rows others : List Row) → Begins bs h k rows → Begins bs h k others → length rows ≤ length others → rows ≡ take (length rows) others
  same-front rows others a b le =
      ext_get_or zero_row rows (take (length rows) others) (sym (length-take-le (length rows) others le))
      (λ i lt.
      same_row others (get_or rows i zero_row) b i (omega arith) (a.fit i lt, line_at rows a i lt)
      ∙ sym (get_or-take (length rows) others i zero_row lt))
