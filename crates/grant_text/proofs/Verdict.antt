-- A text has one right answer. Assumes nothing.
use Rattle.std.proofs.Common.{◌≡◌, ℕ, ◌+◌, ◌*◌, ◌<◌, ◌≤◌, List, ◌++◌, map, length, get_or, take, drop, Some, None, Ok, Err, sym, ap, ◌∙◌, subst, ⊎_elim, arith}
use Rattle.std.proofs.lemmas.List.{take_all, take-append-drop, map-append}
use Rattle.std.proofs.lemmas.Bool.{cases_lt}
use Rattle.refusal.specs.declared.Refusal.{Refusal}
use Rattle.refusal.specs.Judged.{first}
use Rattle.refusal.proofs.Judging.{some-none, first_stays}
use Rattle.cover.specs.Next.{list_rules, last_of}
use Rattle.cover.proofs.Passing.{list_rules-append}
use Rattle.grant.specs.declared.grant.row.Row.{Row}
use Rattle.grant.specs.Rows.{node_of, zero_row}
use Rattle.grant_text.specs.Readings.{Answer, Headed, Shows, Begins, fault, Ends, no_row, faulty, whole, Right, no_heading, other_length, by_rows, Answered}
use Rattle.grant_text.proofs.Beginnings.{same-heading, line_at, same-front}

-- a fault among the first rows is the fault of all
fault_stays : (h : ℕ) (rows more : List Row) (why : Refusal) → fault h rows ≡ Some why → fault h (rows ++ more) ≡ Some why
fault_stays h rows more why e =
    ap (λ ns. first (list_rules h None ns)) (map-append node_of rows more)
    ∙ ap first (list_rules-append h None (map node_of rows) (map node_of more))
    ∙ first_stays (list_rules h None (map node_of rows)) (list_rules h (last_of None (map node_of rows)) (map node_of more)) e

module _ (bs : List ℕ) (h k : ℕ) (rows others : List Row) (x y : Answer) (a : Begins bs h k rows) (b : Begins bs h k others) (le : length rows ≤ length others) where
  later : (why : Refusal) → fault h rows ≡ Some why → fault h others ≡ Some why
  later why e =
      let front = same-front bs h k rows others a b le in
      ap (fault h) (sym (take-append-drop (length rows) others)) ∙ fault_stays h (take (length rows) others) (drop (length rows) others) why (ap (fault h) (sym front) ∙ e)

  same : length others ≤ length rows → rows ≡ others
  same ge = same-front bs h k rows others a b le ∙ take_all (length rows) others ge

  not-both : length others ≤ length rows → (why : Refusal) → fault h rows ≡ None → fault h others ≡ Some why → ⊥
  not-both ge why none some = some-none (sym some ∙ ap (fault h) (sym (same ge)) ∙ none)

  -- the shorter beginning stops only where the longer does
  stopped : length rows < k → ((r : Row) → Shows bs (length rows) r → ⊥) → length others ≤ length rows
  stopped few none =
      ⊎_elim
      (λ (lt : length rows < length others). absurd (none (get_or others (length rows) zero_row) (b.fit (length rows) lt, line_at bs h k others b (length rows) lt)))
      (λ ge. ge)
      (cases_lt (length rows) (length others))

  agree : Ends bs h k rows x → Ends bs h k others y → x ≡ y
  agree (no_row g few none e) (no_row g' few' none' e') = e ∙ sym e'
  agree (no_row g few none e) (faulty why f e') = absurd (not-both (stopped few none) why g f)
  agree (no_row g few none e) (whole g' all e') = absurd (omega (arith, stopped few none))
  agree (faulty why f e) (no_row g few none e') = absurd (some-none (sym (later why f) ∙ g))
  agree (faulty why f e) (faulty why' f' e') = let s : Some why ≡ Some why' = sym (later why f) ∙ f' in let t : why ≡ why' = cc in e ∙ ap Err t ∙ sym e'
  agree (faulty why f e) (whole g all e') = absurd (some-none (sym (later why f) ∙ g))
  agree (whole g all e) (no_row g' few none e') = absurd (omega arith)
  agree (whole g all e) (faulty why f e') = absurd (not-both (omega (arith, b.few)) why g f)
  agree (whole g all e) (whole g' all' e') = e ∙ ap (λ (rs : List Row). Ok (h, rs)) (same (omega arith)) ∙ sym e'

module _ (bs : List ℕ) (x y : Answer) where
  by_length : (h k : ℕ) (rows others : List Row) → Begins bs h k rows → Begins bs h k others → Ends bs h k rows x → Ends bs h k others y → x ≡ y
  by_length h k rows others a b e f =
      ⊎_elim
      (λ (lt : length rows < length others). agree bs h k rows others x y a b (omega arith) e f)
      (λ (ge : length others ≤ length rows). sym (agree bs h k others rows y x b a ge f e))
      (cases_lt (length rows) (length others))

  -- a heading of two numbers is one
  moved : (h k p q : ℕ) (rows : List Row) → Headed bs h k → Begins bs p q rows → Ends bs p q rows y → Begins bs h k rows × Ends bs h k rows y
  moved h k p q rows a b e =
      let s = same-heading bs p q h k b.headed a in
      (subst (λ (n : ℕ). Begins bs h n rows) s.1 (subst (λ (n : ℕ). Begins bs n q rows) s.0 b), subst (λ (n : ℕ). Ends bs h n rows y) s.1 (subst (λ (n : ℕ). Ends bs n q rows y) s.0 e))

  pub one_answer : Right bs x → Right bs y → x ≡ y
  one_answer (no_heading none e) (no_heading none' e') = e ∙ sym e'
  one_answer (no_heading none e) (other_length h k a ne e') = absurd (none h k a)
  one_answer (no_heading none e) (by_rows h k rows b f) = absurd (none h k b.headed)
  one_answer (other_length h k a ne e) (no_heading none e') = absurd (none h k a)
  one_answer (other_length h k a ne e) (other_length h' k' a' ne' e') = e ∙ sym e'
  one_answer (other_length h k a ne e) (by_rows p q rows b f) = absurd (ne (b.long ∙ ap (λ (n : ℕ). 12 + 57 * n) (same-heading bs p q h k b.headed a).1))
  one_answer (by_rows h k rows b f) (no_heading none e) = absurd (none h k b.headed)
  one_answer (by_rows p q rows b f) (other_length h k a ne e) = absurd (ne (b.long ∙ ap (λ (n : ℕ). 12 + 57 * n) (same-heading bs p q h k b.headed a).1))
  one_answer (by_rows h k rows b f) (by_rows p q others b' f') =
      let m = moved h k p q others b.headed b' f' in by_length h k rows others b m.0 f m.1

pub answered : (bs : List ℕ) (x : Answer) → Right bs x → Answered bs x
answered bs x r = record { right = r; only = λ other s. one_answer bs other x s r }
