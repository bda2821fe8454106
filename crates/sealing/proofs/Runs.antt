-- Every run of appends and opens is faithful. Assumes nothing.
use Rattle.std.proofs.Common.{◌≡◌, ℕ, ◌+◌, ◌-◌, ◌<◌, ◌≤◌, true, List, [], ◌∷◌, ◌++◌, length, is_some, Some, None, Ok, Err, Option, Result, sym, refl, ap, ◌∙◌, subst, inl, inr, zero-add, arith}
use borrow.Author.Count.{below_more}
use Rattle.std.proofs.lemmas.Bool.{false≢true, not-false, not_from_true, leb-false, lt-leb, ltb-false, le-ltb, cases_lt}
use Rattle.std.proofs.lemmas.List.{length_push}
use Rattle.refusal.specs.Judged.{judged, first, refusal}
use Rattle.refusal.specs.declared.Refusal.{Refusal}
use Rattle.group.specs.Kind.{Kind, sum}
use Rattle.group.proofs.Algebra.{swap, add-remove, remove-add}
use Rattle.store.specs.Contents.{Contents, between}
use Rattle.source.specs.Sources.{Keys, Has, Agree, or_zero, key}
use Rattle.sealing.specs.Calls.{seal, Appends, Opens, opening, append_rules, open_rules}
use Rattle.sealing.specs.History.{Call, appended, opened, Reached, start, append, look, Ran, accepted, AppendLaw, OpenLaw, Faithful, Continues}
use Rattle.refusal.proofs.Judging.{answered, refusal-judged, judged-passed, clear, unrefused}
use Rattle.sealing.proofs.Drift.{sum-none}
use Rattle.sealing.proofs.Telescope.{seals, telescoped, length-seals, seals-push}

-- No rule of append applies exactly when there is a place and a key on both sides.
module _ {G : Type 0} (owner : Keys G) (capacity n : ℕ) where
  pub append-free : first (append_rules owner capacity n) ≡ None → (n < capacity) × Has owner n × Has owner (n + 1)
  append-free p = let q = clear (append_rules owner capacity n) p in (leb-false capacity n q.0, not-false _ q.1.0, not-false _ q.1.1.0)

  pub free-append : (n < capacity) × Has owner n × Has owner (n + 1) → first (append_rules owner capacity n) ≡ None
  free-append h = unrefused (append_rules owner capacity n) (lt-leb capacity n h.0, (not_from_true _ h.1, (not_from_true _ h.2, tt)))

module _ {G : Type 0} (reader : Keys G) (n a b : ℕ) where
  open_free : first (open_rules reader n a b) ≡ None → (a ≤ b) × (b ≤ n) × Has reader a × Has reader b
  open_free p =
      let q = clear (open_rules reader n a b) p in
      (ltb-false b a q.0, ltb-false n b q.1.0, not-false _ q.1.1.0, not-false _ q.1.1.1.0)

  free_open : (a ≤ b) × (b ≤ n) × Has reader a × Has reader b → first (open_rules reader n a b) ≡ None
  free_open h = unrefused (open_rules reader n a b) (le-ltb b a h.0, (le-ltb n b h.1, (not_from_true _ h.2, (not_from_true _ h.3, tt))))

-- Where both have key i, it counts alike.
module _ {G V : Type 0} (k : Kind G V) where
  pub same_key : (o p : Option G) → ((x y : G) → o ≡ Some x → p ≡ Some y → k.value x ≡ k.value y) → is_some o ≡ true → is_some p ≡ true → k.value (or_zero k o) ≡ k.value (or_zero k p)
  same_key (Some x) (Some y) agree h j = agree x y refl refl
  same_key (Some x) None agree h j = absurd (false≢true j)
  same_key None p agree h j = absurd (false≢true h)

  key-alike : (one other : Keys G) (i : ℕ) → Agree k one other → Has one i → Has other i → k.value (key k one i) ≡ k.value (key k other i)
  key-alike one other i agree h j = same_key (one i) (other i) (agree i) h j

-- The store holds the seals of the lines, and the owner has the keys on both sides of each.
pub record Held {G V : Type 0} (k : Kind G V) (owner : Keys G) (lines entries : List G) : Type 0 where
  pub row : entries ≡ seals k owner 0 lines
  pub sides : (i : ℕ) → i < length lines → Has owner i × Has owner (i + 1)

module _ {G V : Type 0} (k : Kind G V) (owner : Keys G) where
  count : {lines entries : List G} → Held k owner lines entries → length entries ≡ length lines
  count {lines} {entries} h = ap length h.row ∙ length-seals k owner 0 lines

  -- What an answered append found.
  append_found : {before after : Contents G} {line : G} (n : ℕ) → Appends k owner before line (Ok n) after → first (append_rules owner before.capacity (length before.entries)) ≡ None
  append_found {before} n a =
      let m = length before.entries in
      sym (refusal-judged (append_rules owner before.capacity m) m) ∙ sym (ap refusal a.answers)

  hold_more : {lines before after : List G} (line : G) → Held k owner lines before → Has owner (length before) → Has owner (length before + 1) → after ≡ before ++ (seal k owner (length before) line ∷ []) → Held k owner (lines ++ (line ∷ [])) after
  hold_more {lines} {before} {after} line h p q e =
      record {
        row =
            e ∙ ap (λ xs. xs ++ (seal k owner (length before) line ∷ [])) h.row
            ∙ ap (λ i. seals k owner 0 lines ++ (seal k owner i line ∷ [])) (count h ∙ sym (zero-add (length lines)))
            ∙ sym (seals-push k owner 0 lines line);
        sides = λ i l. below_more (λ i. Has owner i × Has owner (i + 1)) (length lines) h.sides (subst (λ n. Has owner n × Has owner (n + 1)) (count h) (p, q)) i (subst (λ m. i < m) (length_push lines line) l);
      }

  held_append : (calls : List (Call G)) {before after : Contents G} (line : G) (answer : Result ℕ Refusal) → Held k owner (accepted calls) before.entries → Appends k owner before line answer after → Held k owner (accepted (appended line answer ∷ calls)) after.entries
  held_append calls {before = before} line (Ok n) h a =
      let free = append-free owner before.capacity (length before.entries) (append_found n a) in
      hold_more line h free.1 free.2 (ap (λ c. c.entries) a.leaves)
  held_append calls line (Err e) h a = record { row = ap (λ c. c.entries) a.leaves ∙ h.row; sides = h.sides }

  append_law : {before after : Contents G} {line : G} (answer : Result ℕ Refusal) (n : ℕ) → length before.entries ≡ n → Appends k owner before line answer after → AppendLaw owner before.capacity n answer
  append_law {before} answer n e a =
      let capacity = before.capacity in
      let rules = append_rules owner capacity n in
      let judge : answer ≡ judged rules n = a.answers ∙ ap (λ m. judged (append_rules owner capacity m) m) e in
      let why : refusal answer ≡ first rules = ap refusal judge ∙ refusal-judged rules n in
      record {
        accepts = (λ ok. append-free owner capacity n (sym why ∙ (answered answer).0 ok), λ free. (answered answer).1 (why ∙ free-append owner capacity n free));
        number = λ m is. let passed = judged-passed rules n (sym why ∙ ap refusal is) in let same : Ok m ≡ Ok n = sym is ∙ judge ∙ passed in cc;
        refuses = why;
      }

  -- The keys of a reader who agrees with the owner open the plain sum.
  opened_sum : {lines entries : List G} (reader : Keys G) (a b : ℕ) → Held k owner lines entries → Agree k owner reader → (a ≤ b) × (b ≤ length lines) × Has reader a × Has reader b → opening k reader entries a b ≡ sum k (between a b lines)
  opened_sum {lines} {entries} reader a b h agree free =
      let p = k.sums.plus in
      let c = sum k (between a b entries) in
      let ra = k.value (key k reader a) in
      let rb = k.value (key k reader b) in
      elim (cases_lt a b) [
        | inl some ↦
            let last : b - 1 + 1 ≡ b = omega arith in
            let ka = key-alike k owner reader a agree (h.sides a (omega arith)).0 free.2 in
            let kb = key-alike k owner reader b agree (subst (Has owner) last (h.sides (b - 1) (omega arith)).1) free.3 in
            let row : p c rb ≡ p (sum k (between a b lines)) ra =
            ap (p c) (sym kb) ∙ ap (λ xs. p (sum k (between a b xs)) (k.value (key k owner b))) h.row
            ∙ telescoped k owner a b lines free.0 free.1 ∙ ap (p (sum k (between a b lines))) ka in
            swap k.sums c (k.sums.minus ra) rb ∙ ap (λ v. p v (k.sums.minus ra)) row ∙ add-remove k.sums (sum k (between a b lines)) ra
        | inr none ↦
            let same : a ≡ b = omega arith in
            ap (λ v. p (p v (k.sums.minus ra)) rb) (sum-none k a b entries none)
            ∙ ap (λ i. p (p k.sums.zero (k.sums.minus ra)) (k.value (key k reader i))) (sym same)
            ∙ remove-add k.sums k.sums.zero ra
            ∙ sym (sum-none k a b lines none)
      ]

  open_law : {lines : List G} (store : Contents G) {sound : Type 0} (reader : Keys G) (a b : ℕ) (answer : Result G Refusal) → Held k owner lines store.entries → sound → Opens k reader store sound a b answer → OpenLaw k owner reader lines a b answer
  open_law {lines} store reader a b answer h s o =
      let rules = open_rules reader (length lines) a b in
      let why : refusal answer ≡ first rules = o.refuses ∙ ap (λ n. first (open_rules reader n a b)) (count h) in
      record {
        answers = (λ ok. open_free reader (length lines) a b (sym why ∙ (answered answer).0 ok), λ free. (answered answer).1 (why ∙ free_open reader (length lines) a b free));
        figure = λ agree x is. o.figure s x is ∙ opened_sum reader a b h agree (open_free reader (length lines) a b (sym why ∙ ap refusal is));
        refuses = why;
      }

  same_capacity : {before after : Contents G} {line : G} (answer : Result ℕ Refusal) → Appends k owner before line answer after → before.capacity ≡ after.capacity
  same_capacity (Ok n) a = sym (ap (λ c. c.capacity) a.leaves)
  same_capacity (Err e) a = sym (ap (λ c. c.capacity) a.leaves)

  module _ {S : Type 0} (contents : S → Contents G) (sound : S → Type 0) where
    pub held : {calls : List (Call G)} {store : S} → Reached k contents sound owner calls store → Held k owner (accepted calls) (contents store).entries
    held (start store s e) = record { row = e; sides = λ i l. absurd (omega arith) }
    held (append {calls = calls} {line = line} {answer = answer} r a keeps) = held_append calls line answer (held r) a
    held (look r o) = held r

    -- Every store of a run is sound.
    still_sound : {calls : List (Call G)} {store : S} → Reached k contents sound owner calls store → sound store
    still_sound (start store s e) = s
    still_sound (append r a keeps) = keeps (still_sound r)
    still_sound (look r o) = still_sound r

    pub ran : {calls : List (Call G)} {store : S} → Reached k contents sound owner calls store → Ran k owner calls (contents store)
    ran (start store s e) = start (contents store) tt e
    ran (append r a keeps) = append (ran r) a (λ s. s)
    ran (look r o) = look (ran r) (record { refuses = o.refuses; figure = λ s. o.figure (still_sound r) })

    pub faithful : {calls : List (Call G)} {store : S} → Reached k contents sound owner calls store → Faithful k owner (contents store).capacity calls
    faithful (start store s e) = tt
    faithful (append {calls = calls} {line = line} {answer = answer} r a keeps) =
        subst (λ n. Faithful k owner n (appended line answer ∷ calls)) (same_capacity answer a) (append_law answer _ (count (held r)) a, faithful r)
    faithful (look {store = store} {reader = reader} {a = a} {b = b} {answer = answer} r o) = (open_law (contents store) reader a b answer (held r) (still_sound r) o, faithful r)

    pub append_continues : (before after : S) {line : G} {answer : Result ℕ Refusal} → Appends k owner (contents before) line answer (contents after) → (sound before → sound after) → Continues k contents sound owner before (appended line answer) after
    append_continues before after {line} {answer} a keeps calls r =
        let more = append r a keeps in
        (more, ran more, subst (λ n. Faithful k owner n (appended line answer ∷ calls)) (sym (same_capacity answer a)) (faithful more))

    pub open_continues : (store : S) {reader : Keys G} {a b : ℕ} {answer : Result G Refusal} → Opens k reader (contents store) (sound store) a b answer → Continues k contents sound owner store (opened reader a b answer) store
    open_continues store o calls r = let more = look r o in (more, ran more, faithful more)
