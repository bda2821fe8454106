-- After every run of posts, posting and reading fit. Assumes nothing.
use Rattle.std.proofs.Common.{◌≡◌, ℕ, ◌+◌, ◌*◌, ◌/◌, ◌%◌, ◌<◌, ◌≤◌, ltb, ◌↔◌, List, [], ◌∷◌, ◌++◌, length, is_some, Some, None, Ok, Err, Result, sym, ap, ◌∙◌, subst, mul-div_cancel, arith}
use native.Mathlib.Nat.{mul-mod_left}
use borrow.Author.Count.{below_more}
use Rattle.std.proofs.lemmas.Bool.{not-false, not_from_true, leb-false, lt-leb, ltb-false, le-ltb, or_parts, or_from}
use Rattle.std.proofs.lemmas.List.{length_push}
use Rattle.refusal.specs.Judged.{judged, first, refusal}
use Rattle.refusal.specs.declared.Refusal.{Refusal}
use Rattle.refusal.proofs.Judging.{answered, refusal-judged, judged-passed, clear, unrefused}
use Rattle.group.specs.Kind.{Kind}
use Rattle.group.proofs.Algebra.{add-remove}
use Rattle.store.specs.Contents.{Contents, push, nth}
use Rattle.source.specs.Sources.{Keys, Has, Agree, or_zero, key}
use Rattle.layers.specs.Layers.{coarse}
use Rattle.layers.specs.Posting.{Posts, post_rules, envelope}
use Rattle.layers.specs.Fit.{Extends, Posted, start, next, gain, accepted_posts, PostLaw, Fits, Continues, Grows}
use Rattle.layers.proofs.Reading.{nth-front, nth_last, is_key, coarse-has, coarse-key, coarse-more, divided}

-- No rule of post applies exactly when the step is in range, a place is free and both keys are there.
module _ {G : Type 0} (step : ℕ) (fine other : Keys G) (capacity n : ℕ) where
  abbrev Free : Type 0
  Free = (1 ≤ step) × (step ≤ 65536) × (n < capacity) × Has other n × Has fine (n * step)

  pub post_free : first (post_rules step fine other capacity n) ≡ None → Free
  post_free p =
      let q = clear (post_rules step fine other capacity n) p in
      let range = or_parts (ltb step 1) (ltb 65536 step) q.0 in
      (ltb-false step 1 range.0, ltb-false 65536 step range.1, leb-false capacity n q.1.0, not-false _ q.1.1.0, not-false _ q.1.1.1.0)

  pub free_post : Free → first (post_rules step fine other capacity n) ≡ None
  free_post h =
      unrefused (post_rules step fine other capacity n)
      (or_from (ltb step 1) (ltb 65536 step) (le-ltb step 1 h.0) (le-ltb 65536 step h.1), (lt-leb capacity n h.2, (not_from_true _ h.3, (not_from_true _ h.4, tt))))

-- The store holds n envelopes in order, and both sources have the keys that went into each.
pub record Held {G V : Type 0} (k : Kind G V) (step : ℕ) (fine other : Keys G) (n : ℕ) (entries : List G) : Type 0 where
  pub count : length entries ≡ n
  pub at : (j : ℕ) → j < n → nth entries j ≡ Some (envelope k step fine other j)
  pub posted : (j : ℕ) → j < n → (1 ≤ step) × Has other j × Has fine (j * step)

module _ {G V : Type 0} (k : Kind G V) (step : ℕ) (fine other : Keys G) where
  -- What an accepted post found.
  found : {before after : Contents G} (j : ℕ) → Posts k step fine other before (Ok j) after → first (post_rules step fine other before.capacity (length before.entries)) ≡ None
  found {before} j p =
      let m = length before.entries in
      sym (refusal-judged (post_rules step fine other before.capacity m) m) ∙ sym (ap refusal p.answers)

  hold_more : {n : ℕ} {before after : List G} → Held k step fine other n before → (1 ≤ step) × Has other (length before) × Has fine (length before * step) → after ≡ before ++ (envelope k step fine other (length before) ∷ []) → Held k step fine other (n + 1) after
  hold_more {n} {before} {after} h found e =
      let new = envelope k step fine other (length before) in
      record {
        count = ap length e ∙ length_push before new ∙ ap (λ m. m + 1) h.count;
        at = λ j l.
            let here = subst (λ i. nth (before ++ (new ∷ [])) i ≡ Some (envelope k step fine other i)) h.count (nth_last before new) in
            ap (λ xs. nth xs j) e
            ∙ below_more (λ j. nth (before ++ (new ∷ [])) j ≡ Some (envelope k step fine other j)) n (λ j l. nth-front before new j (omega (arith, h.count)) ∙ h.at j l) here j l;
        posted = below_more (λ i. (1 ≤ step) × Has other i × Has fine (i * step)) n h.posted (subst (λ i. (1 ≤ step) × Has other i × Has fine (i * step)) h.count found);
      }

  held_next : (answers : List (Result ℕ Refusal)) {before after : Contents G} (answer : Result ℕ Refusal) → Held k step fine other (accepted_posts answers) before.entries → Posts k step fine other before answer after → Held k step fine other (accepted_posts (answer ∷ answers)) after.entries
  held_next answers {before = before} (Ok j) h p =
      let free = post_free step fine other before.capacity (length before.entries) (found j p) in
      hold_more h (free.0, free.3, free.4) (ap (λ c. c.entries) p.leaves)
  held_next answers (Err e) h p = let same = ap (λ c. c.entries) (sym p.leaves) in subst (Held k step fine other (accepted_posts answers)) same h

  post_law : {before after : Contents G} (answer : Result ℕ Refusal) (n : ℕ) → length before.entries ≡ n → Posts k step fine other before answer after → PostLaw step fine other before.capacity n answer
  post_law {before} answer n e p =
      let capacity = before.capacity in
      let rules = post_rules step fine other capacity n in
      let judge : answer ≡ judged rules n = p.answers ∙ ap (λ m. judged (post_rules step fine other capacity m) m) e in
      let why : refusal answer ≡ first rules = ap refusal judge ∙ refusal-judged rules n in
      record {
        accepts = (λ ok. post_free step fine other capacity n (sym why ∙ (answered answer).0 ok), λ free. (answered answer).1 (why ∙ free_post step fine other capacity n free));
        number = λ j is. let passed = judged-passed rules n (sym why ∙ ap refusal is) in let same : Ok j ≡ Ok n = sym is ∙ judge ∙ passed in cc;
        refuses = why;
      }

  module _ {n : ℕ} {entries : List G} (h : Held k step fine other n entries) where
    reads : (reader : Keys G) (i : ℕ) → Has (coarse k step entries reader) i ↔ ((i % step ≡ 0) × (i / step < n) × Has reader (i / step))
    reads reader i =
        let all = coarse-has k step entries reader i in (
          λ has. let a = all.0 has in (a.1, subst (λ m. i / step < m) h.count a.2, a.3),
          λ a. all.1 ((h.posted (i / step) a.1).0, a.0, subst (λ m. i / step < m) (sym h.count) a.1, a.2),
        )

    -- An envelope less a key that counts as the one it was made with.
    opens : (i : ℕ) (y : G) → i % step ≡ 0 → k.value (key k other (i / step)) ≡ k.value y → k.value (k.plus (envelope k step fine other (i / step)) (k.minus y)) ≡ k.value (key k fine i)
    opens i y d same =
        let p = k.sums.plus in
        let j = i / step in
        let f = key k fine (j * step) in
        let o = key k other j in
        k.plus_counts (envelope k step fine other j) (k.minus y)
        ∙ ap (λ v. p v (k.value (k.minus y))) (k.plus_counts f o ∙ ap (p (k.value f)) same)
        ∙ ap (p (p (k.value f) (k.value y))) (k.minus_counts y)
        ∙ add-remove k.sums (k.value f) (k.value y)
        ∙ ap (λ m. k.value (key k fine m)) (divided i step d)

    agrees : (reader : Keys G) → Agree k other reader → Agree k fine (coarse k step entries reader)
    agrees reader agree i x y fx cy =
        let has : Has (coarse k step entries reader) i = ap is_some cy in
        let a = (reads reader i).0 has in
        let j = i / step in
        let posted = h.posted j a.1 in
        let r = key k reader j in
        let theirs = is_key k reader j a.2 in
        let ours = is_key k other j posted.1 in
        let is = coarse-key k step entries reader i (envelope k step fine other j) r posted.0 a.0 (h.at j a.1) theirs in
        let same : y ≡ k.plus (envelope k step fine other j) (k.minus r) = let e = sym cy ∙ is in cc in
        let fine-is : key k fine i ≡ x = λ t. key k (λ m. fx t) i in
        sym (ap k.value same ∙ opens i r a.0 (agree j (key k other j) r ours theirs) ∙ ap k.value fine-is)

    itself : Agree k other other
    itself i x y p q = let same : x ≡ y = let e = sym p ∙ q in cc in ap k.value same

    pub fits : Fits k step fine other n entries
    fits = record {
      posted = λ j l.
          let s = h.posted j l in
          let share : j * step / step ≡ j = mul-div_cancel j s.0 in
          (reads other (j * step)).1 (mul-mod_left j step, subst (λ m. m < n) (sym share) l, subst (Has other) (sym share) s.1);
      has = λ i. (λ c. let a = (reads other i).0 c in (a.0, a.1), λ a. (reads other i).1 (a.0, a.1, (h.posted (i / step) a.1).1));
      counts = λ i c.
          let a = (reads other i).0 c in
          let there : Has fine i = subst (Has fine) (divided i step a.0) (h.posted (i / step) a.1).2 in
          (there, sym (agrees other itself i (key k fine i) (key k (coarse k step entries other) i) (is_key k fine i there) (is_key k (coarse k step entries other) i c)));
      reads = reads;
      agrees = agrees;
    }

module _ {G V : Type 0} (k : Kind G V) (step : ℕ) where
  -- A source that gained keys has the old ones.
  still_has : {source more : Keys G} (i : ℕ) → Extends source more → Has source i → Has more i
  still_has {source} {more} i e h = ap is_some (e i (key k source i) (is_key k source i h))

  same_key : {source more : Keys G} (i : ℕ) → Extends source more → Has source i → key k source i ≡ key k more i
  same_key {source} i e h = sym (ap (or_zero k) (e i (key k source i) (is_key k source i h)))

  held_gain : {fine other more-fine more-other : Keys G} {n : ℕ} {entries : List G} → Held k step fine other n entries → Extends fine more-fine → Extends other more-other → Held k step more-fine more-other n entries
  held_gain h ef eo = record {
    count = h.count;
    at = λ j l. let p = h.posted j l in h.at j l ∙ (λ t. Some (k.plus (same_key (j * step) ef p.2 t) (same_key j eo p.1 t)));
    posted = λ j l. let p = h.posted j l in (p.0, still_has j eo p.1, still_has (j * step) ef p.2);
  }

  pub held : {fine other : Keys G} {answers : List (Result ℕ Refusal)} {store : Contents G} → Posted k step fine other answers store → Held k step fine other (accepted_posts answers) store.entries
  held (start store e) = record { count = ap length e; at = λ j l. absurd (omega arith); posted = λ j l. absurd (omega arith) }
  held (next {fine = fine} {other = other} {answers = answers} {answer = answer} r p) = held_next k step fine other answers answer (held r) p
  held (gain r ef eo) = held_gain (held r) ef eo

  pub post_continues : (fine other : Keys G) (before after : Contents G) {answer : Result ℕ Refusal} → Posts k step fine other before answer after → Continues k step fine other before answer after
  post_continues fine other before after {answer} p answers r =
      let more = next r p in
      (more, post_law k step fine other answer (accepted_posts answers) (held r).count p, fits k step fine other (held more))

-- No key is lost where an envelope more is posted.
module _ {G V : Type 0} (k : Kind G V) where
  pub push_grows : (before : Contents G) (e : G) {after : Contents G} → after ≡ push before e → Grows k before after
  push_grows before e is width reader i x has = subst (λ c. coarse k width c.entries reader i ≡ Some x) (sym is) (coarse-more k width before.entries e reader i x has)
