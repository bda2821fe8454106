use Rattle.std.proofs.Common.{◌≡◌, ℕ, suc, ◌+◌, ◌<◌, List, [], ◌∷◌, length, get_or, fold, unwrap_or, sym, ap, ◌∙◌, arith, rules}
use Rattle.std.proofs.iter.runs.Sources.{range_runs}
use Rattle.cipher.specs.Speck.{keys, progress, stepped, text}
use Rattle.cipher.specs.declared.Block.{Block}
use Rattle.cipher.proofs.speck.rounds.Goals as goal

-- the rounds from round i on, up to round n
folded : (key block : Block) (i n : ℕ) (xs : List ℕ) → i + length xs ≡ n → ((k : ℕ) → k < length xs → get_or xs k 0 ≡ i + k)
    → fold stepped (progress key block i) xs ≡ progress key block n
unfolding keys text
folded key block i n [] e h = let all : i ≡ n = omega (arith, e) in ap (progress key block) all
folded key block i n (x ∷ xs) e h =
    let first : x ≡ i = omega (arith, h 0 (omega arith)) in
    let left : suc i + length xs ≡ n = omega (arith, e) in
    let rest : (k : ℕ) → k < length xs → get_or xs k 0 ≡ suc i + k = λ k l. omega (arith, h (suc k) (omega arith)) in
    ap (λ j. fold stepped (stepped (progress key block i) j) xs) first ∙ folded key block (suc i) n xs left rest

pub returns : goal.returns
unfolding keys text
returns c =
    let run = c.fold.ensures.runs in
    let p = run.0 in
    let counts = range_runs p p.seen in
    let start = ap (λ r. r.start) run.1 in
    let end = ap (λ r. r.end) run.1 in
    run.3 stepped (λ x y r f k. search rules)
    ∙ folded c.args.key c.args.block 0 c.args.count p.items (omega (arith, p.long, counts.1 run.2, start, end))
    (λ k l. let m : k < p.len = omega (arith, p.long) in omega (arith, start, ap (λ o. unwrap_or o 0) (sym (p.reads k 0 m) ∙ counts.3 k m)))
