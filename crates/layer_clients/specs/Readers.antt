-- What a reader opens that has every step-th key, and what two posts write. Assumes nothing.
use Rattle.std.specs.Prelude.{◌≡◌, ℕ, ◌/◌, ◌%◌, ◌<◌, ◌≤◌, min, true, ◌↔◌, List, length, is_ok, Ok, Result, slice_set}
use Rattle.refusal.specs.Judged.{judged, left_by}
use Rattle.refusal.specs.declared.Refusal.{Refusal}
use Rattle.group.specs.Kind.{Kind, sum}
use Rattle.store.specs.Contents.{Contents, between}
use Rattle.source.specs.Sources.{Keys, Has, Agree}
use Rattle.sealing.specs.History.{Call, Reached, accepted}
use Rattle.layers.specs.Fit.{Posted, accepted_posts}
use Rattle.layers.specs.Posting.{post_rules, envelope}

-- Key i was posted, with n posts accepted, and the reader has the other key that it is hidden under.
abbrev pub Reads : {G : Type 0} → ℕ → ℕ → Keys G → ℕ → Type 0
Reads step n reader i = (i % step ≡ 0) × (i / step < n) × Has reader (i / step)

-- An open of a up to b with these lines accepted: answered exactly between numbers that the reader reads, and right where its keys count as the poster's.
pub record CoarseLaw {G V : Type 0} (k : Kind G V) (step n : ℕ) (poster reader : Keys G) (lines : List G) (a b : ℕ) (answer : Result G Refusal) : Type 0 where
  pub answers : (is_ok answer ≡ true) ↔ ((a ≤ b) × (b ≤ length lines) × Reads step n reader a × Reads step n reader b)
  pub figure : Agree k poster reader → (x : G) → answer ≡ Ok x → k.value x ≡ sum k (between a b lines)

-- Whatever run of appends led to the store of lines, and whatever run of posts from the same owner's keys led to the envelopes, the open is right.
abbrev pub OpensCoarsely : {G V S : Type 0} → Kind G V → (S → Contents G) → (S → Type 0) → S → ℕ → Contents G → Keys G → ℕ → ℕ → Result G Refusal → Type 0
OpensCoarsely {G} k contents sound store step envelopes reader a b answer =
    (owner poster : Keys G) (calls : List (Call G)) (posts : List (Result ℕ Refusal)) →
    Reached k contents sound owner calls store → Posted k step owner poster posts envelopes →
    CoarseLaw k step (accepted_posts posts) poster reader (accepted calls) a b answer

-- The cells of a flat store after two posts, each of which writes its envelope or is refused.
abbrev pub twice : {G V : Type 0} → Kind G V → ℕ → Keys G → Keys G → List G → List G
twice k step fine other cells =
    let post = λ (j : ℕ). judged {R = ℕ} (post_rules step fine other (min (length cells) 1048576) j) j in
    let one = slice_set cells 0 (envelope k step fine other 0) in
    left_by (post 0) cells (left_by (post 1) one (slice_set one 1 (envelope k step fine other 1)))
