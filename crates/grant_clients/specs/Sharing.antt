-- What a grant opens of lines that were sealed with the tree it comes from. Assumes nothing.
use Rattle.std.specs.Prelude.{◌≡◌, ℕ, ◌^◌, ◌≤◌, Bool, true, not, ◌&&◌, ◌↔◌, List, [], ◌∷◌, length, is_ok, Some, Ok, Result, nat_lt}
use Rattle.refusal.specs.Judged.{Rules, first, refusal}
use Rattle.refusal.specs.declared.Refusal.{Refusal}
use Rattle.refusal.specs.declared.Refusal.TheVariants.{Reversed, Beyond, NoKeyBefore, NoKeyAfter}
use Rattle.group.specs.Kind.{Kind, sum}
use Rattle.store.specs.Contents.{Contents, between}
use Rattle.sealing.specs.History.{Call, Reached, accepted}
use Rattle.grant.specs.declared.grant.Grant.{Grant}
use Rattle.grant.specs.Seeds.{Encrypted, tree_keys}
use Rattle.grant.specs.Grants.{Granted}
use Rattle.grant.specs.Histories.{Call as GrantCall, Led, granted}

-- Whether key i was granted and is in the tree.
abbrev pub has : Granted → ℕ → Bool
has a i = a.numbers i && nat_lt i (2 ^ a.height)

-- When an open is refused with n lines accepted: by 1 when it runs backward, by 32 beyond the lines, by 33 and 34 where an end was not granted.
abbrev pub share_rules : Granted → ℕ → ℕ → ℕ → Rules
share_rules a n from to = (nat_lt to from, Reversed) ∷ (nat_lt n to, Beyond) ∷ (not (has a from), NoKeyBefore) ∷ (not (has a to), NoKeyAfter) ∷ []

-- The open is answered exactly when the span lies in the lines and both its ends were granted, with a figure that counts as the plain sum.
pub record Shares {G V : Type 0} (k : Kind G V) (a : Granted) (lines : List G) (from to : ℕ) (answer : Result G Refusal) : Type 0 where
  pub answers : (is_ok answer ≡ true) ↔ ((from ≤ to) × (to ≤ length lines) × (has a from ≡ true) × (has a to ≡ true))
  pub figure : (x : G) → answer ≡ Ok x → k.value x ≡ sum k (between from to lines)
  pub refuses : refusal answer ≡ first (share_rules a (length lines) from to)

-- Whatever issues and narrows led to the grant, and whatever run, sealed with the keys of the tree that its seeds come from, led to the store.
abbrev pub Shared : {C G V S : Type 0} → Encrypted → Kind G V → ℕ → (List ℕ → G) → (S → Contents G) → (S → Type 0) → S → Grant C → ℕ → ℕ → Result G Refusal → Type 0
Shared {G = G} e k width made contents sound store grant from to answer =
    (history : List GrantCall) → Led e history grant → (a : Granted) → granted history ≡ Some a →
    (calls : List (Call G)) → Reached k contents sound (tree_keys e width made a.height a.root) calls store →
    Shares k a (accepted calls) from to answer
