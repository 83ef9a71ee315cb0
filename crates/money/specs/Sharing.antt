-- An amount shared over weights, in order, by running totals.
use Rattle.std.specs.Prelude.{◌≡◌, ℕ, ◌+◌, ◌-◌, ◌*◌, ◌/◌, ◌<◌, ◌≤◌, List, [], ◌∷◌, length, take, sum, slice_index}

-- what can be shared: at most 100,000,000,000 cents, over weights of at most 10,000,000 in all
abbrev pub Sharable : ℕ → ℕ → Type 0
Sharable amount total = (amount ≤ 100000000000) × (total ≤ 10000000)

-- the share of an item: of what goes to it and the items before it, what does not go to those before it.
-- A quotient by zero is zero, so where all weights are zero each share is zero.
abbrev pub share_of : ℕ → ℕ → ℕ → ℕ → ℕ
share_of amount before weight total = amount * (before + weight) / total - amount * before / total

-- the shares of items of these weights that come after items that weigh `before`
abbrev pub shares_after : ℕ → ℕ → ℕ → List ℕ → List ℕ
shares_after amount total before [] = []
shares_after amount total before (w ∷ ws) = share_of amount before w total ∷ shares_after amount total (before + w) ws

-- the shares of all items
unfoldable pub shares_of : ℕ → List ℕ → List ℕ
shares_of amount weights = shares_after amount (sum weights) 0 weights

-- the laws of sharing
pub record Shared (amount : ℕ) (weights shares : List ℕ) : Type 0 where
  -- as many shares as weights
  pub as_many : length shares ≡ length weights
  -- where anything weighs, the shares add up to the amount
  pub whole : 0 < sum weights → sum shares ≡ amount
  -- they never add up to more
  pub at_most : sum shares ≤ amount
  -- each is the share of its weight after the running total of the weights before it
  pub each : (j : ℕ) → slice_index shares j ≡ share_of amount (sum (take j weights)) (slice_index weights j) (sum weights)
  -- where nothing weighs, each share is zero
  pub none : sum weights ≡ 0 → (j : ℕ) → slice_index shares j ≡ 0
