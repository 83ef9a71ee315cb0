-- Locational prices, in thousandths of a cent per kW, and the side constraint on them. The sign / rounds down, and a
-- quotient by zero is zero.
use Rattle.std.specs.Prelude.{◌≡◌, ℕ, ◌+◌, ◌-◌, ◌*◌, ◌/◌, ◌<◌, ◌≤◌, min, Bool, true, false, cond, ◌&&◌, Some, None, Option, ◌==◌, nat_lt}
use Rattle.bits.specs.declared.refusal.Refusal.{Refusal}
use Rattle.bits.specs.declared.refusal.Refusal.TheVariants.{PriceOverLimit}

-- the average of a year: all amounts over all demands, or zero without demand
abbrev pub average_of : ℕ → ℕ → ℕ
average_of amounts demands = 1000 * amounts / demands

-- a year's average to the last opened year's, in ten-thousandths, and at most 100,000
abbrev pub ratio_of : ℕ → ℕ → ℕ
ratio_of average last = min 100000 (10000 * average / last)

-- the bounds of a price: the prior price moved by the ratio, less two percentage points and plus two
abbrev pub lower_bound : ℕ → ℕ → ℕ
lower_bound prior ratio = prior * (ratio - 200) / 10000

abbrev pub upper_bound : ℕ → ℕ → ℕ
upper_bound prior ratio = prior * (ratio + 200) / 10000

-- the side constraint needs a prior price and a last average
abbrev pub constrained : ℕ → ℕ → Bool
constrained prior last = nat_lt 0 prior && nat_lt 0 last

-- the price that an amount comes to
abbrev pub amount_price : ℕ → ℕ → ℕ
amount_price amount demand = 1000 * amount / demand

-- a price, or the bound nearest to it where it lies outside
abbrev pub within_bounds : ℕ → ℕ → ℕ → ℕ
within_bounds lower upper price = cond (nat_lt price lower) lower (cond (nat_lt upper price) upper price)

-- the price of a point: zero without demand, and otherwise that of its amount, within the bounds where these apply
abbrev pub point_price : ℕ → ℕ → ℕ → ℕ → ℕ → ℕ
point_price amount demand prior last ratio =
    cond (demand == 0) 0
    (cond (constrained prior last)
    (within_bounds (lower_bound prior ratio) (upper_bound prior ratio) (amount_price amount demand))
    (amount_price amount demand))

-- 31: a price above 100,000,000
abbrev pub price_refusal : ℕ → Option Refusal
price_refusal price = cond (nat_lt 100000000 price) (Some PriceOverLimit) None

-- what a price is, case by case
pub record Moved (amount demand prior last ratio price : ℕ) : Type 0 where
  pub no_demand : demand ≡ 0 → price ≡ 0
  pub unconstrained : 0 < demand → constrained prior last ≡ false → price ≡ amount_price amount demand
  pub inside :
      0 < demand → constrained prior last ≡ true
      → lower_bound prior ratio ≤ amount_price amount demand → amount_price amount demand ≤ upper_bound prior ratio
      → price ≡ amount_price amount demand
  pub to_lower : 0 < demand → constrained prior last ≡ true → amount_price amount demand < lower_bound prior ratio → price ≡ lower_bound prior ratio
  pub to_upper : 0 < demand → constrained prior last ≡ true → upper_bound prior ratio < amount_price amount demand → price ≡ upper_bound prior ratio
