-- What the limits of a year say of the figures that a method or a page takes out of it. Assumes nothing.
use Rattle.std.proofs.Common.{ℕ, ◌<◌, ◌≤◌, length, get_or, arith}
use Rattle.std.proofs.lemmas.List.Sums.{get_or-le-sum_by}
use Rattle.std.proofs.lemmas.Bool.Decides.{nat_tests}
use Rattle.agreement.specs.Together.{no_point, no_use}
use Rattle.agreement.specs.Totals.{entry_cost_of, exit_cost_of, network_cost, drawn}
use Rattle.records.specs.declared.point.Point.{Point}
use Rattle.year.specs.Holds.{contents}
use Rattle.year.specs.declared.year.Year.{Year}

module _ (y : Year) where
  pub entry_within : entry_cost_of (contents y).points ≤ 10000000
  entry_within = omega (arith, y.within.0)

  pub exit_within : exit_cost_of (contents y).points ≤ 10000000
  exit_within = omega (arith, y.within.0)

  pub network_within : network_cost (contents y).elements ≤ 10000000
  network_within = omega (arith, y.within.0)

  pub common_within : (contents y).header.common_cost ≤ 10000000
  common_within = omega (arith, y.within.0)

  pub demand-within : (k : ℕ) → k < length (contents y).points → (get_or (contents y).points k no_point).contract_demand ≤ 10000000
  demand-within k h = omega (arith, y.within.1, get_or-le-sum_by (λ (p : Point). p.contract_demand) (contents y).points k no_point h)

  pub energy-within : (k : ℕ) → k < length (contents y).points → (get_or (contents y).points k no_point).energy ≤ 50000000
  energy-within k h = omega (arith, y.within.2, get_or-le-sum_by (λ (p : Point). p.energy) (contents y).points k no_point h)

  -- a use is one of those of its element
  pub use_within : (k : ℕ) → k < length (contents y).uses → (get_or (contents y).uses k no_use).demand ≤ 10000000
  use_within k h =
      let u = get_or (contents y).uses k no_use in
      let own = y.used u.element (y.named k h).0 in
      let among = get_or-le-sum_by (drawn u.element) (contents y).uses k no_use h in
      grind (arith, nat_tests)
