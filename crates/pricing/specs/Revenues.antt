-- The revenue of a year, by what it is charged for: steps 1, 3, 4 and 9 of the year's money, and what the
-- year has in step 7.
use Rattle.std.specs.Prelude.{ℕ, ◌+◌, ◌-◌, ◌/◌, List, [], ◌∷◌, ℤ, pos, ◌+ℤ◌, ◌-ℤ◌, slice_index}
use Rattle.agreement.specs.Data.{YearData}
use Rattle.agreement.specs.Totals.{entry_cost_of, exit_cost_of, network_cost}
use Rattle.money.specs.Sharing.{shares_of}
use Rattle.pricing.specs.Signs.{not_below_zero, below_zero}

-- the year's allowed revenue: M − RL − RN
abbrev pub allowed : YearData → ℤ
allowed d = (pos d.header.allowed_revenue -ℤ d.header.locational_residue) -ℤ d.header.other_residue

-- 1: M − C, shared over the costs of entry, exit, the shared network and common services
unfoldable pub results : YearData → List ℕ
results d =
    shares_of (d.header.allowed_revenue - d.header.common_operating_cost)
    (entry_cost_of d.points ∷ exit_cost_of d.points ∷ network_cost d.elements ∷ d.header.common_cost ∷ [])

abbrev pub entry_result : YearData → ℕ
entry_result d = slice_index (results d) 0

abbrev pub exit_result : YearData → ℕ
exit_result d = slice_index (results d) 1

abbrev pub network_result : YearData → ℕ
network_result d = slice_index (results d) 2

abbrev pub common_result : YearData → ℕ
common_result d = slice_index (results d) 3

-- 3: L0 is half of the shared network's result, and N0 the rest of it
abbrev pub l0 : YearData → ℕ
l0 d = network_result d / 2

abbrev pub n0 : YearData → ℕ
n0 d = network_result d - l0 d

-- 4: L1 is L0 less the locational residue; the locational revenue L is L1, or zero where that is below zero
abbrev pub l1_of : ℕ → ℤ → ℤ
l1_of half residue = pos half -ℤ residue

unfoldable pub l1 : YearData → ℤ
l1 d = l1_of (l0 d) d.header.locational_residue

abbrev pub locational_revenue : YearData → ℕ
locational_revenue d = not_below_zero (l1 d)

-- the year's part of step 7: N0, plus L1 where that is below zero, minus the other residue
abbrev pub rest_of : ℕ → ℤ → ℤ → ℤ
rest_of other_half net residue = (pos other_half +ℤ below_zero net) -ℤ residue

unfoldable pub rest : YearData → ℤ
rest d = rest_of (n0 d) (l1 d) d.header.other_residue

-- 9: the common result and the common operating cost
unfoldable pub common_revenue : YearData → ℕ
common_revenue d = common_result d + d.header.common_operating_cost
