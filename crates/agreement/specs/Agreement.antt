-- The first thing that is wrong with the records of a year together.
use Rattle.std.specs.Prelude.{ℕ, length, Option}
use Rattle.bits.specs.Laid.{◌or_else◌}
use Rattle.bits.specs.declared.fault.Fault.{Fault}
use Rattle.agreement.specs.Data.{YearData}
use Rattle.agreement.specs.Together.{repeated_fault, misplaced_fault, over_fault, overused_fault, zero_fault}
use Rattle.agreement.specs.Totals.{total_cost, total_demand, total_energy}

abbrev pub cost_of : YearData → ℕ
cost_of d = total_cost d.points d.elements d.header.common_cost

-- 4, then 5, then 6, then 7
abbrev pub together_fault : YearData → Option Fault
together_fault d =
    repeated_fault d.points
    or_else misplaced_fault (length d.points) (length d.elements) d.uses
    or_else over_fault (cost_of d) 10000000
    or_else over_fault (total_demand d.points) 10000000
    or_else over_fault (total_energy d.points) 50000000
    or_else overused_fault (length d.elements) d.uses
    or_else zero_fault (cost_of d)
    or_else zero_fault (total_energy d.points)
