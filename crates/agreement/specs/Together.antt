-- What is wrong with the records of a year taken together: the faults 4 to 7.
use Rattle.std.specs.Prelude.{ℕ, zero, suc, ◌+◌, ◌-◌, ◌*◌, Bool, cond, not, ◌&&◌, ◌||◌, List, length, take, Some, None, Option, ◌==◌, nat_le, nat_lt, slice_index_or}
use Rattle.std.specs.List.{list_all}
use Rattle.bits.specs.Faults.{year_fault}
use Rattle.bits.specs.Laid.{◌or_else◌}
use Rattle.bits.specs.declared.fault.Fault.{Fault}
use Rattle.bits.specs.declared.refusal.Refusal.TheVariants.{IdentifierRepeated, UseMisplaced, TotalOverLimit, TotalZero}
use Rattle.records.specs.declared.element.Element.{Element}
use Rattle.records.specs.declared.network_use.NetworkUse.{NetworkUse}
use Rattle.records.specs.declared.point.Point.{Point}
use Rattle.agreement.specs.Totals.{total_use}

-- what stands past the end of a list
abbrev pub no_point : Point
no_point = record { identifier = 0; entry_cost = 0; exit_cost = 0; contract_demand = 0; energy = 0 }

abbrev pub no_element : Element
no_element = record { cost = 0; rating = 0; peak = 0 }

abbrev pub no_use : NetworkUse
no_use = record { element = 0; point = 0; demand = 0 }

-- a fault where a test fails
abbrev pub unless : Bool → Fault → Option Fault
unless test fault = cond test None (Some fault)

-- the first fault at the n places from i on
unfoldable pub first_fault_among : ℕ → ℕ → (ℕ → Option Fault) → Option Fault
first_fault_among zero i fault_at = None
first_fault_among (suc n) i fault_at = fault_at i or_else first_fault_among n (suc i) fault_at

-- whether no point has this identifier
abbrev pub free : ℕ → List Point → Bool
free x ps = list_all (λ (p : Point). not (p.identifier == x)) ps

-- 4: the point at place i has the identifier of an earlier one
abbrev pub repeated_at : List Point → ℕ → Option Fault
repeated_at ps i = unless (free (slice_index_or ps i no_point).identifier (take i ps)) (year_fault IdentifierRepeated (i + 1))

abbrev pub repeated_fault : List Point → Option Fault
repeated_fault ps = first_fault_among (length ps) 0 (repeated_at ps)

-- uses rise by element and then by point, of which there are fewer than 2^16
abbrev pub rank : NetworkUse → ℕ
rank u = u.element * 65536 + u.point

-- the use at place i names an element and a point that are there, and rises above the one before it
abbrev pub placed_at : ℕ → ℕ → List NetworkUse → ℕ → Bool
placed_at points elements us i =
    nat_lt (slice_index_or us i no_use).element elements && nat_lt (slice_index_or us i no_use).point points && (i == 0 || nat_lt (rank (slice_index_or us (i - 1) no_use)) (rank (slice_index_or us i no_use)))

-- 5: the use at place i does not
abbrev pub misplaced_at : ℕ → ℕ → List NetworkUse → ℕ → Option Fault
misplaced_at points elements us i = unless (placed_at points elements us i) (year_fault UseMisplaced (points + elements + i + 1))

abbrev pub misplaced_fault : ℕ → ℕ → List NetworkUse → Option Fault
misplaced_fault points elements us = first_fault_among (length us) 0 (misplaced_at points elements us)

-- 6: a total is over its limit
abbrev pub over_fault : ℕ → ℕ → Option Fault
over_fault total limit = unless (nat_le total limit) (year_fault TotalOverLimit 0)

-- 6: the uses of one element are over their limit
abbrev pub overused_fault : ℕ → List NetworkUse → Option Fault
overused_fault elements us = first_fault_among elements 0 (λ e. over_fault (total_use e us) 10000000)

-- 7: a total is zero
abbrev pub zero_fault : ℕ → Option Fault
zero_fault total = unless (nat_lt 0 total) (year_fault TotalZero 0)
