-- The limits that a checked year keeps. The empty year, which has no points, keeps them too, but for those that say
-- otherwise.
use Rattle.std.specs.Prelude.{ℕ, ◌+◌, ◌<◌, ◌≤◌, List, length, ◌≢◌, slice_index_or}
use Rattle.records.specs.declared.network_use.NetworkUse.{NetworkUse}
use Rattle.records.specs.declared.point.Point.{Point}
use Rattle.agreement.specs.Agreement.{cost_of}
use Rattle.agreement.specs.Data.{YearData}
use Rattle.agreement.specs.Together.{no_point, no_use, rank}
use Rattle.agreement.specs.Totals.{total_demand, total_energy, total_use}

-- no identifier is that of an earlier point
abbrev pub Distinct : List Point → Type 0
Distinct ps = (i j : ℕ) → i < j → j < length ps → (slice_index_or ps i no_point).identifier ≢ (slice_index_or ps j no_point).identifier

-- each use names an element and a point that are there
abbrev pub Named : YearData → Type 0
Named d = (k : ℕ) → k < length d.uses → ((slice_index_or d.uses k no_use).element < length d.elements) × ((slice_index_or d.uses k no_use).point < length d.points)

-- the uses rise strictly, by element and then by point
abbrev pub Rising : List NetworkUse → Type 0
Rising us = (k : ℕ) → k + 1 < length us → rank (slice_index_or us k no_use) < rank (slice_index_or us (k + 1) no_use)

-- all costs, all demands and all energy together
abbrev pub Within : YearData → Type 0
Within d = (cost_of d ≤ 10000000) × (total_demand d.points ≤ 10000000) × (total_energy d.points ≤ 50000000)

-- the uses of each element together
abbrev pub UsedWithin : YearData → Type 0
UsedWithin d = (e : ℕ) → e < length d.elements → total_use e d.uses ≤ 10000000

-- a year with a point has some cost and some energy
abbrev pub Priced : YearData → Type 0
Priced d = 0 < length d.points → (1 ≤ cost_of d) × (1 ≤ total_energy d.points)
