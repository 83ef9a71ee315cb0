-- What the header and the records of a checked year keep each by itself. The empty year keeps it too.
use Rattle.std.specs.Prelude.{◌≡◌, ℕ, ◌<◌, ◌≤◌, length, slice_index_or, unsigned_abs}
use Rattle.agreement.specs.Data.{YearData}
use Rattle.agreement.specs.Together.{no_point, no_element}

-- the header counts the records
abbrev pub Counted : YearData → Type 0
Counted d = (d.header.points ≡ length d.points) × (d.header.elements ≡ length d.elements) × (d.header.uses ≡ length d.uses)

-- the amounts of the header
abbrev pub Figures : YearData → Type 0
Figures d =
    (d.header.allowed_revenue ≤ 100000000000)
    × (d.header.common_operating_cost ≤ d.header.allowed_revenue)
    × (unsigned_abs d.header.locational_residue ≤ 10000000000)
    × (unsigned_abs d.header.other_residue ≤ 10000000000)

-- a year with a point is one that a file can name
abbrev pub Dated : YearData → Type 0
Dated d = 0 < length d.points → (2000 ≤ d.header.year) × (d.header.year ≤ 2999)

-- identifiers are 1 to 65,535
abbrev pub Identified : YearData → Type 0
Identified d = (k : ℕ) → k < length d.points → (1 ≤ (slice_index_or d.points k no_point).identifier) × ((slice_index_or d.points k no_point).identifier ≤ 65535)

-- the cost, the rating and the peak of an element are at most 10,000,000, and the rating is not zero
abbrev pub Rated : YearData → Type 0
Rated d = (k : ℕ) → k < length d.elements
    → ((slice_index_or d.elements k no_element).cost ≤ 10000000) × (1 ≤ (slice_index_or d.elements k no_element).rating)
    × ((slice_index_or d.elements k no_element).rating ≤ 10000000) × ((slice_index_or d.elements k no_element).peak ≤ 10000000)

-- a year without points is the empty one, in which everything is zero
abbrev pub Blank : YearData → Type 0
Blank d = length d.points ≡ 0
    → ((length d.elements ≡ 0) × (length d.uses ≡ 0))
    × ((d.header.year ≡ 0) × (d.header.allowed_revenue ≡ 0) × (d.header.common_operating_cost ≡ 0))
    × ((unsigned_abs d.header.locational_residue ≡ 0) × (unsigned_abs d.header.other_residue ≡ 0) × (d.header.common_cost ≡ 0))
