-- What a year holds.
use Rattle.std.specs.Prelude.{◌≤◌, List, [], length, pos}
use Rattle.records.specs.declared.element.Element.{Element}
use Rattle.records.specs.declared.header.Header.{Header}
use Rattle.records.specs.declared.network_use.NetworkUse.{NetworkUse}
use Rattle.records.specs.declared.point.Point.{Point}

pub record YearData : Type 0 where
  pub header : Header
  pub points : List Point
  pub elements : List Element
  pub uses : List NetworkUse

abbrev pub year_data : Header → List Point → List Element → List NetworkUse → YearData
year_data h ps es us = record { header = h; points = ps; elements = es; uses = us }

-- the empty year has no points
abbrev pub blank_header : Header
blank_header = record { year = 0; points = 0; elements = 0; uses = 0; allowed_revenue = 0; common_operating_cost = 0; locational_residue = pos 0; other_residue = pos 0; common_cost = 0 }

abbrev pub empty_year : YearData
empty_year = year_data blank_header [] [] []

-- no more records than a year has room for
abbrev pub Few : YearData → Type 0
Few d = (length d.points ≤ 64) × (length d.elements ≤ 256) × (length d.uses ≤ 4096)
