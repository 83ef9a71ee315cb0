-- The file of a year, and why it is not written.
use Rattle.std.specs.Prelude.{ℕ, ◌<◌, cond, List, ◌++◌, length, Some, None, Option, ◌==◌, nat_lt}
use Rattle.std.specs.List.{flat_map}
use Rattle.agreement.specs.Data.{YearData, Few}
use Rattle.agreement.specs.Limits.{Distinct, Named, Rising, Within, UsedWithin, Priced}
use Rattle.bits.specs.declared.refusal.Refusal.{Refusal}
use Rattle.bits.specs.declared.refusal.Refusal.TheVariants.{EmptyYear, BufferShort}
use Rattle.records.specs.Elements.{element_bytes}
use Rattle.records.specs.Headers.{header_bytes}
use Rattle.records.specs.Points.{point_bytes}
use Rattle.records.specs.Uses.{use_bytes}
use Rattle.year.specs.Ranges.{Counted, Figures, Dated, Identified, Rated}

-- the header, the points, the elements, the uses
abbrev pub year_bytes : YearData → List ℕ
year_bytes d =
    header_bytes d.header
    ++ (flat_map point_bytes d.points
    ++ (flat_map element_bytes d.elements
    ++ flat_map use_bytes d.uses))

-- 21, then 9
abbrev pub write_refusal : YearData → ℕ → Option Refusal
write_refusal d room = cond (length d.points == 0) (Some EmptyYear) (cond (nat_lt room (length (year_bytes d))) (Some BufferShort) None)

-- a year that is not the empty one and keeps every limit
pub record Sound (d : YearData) : Type 0 where
  pub some : 0 < length d.points
  pub few : Few d
  pub counted : Counted d
  pub figures : Figures d
  pub dated : Dated d
  pub identified : Identified d
  pub rated : Rated d
  pub distinct : Distinct d.points
  pub named : Named d
  pub rising : Rising d.uses
  pub within : Within d
  pub used : UsedWithin d
  pub priced : Priced d
