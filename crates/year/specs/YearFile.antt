-- What a year file says, and the first thing that is wrong with it.
use Rattle.std.specs.Prelude.{ℕ, List, map, drop, Option}
use Rattle.agreement.specs.Agreement.{together_fault}
use Rattle.agreement.specs.Data.{YearData, year_data}
use Rattle.bits.specs.Laid.{◌or_else◌}
use Rattle.bits.specs.declared.fault.Fault.{Fault}
use Rattle.records.specs.Elements.{element_of}
use Rattle.records.specs.Headers.{header_of, header_fault}
use Rattle.records.specs.Points.{point_of}
use Rattle.records.specs.Uses.{use_of}
use Rattle.records.specs.declared.header.Header.{Header}
use Rattle.yearfile.specs.File.{point_parts, element_parts, use_parts, length_fault, told_after}
use Rattle.yearfile.specs.Told.{first_told_fault}

-- the records that a header announces
abbrev pub year_after : Header → List ℕ → YearData
year_after h rest =
    year_data h
    (map point_of (point_parts h rest))
    (map element_of (element_parts h rest))
    (map use_of (use_parts h rest))

-- the year in a file
abbrev pub year_of : List ℕ → YearData
year_of file = year_after (header_of file) (drop 27 file)

-- the header's length and its fields, the length of the whole file, the records in file order and their fields in order,
-- and then the records together, 4 to 7
abbrev pub first_fault : List ℕ → Option Fault
first_fault file =
    header_fault file
    or_else length_fault (header_of file) (drop 27 file)
    or_else first_told_fault (told_after (header_of file) (drop 27 file))
    or_else together_fault (year_of file)
