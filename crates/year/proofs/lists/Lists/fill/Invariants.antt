use Rattle.std.proofs.Common.{◌≡◌, List, ◌++◌}
use Rattle.std.specs.List.{flat_map}
use Rattle.agreement.specs.Agreement.{together_fault}
use Rattle.agreement.specs.Data.{YearData, year_data, Few}
use Rattle.bits.specs.Laid.{◌or_else◌}
use Rattle.year.proofs.lists.Lists.fill.Given as goal
use Rattle.year.specs.Contents.{data_of}
use Rattle.year.specs.YearFile.{first_fault, year_of}
use Rattle.yearfile.specs.Told.{Told, to_come, first_told_fault, point_in, element_in, use_in}

-- the year in lists, once records that are still to come are in them too
abbrev pub filled : YearData → List Told → YearData
filled d ts = year_data d.header (d.points ++ flat_map point_in ts) (d.elements ++ flat_map element_in ts) (d.uses ++ flat_map use_in ts)

-- what is in the lists, with what is still to come, is the year in the file; nothing was wrong so far
abbrev pub invariant-loop-item : goal.invariant-loop-item
invariant-loop-item l =
    record {
      year : filled (data_of l.self) (to_come l.item-iterator) ≡ year_of l.file;
      fault : (first_told_fault (to_come l.item-iterator) or_else together_fault (year_of l.file)) ≡ first_fault l.file;
      few : Few (year_of l.file);
    }
