-- What a year's lists hold, and what the records of a file say.
use Rattle.std.specs.Prelude.{List, ◌++◌, vec_items}
use Rattle.std.specs.List.{flat_map}
use Rattle.agreement.specs.Data.{YearData, year_data}
use Rattle.records.specs.declared.header.Header.{Header}
use Rattle.year.specs.declared.lists.Lists.{Lists}
use Rattle.yearfile.specs.Told.{Told, point_in, element_in, use_in}

abbrev pub data_of : Lists → YearData
data_of l = year_data l.header (vec_items l.points) (vec_items l.elements) (vec_items l.uses)

abbrev pub gathered : Header → List Told → YearData
gathered h ts = year_data h (flat_map point_in ts) (flat_map element_in ts) (flat_map use_in ts)

-- and one record more
abbrev pub with : YearData → Told → YearData
with d t = year_data d.header (d.points ++ point_in t) (d.elements ++ element_in t) (d.uses ++ use_in t)
