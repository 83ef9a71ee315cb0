-- The records of a year file, each told as a point, an element or a use with its bytes and its place in the file.
use Rattle.std.specs.Prelude.{◌≡◌, ℕ, ◌+◌, ◌^◌, ◌<◌, List, [], ◌∷◌, ◌++◌, map, IfSome, None, Option}
use Rattle.std.specs.Option.{option_map, option_to_list}
use Rattle.std.specs.Slice.Iter.{iter_rest}
use Rattle.bits.specs.Laid.{◌or_else◌}
use Rattle.bits.specs.declared.fault.Fault.{Fault}
use Rattle.records.specs.Elements.{element_of, element_fault}
use Rattle.records.specs.Points.{point_of, point_fault}
use Rattle.records.specs.Uses.{use_of, use_fault}
use Rattle.records.specs.declared.element.Element.{Element}
use Rattle.records.specs.declared.network_use.NetworkUse.{NetworkUse}
use Rattle.records.specs.declared.point.Point.{Point}
use Rattle.yearfile.specs.declared.record.Record.{Record}
use Rattle.yearfile.specs.declared.record.Record.TheVariants as variants
use Rattle.yearfile.specs.declared.stream.Records.{Records}

pub data Told : Type 0 where
  a_point : List ℕ → ℕ → Told
  an_element : List ℕ → ℕ → Told
  a_use : List ℕ → ℕ → Told

-- records whose places count on from `place`
abbrev pub numbered : ℕ → List (ℕ → Told) → List Told
numbered place [] = []
numbered place (at ∷ rest) = at place ∷ numbered (place + 1) rest

-- points, elements and uses, in this order, the first of them at `place`
abbrev pub in_order : ℕ → List (List ℕ) → List (List ℕ) → List (List ℕ) → List Told
in_order place points elements uses =
    numbered place (map (λ b n. a_point b n) points ++ (map (λ b n. an_element b n) elements ++ map (λ b n. a_use b n) uses))

-- the first field of a record that breaks its range; the record at place 0 is record number 1
abbrev pub told_fault : Told → Option Fault
told_fault (a_point bytes place) = point_fault (place + 1) bytes
told_fault (an_element bytes place) = element_fault (place + 1) bytes
told_fault (a_use bytes place) = use_fault (place + 1) bytes

-- the first fault of records in their order
abbrev pub first_told_fault : List Told → Option Fault
first_told_fault [] = None
first_told_fault (t ∷ ts) = told_fault t or_else first_told_fault ts

abbrev pub place_of : Told → ℕ
place_of (a_point bytes place) = place
place_of (an_element bytes place) = place
place_of (a_use bytes place) = place

-- what the records of each kind say, in their order
abbrev pub point_in : Told → List Point
point_in (a_point bytes place) = point_of bytes ∷ []
point_in (an_element bytes place) = []
point_in (a_use bytes place) = []

abbrev pub element_in : Told → List Element
element_in (a_point bytes place) = []
element_in (an_element bytes place) = element_of bytes ∷ []
element_in (a_use bytes place) = []

abbrev pub use_in : Told → List NetworkUse
use_in (a_point bytes place) = []
use_in (an_element bytes place) = []
use_in (a_use bytes place) = use_of bytes ∷ []

-- what the code tells, and what a stream has still to tell
abbrev pub told : Record → Told
told (variants.Point bytes place) = a_point bytes.now place
told (variants.Element bytes place) = an_element bytes.now place
told (variants.Use bytes place) = a_use bytes.now place

abbrev pub to_come : Records → List Told
to_come s = in_order s.place (iter_rest s.points) (iter_rest s.elements) (iter_rest s.uses)

-- one step of a stream: what was to come is what it tells and what is then to come; it ends where nothing is to come
pub record Tells (before : Records) (item : Option Record) (after : Records) : Type 0 where
  pub tells : to_come before ≡ option_to_list (option_map told item) ++ to_come after
  pub ends : item ≡ None → to_come after ≡ []
  pub small : IfSome item (λ it. place_of (told it) + 1 < 2 ^ 16)
