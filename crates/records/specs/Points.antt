-- The record of a point, 15 bytes.
use Rattle.std.specs.Prelude.{ℕ, List, [], ◌∷◌, Option, slice_index}
use Rattle.bits.specs.Forms.{Form, record_of, record_fault, record_bytes}
use Rattle.bits.specs.Layout.{plain, free, only}
use Rattle.bits.specs.declared.fault.Fault.{Fault}
use Rattle.bits.specs.declared.field.Field.{Field}
use Rattle.records.specs.declared.point.Point.{Point}

abbrev pub point_fields : List Field
point_fields =
    plain 16 1 65535 ∷  -- identifier
    free 24 ∷  -- entry cost
    free 24 ∷  -- exit cost
    free 24 ∷  -- kW
    free 26 ∷  -- MWh
    only 6 0 ∷ []  -- spare

abbrev pub point_values : Point → List ℕ
point_values p = p.identifier ∷ p.entry_cost ∷ p.exit_cost ∷ p.contract_demand ∷ p.energy ∷ 0 ∷ []

abbrev pub point_named : List ℕ → Point
point_named vs = record { identifier = slice_index vs 0; entry_cost = slice_index vs 1; exit_cost = slice_index vs 2; contract_demand = slice_index vs 3; energy = slice_index vs 4 }

unfoldable pub point_form : Form Point
point_form = record { size = 15; fields = λ _. point_fields; values = point_values; named = point_named; limits = λ _. Unit {0} }

-- the point in these bytes
abbrev pub point_of : List ℕ → Point
point_of bytes = record_of point_form bytes

-- the fault of the first field of these bytes that breaks its range, where they are record number `nth`
abbrev pub point_fault : ℕ → List ℕ → Option Fault
point_fault nth bytes = record_fault point_form nth bytes

-- the bytes of a point
abbrev pub point_bytes : Point → List ℕ
point_bytes p = record_bytes point_form p
