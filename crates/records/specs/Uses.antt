-- The record of a use, 5 bytes.
use Rattle.std.specs.Prelude.{ℕ, List, [], ◌∷◌, Option, slice_index}
use Rattle.bits.specs.Forms.{Form, record_of, record_fault, record_bytes}
use Rattle.bits.specs.Layout.{free, only}
use Rattle.bits.specs.declared.fault.Fault.{Fault}
use Rattle.bits.specs.declared.field.Field.{Field}
use Rattle.records.specs.declared.network_use.NetworkUse.{NetworkUse}

abbrev pub use_fields : List Field
use_fields =
    free 8 ∷  -- element
    free 6 ∷  -- point
    free 24 ∷  -- kW
    only 2 0 ∷ []  -- spare

abbrev pub use_values : NetworkUse → List ℕ
use_values u = u.element ∷ u.point ∷ u.demand ∷ 0 ∷ []

abbrev pub use_named : List ℕ → NetworkUse
use_named vs = record { element = slice_index vs 0; point = slice_index vs 1; demand = slice_index vs 2 }

unfoldable pub use_form : Form NetworkUse
use_form = record { size = 5; fields = λ _. use_fields; values = use_values; named = use_named; limits = λ _. Unit {0} }

-- the use in these bytes
abbrev pub use_of : List ℕ → NetworkUse
use_of bytes = record_of use_form bytes

-- the fault of the first field of these bytes that breaks its range, where they are record number `nth`
abbrev pub use_fault : ℕ → List ℕ → Option Fault
use_fault nth bytes = record_fault use_form nth bytes

-- the bytes of a use
abbrev pub use_bytes : NetworkUse → List ℕ
use_bytes u = record_bytes use_form u
