-- The record of an element, 9 bytes.
use Rattle.std.specs.Prelude.{ℕ, List, [], ◌∷◌, Option, slice_index}
use Rattle.bits.specs.Forms.{Form, record_of, record_fault, record_bytes}
use Rattle.bits.specs.Layout.{plain}
use Rattle.bits.specs.declared.fault.Fault.{Fault}
use Rattle.bits.specs.declared.field.Field.{Field}
use Rattle.records.specs.declared.element.Element.{Element}

abbrev pub element_fields : List Field
element_fields =
    plain 24 0 10000000 ∷  -- cost
    plain 24 1 10000000 ∷  -- rating
    plain 24 0 10000000 ∷ []  -- peak

abbrev pub element_values : Element → List ℕ
element_values e = e.cost ∷ e.rating ∷ e.peak ∷ []

abbrev pub element_named : List ℕ → Element
element_named vs = record { cost = slice_index vs 0; rating = slice_index vs 1; peak = slice_index vs 2 }

unfoldable pub element_form : Form Element
element_form = record { size = 9; fields = λ _. element_fields; values = element_values; named = element_named; limits = λ _. Unit {0} }

-- the element in these bytes
abbrev pub element_of : List ℕ → Element
element_of bytes = record_of element_form bytes

-- the fault of the first field of these bytes that breaks its range, where they are record number `nth`
abbrev pub element_fault : ℕ → List ℕ → Option Fault
element_fault nth bytes = record_fault element_form nth bytes

-- the bytes of an element
abbrev pub element_bytes : Element → List ℕ
element_bytes e = record_bytes element_form e
