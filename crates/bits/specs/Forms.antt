-- A kind of record, and what its bytes mean.
use Rattle.std.specs.Prelude.{ℕ, List, [], Option}
use Rattle.bits.specs.Bits.{bits, bytes_of}
use Rattle.bits.specs.Laid.{row_refusal}
use Rattle.bits.specs.Layout.{values_in, packed, first_bad, AllKeep}
use Rattle.bits.specs.declared.fault.Fault.{Fault}
use Rattle.bits.specs.declared.field.Field.{Field}

-- `size` counts the bytes of a record, and `fields` lists its fields. A range may hang on the values, a width does not,
-- so the widths are those of `fields []`. `values` are a record's values, field by field, and `named` makes the record
-- of them. `limits` are what a record's signed numbers keep.
pub record Form (X : Type 0) : Type 1 where
  pub size : ℕ
  pub fields : List ℕ → List Field
  pub values : X → List ℕ
  pub named : List ℕ → X
  pub limits : X → Type 0

abbrev pub values_of : {X : Type 0} → Form X → List ℕ → List ℕ
values_of F bytes = values_in (F.fields []) (bits bytes)

-- the record in these bytes
unfoldable pub record_of : {X : Type 0} → Form X → List ℕ → X
record_of F bytes = F.named (values_of F bytes)

-- the fault of the first field of these bytes that breaks its range, where they are record number `nth`
unfoldable pub record_fault : {X : Type 0} → Form X → ℕ → List ℕ → Option Fault
record_fault F nth bytes = first_bad nth 1 (F.fields (values_of F bytes)) (values_of F bytes)

-- each value of a record keeps its range
abbrev pub InRange : {X : Type 0} → Form X → X → Type 0
InRange F x = AllKeep (F.fields (F.values x)) (F.values x) × F.limits x

-- the bytes of a record
unfoldable pub record_bytes : {X : Type 0} → Form X → X → List ℕ
record_bytes F x = bytes_of F.size (packed (F.fields []) (F.values x))

-- why a record is not written as record number `nth` into a buffer of so many bytes
unfoldable pub record_refusal : {X : Type 0} → Form X → ℕ → X → ℕ → Option Fault
record_refusal F nth x room = row_refusal nth F.size (F.fields (F.values x)) (F.values x) room
