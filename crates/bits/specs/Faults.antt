-- The faults: the layer that each refusal belongs to, and what it names.
use Rattle.std.specs.Prelude.{ℕ, cond, Some, None, Option, nat_lt}
use Rattle.bits.specs.declared.fault.Fault.{Fault}
use Rattle.bits.specs.declared.fault.Layer.TheVariants.{Bits, Record, Year}
use Rattle.bits.specs.declared.refusal.Refusal.{Refusal}
use Rattle.bits.specs.declared.refusal.Refusal.TheVariants.{FileShort, TrailingBytes, FieldOutOfRange, BufferShort}

-- there are too few bytes, too many, or no room for them
abbrev pub bits_fault : Refusal → Fault
bits_fault refusal = record { refusal = refusal; layer = Bits; «record» = 0; field = 0 }

-- the bytes end too soon
abbrev pub short_fault : Fault
short_fault = bits_fault FileShort

-- bytes follow the last record
abbrev pub long_fault : Fault
long_fault = bits_fault TrailingBytes

-- a buffer has no room for what is to be written
abbrev pub buffer_fault : Fault
buffer_fault = bits_fault BufferShort

-- a field of a record is out of its range
abbrev pub field_fault : ℕ → ℕ → Fault
field_fault nth number = record { refusal = FieldOutOfRange; layer = Record; «record» = nth; field = number }

-- the records of a year do not agree, and this one is the first to break the rule, or 0 for the year as a whole
abbrev pub year_fault : Refusal → ℕ → Fault
year_fault refusal nth = record { refusal = refusal; layer = Year; «record» = nth; field = 0 }

-- fewer bytes than a record takes
abbrev pub short_of : ℕ → ℕ → Option Fault
short_of size count = cond (nat_lt count size) (Some short_fault) None

-- fewer bytes than there are to be, or more
abbrev pub wrong_length : ℕ → ℕ → Option Fault
wrong_length size count = cond (nat_lt count size) (Some short_fault) (cond (nat_lt size count) (Some long_fault) None)
