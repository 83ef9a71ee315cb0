-- Bytes at the front of a buffer.
use Rattle.std.specs.Prelude.{ℕ, cond, List, ◌++◌, length, drop, is_ok, Some, None, Option, Result, nat_lt}
use Rattle.bits.specs.Faults.{buffer_fault}
use Rattle.bits.specs.Layout.{first_bad}
use Rattle.bits.specs.declared.fault.Fault.{Fault}
use Rattle.bits.specs.declared.field.Field.{Field}

-- the first fault of two
abbrev pub ◌or_else◌ : Option Fault → Option Fault → Option Fault
None or_else g = g
(Some f) or_else g = Some f

infixr 4 ◌or_else◌
-- the fault of a buffer of `size` bytes that is to take `count` bytes
abbrev pub room_fault : ℕ → ℕ → Option Fault
room_fault count size = cond (nat_lt size count) (Some buffer_fault) None

-- why a row of values is not written as record number `nth`, in `count` bytes, into a buffer of `size` bytes: the
-- first value that breaks its range, and then the want of room
abbrev pub row_refusal : ℕ → ℕ → List Field → List ℕ → ℕ → Option Fault
row_refusal nth count fs vs size = first_bad nth 1 fs vs or_else room_fault count size

-- the buffer with these bytes at its front, and the rest as it was
abbrev pub over : List ℕ → List ℕ → List ℕ
over bytes buffer = bytes ++ drop (length bytes) buffer

-- what a call that writes leaves: a refusal leaves the buffer as it was
abbrev pub laid : {T : Type 0} → Result T Fault → List ℕ → List ℕ → List ℕ
laid r bytes buffer = cond (is_ok r) (over bytes buffer) buffer
