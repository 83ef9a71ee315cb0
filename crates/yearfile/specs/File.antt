-- A year file: a header, and the records that it announces.
use Rattle.std.specs.Prelude.{ℕ, ◌+◌, ◌*◌, List, length, drop, Option}
use Rattle.std.specs.Simd.{first_chunks}
use Rattle.bits.specs.Faults.{wrong_length}
use Rattle.bits.specs.declared.fault.Fault.{Fault}
use Rattle.records.specs.declared.header.Header.{Header}
use Rattle.yearfile.specs.Told.{Told, in_order}

-- the bytes of the records that a header announces
abbrev pub announced : Header → ℕ
announced h = 15 * h.points + 9 * h.elements + 5 * h.uses

-- the rest of the file, after its header, is shorter or longer than that
abbrev pub length_fault : Header → List ℕ → Option Fault
length_fault h rest = wrong_length (announced h) (length rest)

-- the parts of the points, the elements and the uses in the rest of a file, 15 bytes, 9 and 5 each
abbrev pub point_parts : Header → List ℕ → List (List ℕ)
point_parts h rest = first_chunks 15 h.points rest

abbrev pub element_parts : Header → List ℕ → List (List ℕ)
element_parts h rest = first_chunks 9 h.elements (drop (15 * h.points) rest)

abbrev pub use_parts : Header → List ℕ → List (List ℕ)
use_parts h rest = first_chunks 5 h.uses (drop (15 * h.points + 9 * h.elements) rest)

-- the records that a header announces
abbrev pub told_after : Header → List ℕ → List Told
told_after h rest = in_order 0 (point_parts h rest) (element_parts h rest) (use_parts h rest)
