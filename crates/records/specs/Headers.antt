-- The header of a year file, its first 27 bytes.
use Rattle.std.specs.Prelude.{ℕ, ◌≤◌, cond, List, [], ◌∷◌, length, take, Some, Option, nat_lt, slice_index, unsigned_abs}
use Rattle.bits.specs.Faults.{short_fault}
use Rattle.bits.specs.Forms.{Form, record_of, record_fault, record_bytes, record_refusal}
use Rattle.bits.specs.Layout.{plain, free, only, signed, AllKeep}
use Rattle.bits.specs.Signs.{twos, untwos}
use Rattle.bits.specs.declared.fault.Fault.{Fault}
use Rattle.bits.specs.declared.field.Field.{Field}
use Rattle.records.specs.declared.header.Header.{Header}

-- the common operating cost is at most the allowed revenue
abbrev pub header_row : ℕ → List Field
header_row allowed =
    only 4 1 ∷  -- kind
    plain 14 2000 2999 ∷  -- year
    plain 7 1 64 ∷  -- points
    plain 9 0 256 ∷  -- elements
    plain 13 0 4096 ∷  -- uses
    only 1 0 ∷  -- spare
    plain 37 0 100000000000 ∷  -- allowed revenue
    plain 37 0 allowed ∷  -- common operating cost
    signed 35 10000000000 ∷  -- locational residue
    signed 35 10000000000 ∷  -- other residue
    free 24 ∷ []  -- common cost

abbrev pub header_fields : List ℕ → List Field
header_fields vs = header_row (slice_index vs 6)

abbrev pub header_values : Header → List ℕ
header_values h =
    1 ∷ h.year ∷ h.points ∷ h.elements ∷ h.uses ∷ 0 ∷ h.allowed_revenue ∷ h.common_operating_cost ∷
    twos h.locational_residue ∷ twos h.other_residue ∷ h.common_cost ∷ []

abbrev pub header_named : List ℕ → Header
header_named vs =
    record {
      year = slice_index vs 1;
      points = slice_index vs 2;
      elements = slice_index vs 3;
      uses = slice_index vs 4;
      allowed_revenue = slice_index vs 6;
      common_operating_cost = slice_index vs 7;
      locational_residue = untwos (slice_index vs 8);
      other_residue = untwos (slice_index vs 9);
      common_cost = slice_index vs 10;
    }

-- the residues are at most 10,000,000,000 away from zero
abbrev pub ResiduesNear : Header → Type 0
ResiduesNear h = (unsigned_abs h.locational_residue ≤ 10000000000) × (unsigned_abs h.other_residue ≤ 10000000000)

unfoldable pub header_form : Form Header
header_form = record { size = 27; fields = header_fields; values = header_values; named = header_named; limits = ResiduesNear }

-- the header in the first 27 bytes of a file
abbrev pub header_of : List ℕ → Header
header_of file = record_of header_form (take 27 file)

-- a file too short for a header, or the fault of the header's first field that breaks its range
abbrev pub header_fault : List ℕ → Option Fault
header_fault file = cond (nat_lt (length file) 27) (Some short_fault) (record_fault header_form 0 (take 27 file))

-- each field keeps its range
abbrev pub HeaderIn : Header → Type 0
HeaderIn h = AllKeep (header_fields (header_values h)) (header_values h) × ResiduesNear h

-- the bytes of a header
abbrev pub header_bytes : Header → List ℕ
header_bytes h = record_bytes header_form h

-- why a header is not written into a buffer of so many bytes
abbrev pub header_refusal : Header → ℕ → Option Fault
header_refusal h room = record_refusal header_form 0 h room
