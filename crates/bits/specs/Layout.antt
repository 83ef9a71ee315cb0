-- A record as a row of fields, each with a width and a range, packed one after the other. A row of values has as many
-- values as there are fields.
use Rattle.std.specs.Prelude.{◌≡◌, ℕ, suc, ◌+◌, ◌-◌, ◌%◌, ◌^◌, ◌≤◌, Bool, true, cond, ◌&&◌, ◌||◌, ◌⊎◌, List, [], ◌∷◌, ◌++◌, take, drop, Some, None, Option, ◌==◌, nat_le, nat_lt}
use Rattle.bits.specs.Bits.{bits_of, number}
use Rattle.bits.specs.Faults.{field_fault}
use Rattle.bits.specs.declared.fault.Fault.{Fault}
use Rattle.bits.specs.declared.field.Field.{Field}
use Rattle.bits.specs.declared.field.Range.{Range}
use Rattle.bits.specs.declared.field.Range.TheVariants.{Plain, Signed}

-- a field of `width` bits from `low` to `high`
abbrev pub plain : ℕ → ℕ → ℕ → Field
plain width low high = record { width = width; range = Plain low high }

-- a field of `width` bits with any value
abbrev pub free : ℕ → Field
free width = plain width 0 (2 ^ width - 1)

-- a field of `width` bits with one value
abbrev pub only : ℕ → ℕ → Field
only width value = plain width value value

-- a field of `width` bits in two's complement, from -limit to limit
abbrev pub signed : ℕ → ℕ → Field
signed width limit = record { width = width; range = Signed limit }

-- the number of `width` bits in two's complement, extended to 64 bits
abbrev pub extended : ℕ → ℕ → ℕ
extended width n = cond (nat_lt n (2 ^ (width - 1))) n (n + (2 ^ 64 - 2 ^ width))

-- what n stands for in the bits of a field
abbrev pub meaning : Range → ℕ → ℕ → ℕ
meaning (Plain low high) width n = n
meaning (Signed limit) width n = extended width n

-- the values that bits hold, those of signed fields as 64 bits in two's complement
unfoldable pub values_in : List Field → List ℕ → List ℕ
values_in [] bs = []
values_in (f ∷ fs) bs = meaning f.range f.width (number (take f.width bs)) ∷ values_in fs (drop f.width bs)

-- the bits of given values
unfoldable pub packed : List Field → List ℕ → List ℕ
packed [] vs = []
packed (f ∷ fs) [] = []
packed (f ∷ fs) (v ∷ vs) = bits_of f.width v ++ packed fs vs

-- how many bits the fields take
abbrev pub span : List Field → ℕ
span [] = 0
span (f ∷ fs) = f.width + span fs

abbrev pub within : Range → ℕ → Bool
within (Plain low high) v = nat_le low v && nat_le v high
within (Signed limit) v = nat_le v limit || nat_le (2 ^ 64) (v + limit)

-- a value keeps its range: the field's bits can stand for it, and it lies between the limits
abbrev pub keeps : Field → ℕ → Bool
keeps f v = meaning f.range f.width (v % 2 ^ f.width) == v && within f.range v

-- of the fields of a record, counted from n, the fault of the first whose value breaks its range
unfoldable pub first_bad : ℕ → ℕ → List Field → List ℕ → Option Fault
first_bad nth n [] vs = None
first_bad nth n (f ∷ fs) [] = None
first_bad nth n (f ∷ fs) (v ∷ vs) = cond (keeps f v) (first_bad nth (suc n) fs vs) (Some (field_fault nth n))

-- the same in words of order: what a value that keeps its range is
abbrev pub Within : Range → ℕ → Type 0
Within (Plain low high) v = (low ≤ v) × (v ≤ high)
Within (Signed limit) v = (v ≤ limit) ⊎ (2 ^ 64 ≤ v + limit)

abbrev pub Keeps : Field → ℕ → Type 0
Keeps f v = (meaning f.range f.width (v % 2 ^ f.width) ≡ v) × Within f.range v

abbrev pub AllKeep : List Field → List ℕ → Type 0
AllKeep [] vs = Unit {0}
AllKeep (f ∷ fs) [] = Unit {0}
AllKeep (f ∷ fs) (v ∷ vs) = Keeps f v × AllKeep fs vs

-- each field is at most 63 bits wide, and a signed one has a bit for its sign
abbrev pub Narrow : List Field → Type 0
Narrow [] = Unit {0}
Narrow (f ∷ fs) = (1 ≤ f.width) × (f.width ≤ 63) × Narrow fs

-- the same as a test
abbrev pub narrow : List Field → Bool
narrow [] = true
narrow (f ∷ fs) = nat_le 1 f.width && nat_le f.width 63 && narrow fs
