-- The laws of rows of fields: bits hold one row of values, values have one row of bits, and both round trips give back
-- what went in. Assumes nothing.
use Rattle.std.proofs.Common.{◌≡◌, ℕ, zero, suc, ◌+◌, ◌-◌, ◌*◌, ◌%◌, ◌^◌, ◌<◌, ◌≤◌, true, List, [], ◌∷◌, length, get_or, take, drop, None, sym, refl, ap, ◌∙◌, mul-add, arith}
use native.Mathlib.Nat.{add-mul-mod_self_left}
use Rattle.std.proofs.lemmas.List.{length-append, take_at, drop_at, take-append-drop, length-take-le, length-drop, nil_from_length}
use Rattle.std.proofs.lemmas.Nat.{pow_pos, pow-add}
use Rattle.std.proofs.lemmas.Bool.Decides.{nat_tests}
use Rattle.bits.specs.Bits.{bits, bits_of, number, bytes_of}
use Rattle.bits.specs.Layout.{extended, meaning, within, keeps, Within, Keeps, AllKeep, values_in, packed, span, first_bad, Narrow}
use Rattle.bits.specs.declared.field.Field.{Field}
use Rattle.bits.specs.declared.field.Range.{Range}
use Rattle.bits.specs.declared.field.Range.TheVariants.{Plain, Signed}
use Rattle.bits.proofs.Digits.{Binary, Bytes, length-bits_of, length-bits, number-bits_of, bits_of-number, bits_of_same, binary_bits_of, binary_append, binary_bits, binary_take, binary_drop, bits-bytes_of, bytes_of_bits}
use Rattle.bits.proofs.Turns.{blank}

pub length_values : (fs : List Field) (bs : List ℕ) → length (values_in fs bs) ≡ length fs
unfolding values_in
length_values [] bs = refl
length_values (f ∷ fs) bs = ap suc (length_values fs (drop f.width bs))

-- extending the sign leaves the bits of a number
extended-mod : (w n : ℕ) → w ≤ 64 → extended w n % 2 ^ w ≡ n % 2 ^ w
extended-mod w n h =
    let p = pow-add 2 w (64 - w) in
    let k : w + (64 - w) ≡ 64 = omega arith in
    let q = pow_pos (64 - w) in
    let r = mul-add (2 ^ w) (2 ^ (64 - w) - 1) 1 in
    let e : 2 ^ 64 - 2 ^ w ≡ 2 ^ w * (2 ^ (64 - w) - 1) = grind arith in
    let t = add-mul-mod_self_left n (2 ^ w) (2 ^ (64 - w) - 1) in
    rw e (grind (arith, nat_tests))

pub meaning-mod : (r : Range) (w n : ℕ) → w ≤ 64 → meaning r w n % 2 ^ w ≡ n % 2 ^ w
meaning-mod (Plain low high) w n h = refl
meaning-mod (Signed limit) w n h = extended-mod w n h

field_bits : (f : Field) (bs : List ℕ) → f.width ≤ 63 → Binary bs → f.width ≤ length bs → bits_of f.width (meaning f.range f.width (number (take f.width bs))) ≡ take f.width bs
field_bits f bs w b h =
    let v = number (take f.width bs) in
    let s = bits_of_same f.width (meaning f.range f.width v) v (meaning-mod f.range f.width v (omega arith)) in
    let l = length-take-le f.width bs h in
    let n = bits_of-number (take f.width bs) (binary_take f.width bs b) in
    cc

-- the values of bits have these bits
pub packed_values : (fs : List Field) (bs : List ℕ) → Narrow fs → Binary bs → length bs ≡ span fs → packed fs (values_in fs bs) ≡ bs
unfolding values_in packed
packed_values [] bs n b l = sym (nil_from_length bs l)
packed_values (f ∷ fs) bs n b l =
    let e = field_bits f bs n.1 b (omega arith) in
    let i = packed_values fs (drop f.width bs) n.2 (binary_drop f.width bs b) (length-drop f.width bs ∙ omega arith) in
    rw (e, i, take-append-drop f.width bs)

-- values that keep their ranges are the values of their bits
pub values_packed : (fs : List Field) (vs : List ℕ) → length fs ≡ length vs → AllKeep fs vs → values_in fs (packed fs vs) ≡ vs
unfolding values_in packed
values_packed [] [] l k = refl
values_packed [] (v ∷ vs) l k = absurd (omega arith)
values_packed (f ∷ fs) [] l k = absurd (omega arith)
values_packed (f ∷ fs) (v ∷ vs) l k =
    let n = length-bits_of f.width v in
    let i = values_packed fs vs (omega arith) k.1 in
    rw (take_at (bits_of f.width v) (packed fs vs) f.width n, drop_at (bits_of f.width v) (packed fs vs) f.width n, number-bits_of, k.0.0, i)

pub length-packed : (fs : List Field) (vs : List ℕ) → length fs ≡ length vs → length (packed fs vs) ≡ span fs
unfolding packed
length-packed [] vs l = refl
length-packed (f ∷ fs) [] l = absurd (omega arith)
length-packed (f ∷ fs) (v ∷ vs) l = simp (length-append, length-bits_of) (omega (arith, length-packed fs vs))

pub binary_packed : (fs : List Field) (vs : List ℕ) → Binary (packed fs vs)
unfolding packed
binary_packed [] vs = tt
binary_packed (f ∷ fs) [] = tt
binary_packed (f ∷ fs) (v ∷ vs) = binary_append (bits_of f.width v) (packed fs vs) (binary_bits_of f.width v) (binary_packed fs vs)

-- a test of a range, and what it says
range_kept : (r : Range) (v : ℕ) → within r v ≡ true → Within r v
range_kept (Plain low high) v e = (grind (arith, nat_tests), grind (arith, nat_tests))
range_kept (Signed limit) v e = grind (arith, nat_tests)

kept_range : (r : Range) (v : ℕ) → Within r v → within r v ≡ true
kept_range (Plain low high) v h = grind (arith, nat_tests)
kept_range (Signed limit) v h = grind (arith, nat_tests)

pub field_kept : (f : Field) (v : ℕ) → keeps f v ≡ true → Keeps f v
field_kept f v e = grind (arith, nat_tests, range_kept)

kept_field : (f : Field) (v : ℕ) → Keeps f v → keeps f v ≡ true
kept_field f v h = grind (arith, nat_tests, kept_range)

-- no field is bad where all keep their ranges, and only there
pub none_bad : (place n : ℕ) (fs : List Field) (vs : List ℕ) → AllKeep fs vs → first_bad place n fs vs ≡ None
unfolding first_bad
none_bad place n [] vs k = refl
none_bad place n (f ∷ fs) [] k = refl
none_bad place n (f ∷ fs) (v ∷ vs) (a, k) = rw (kept_field f v a, none_bad place (suc n) fs vs k)

pub all_kept : (place n : ℕ) (fs : List Field) (vs : List ℕ) → first_bad place n fs vs ≡ None → AllKeep fs vs
unfolding first_bad
all_kept place n [] vs e = tt
all_kept place n (f ∷ fs) [] e = tt
all_kept place n (f ∷ fs) (v ∷ vs) e = (field_kept f v (grind (arith, nat_tests)), all_kept place (suc n) fs vs (grind (arith, nat_tests)))

-- two rows that judge these values alike
abbrev pub JudgeAlike : List Field → List Field → List ℕ → Type 0
JudgeAlike [] [] vs = Unit {0}
JudgeAlike [] (g ∷ gs) vs = ⊥
JudgeAlike (f ∷ fs) [] vs = ⊥
JudgeAlike (f ∷ fs) (g ∷ gs) [] = Unit {0}
JudgeAlike (f ∷ fs) (g ∷ gs) (v ∷ vs) = (keeps f v ≡ keeps g v) × JudgeAlike fs gs vs

pub first_bad_alike : (place n : ℕ) (fs gs : List Field) (vs : List ℕ) → JudgeAlike fs gs vs → first_bad place n fs vs ≡ first_bad place n gs vs
unfolding first_bad
first_bad_alike place n [] [] vs k = refl
first_bad_alike place n [] (g ∷ gs) vs k = absurd k
first_bad_alike place n (f ∷ fs) [] vs k = absurd k
first_bad_alike place n (f ∷ fs) (g ∷ gs) [] k = refl
first_bad_alike place n (f ∷ fs) (g ∷ gs) (v ∷ vs) (e, k) = rw (e, first_bad_alike place (suc n) fs gs vs k)

-- the field at a place keeps its range
pub keep_at : (fs : List Field) (vs : List ℕ) (i : ℕ) → AllKeep fs vs → i < length fs → i < length vs → Keeps (get_or fs i blank) (get_or vs i 0)
keep_at [] vs i k h l = absurd (omega arith)
keep_at (f ∷ fs) [] i k h l = absurd (omega arith)
keep_at (f ∷ fs) (v ∷ vs) zero k h l = k.0
keep_at (f ∷ fs) (v ∷ vs) (suc i) k h l = keep_at fs vs i k.1 (omega arith) (omega arith)

-- a record's bytes hold its values
pub reads_back : (n : ℕ) (fs : List Field) (vs : List ℕ) → length fs ≡ length vs → span fs ≡ 8 * n → AllKeep fs vs → values_in fs (bits (bytes_of n (packed fs vs))) ≡ vs
reads_back n fs vs l s k = rw (bits-bytes_of n (packed fs vs) (binary_packed fs vs) (length-packed fs vs l ∙ s)) (values_packed fs vs l k)

-- the values of bytes have these bytes
pub writes_back : (n : ℕ) (fs : List Field) (xs : List ℕ) → Narrow fs → span fs ≡ 8 * n → length xs ≡ n → Bytes xs → bytes_of n (packed fs (values_in fs (bits xs))) ≡ xs
writes_back n fs xs w s l b = rw (packed_values fs (bits xs) w (binary_bits xs) (omega (arith, length-bits xs)), ← l) (bytes_of_bits xs b)
