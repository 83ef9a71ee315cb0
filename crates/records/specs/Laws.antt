-- The kinds of records obey the laws of rows. Assumes nothing.
use Rattle.std.proofs.Common.{◌≡◌, ℕ, zero, suc, List, [], ◌∷◌, length, get_or, refl, arith, lit<, lit≤}
use Rattle.bits.specs.Layout.{values_in, AllKeep}
use Rattle.bits.specs.Rows.{Alike, Lawful, Sized}
use Rattle.bits.specs.declared.field.Field.{Field}
use Rattle.bits.proofs.Laws.{keep_at}
use Rattle.bits.proofs.Trips.{packed_same}
use Rattle.bits.proofs.Turns.{narrow_all}
use Rattle.bits.proofs.Twos.{untwos-twos, twos-untwos, untwos_near, extended_lt}
use Rattle.records.specs.Bills.{bill_fields, bill_values, bill_named, bill_form}
use Rattle.records.specs.Elements.{element_form}
use Rattle.records.specs.Headers.{header_row, header_fields, header_values, header_named, header_form, ResiduesNear}
use Rattle.records.specs.Points.{point_fields, point_values, point_named, point_form}
use Rattle.records.specs.Uses.{use_fields, use_values, use_named, use_form}
use Rattle.records.specs.declared.header.Header.{Header}

-- a row of values, named one by one: the n values from place i on
abbrev pub names : ℕ → ℕ → List ℕ → List ℕ
names zero i vs = []
names (suc n) i vs = get_or vs i 0 ∷ names n (suc i) vs

names_past : (n i v : ℕ) (vs : List ℕ) → names n (suc i) (v ∷ vs) ≡ names n i vs
names_past zero i v vs = refl
names_past (suc n) i v vs = rw (names_past n (suc i) v vs)

pub names_all : (n : ℕ) (vs : List ℕ) → length vs ≡ n → names n 0 vs ≡ vs
names_all zero [] h = refl
names_all zero (v ∷ vs) h = absurd (omega arith)
names_all (suc n) [] h = absurd (omega arith)
names_all (suc n) (v ∷ vs) h = rw (names_past n 0 v vs, names_all n vs (omega arith))

-- a row lies as it does
alike_self : (fs : List Field) → Alike fs fs
alike_self fs = record { count = refl; span = refl; values = λ bs. refl; bits = λ us. refl }

pub element_lawful : Lawful element_form
unfolding element_form
element_lawful =
    record {
      narrow = narrow_all (element_form.fields []) refl;
      whole = refl;
      alike = λ vs. alike_self _;
      count = λ x. refl;
      back = λ x h. refl;
      forth = λ vs n k. names_all 3 vs n;
      limited = λ vs n k. tt;
    }

pub element_sized : Sized element_form 3 9
unfolding element_form
element_sized = record { count = refl; size = refl; few = lit< tt; small = lit< tt }

use_back : (vs : List ℕ) → length vs ≡ 4 → AllKeep use_fields vs → use_values (use_named vs) ≡ vs
use_back vs n k =
    let a = names_all 4 vs n in
    let z3 : get_or vs 3 0 ≡ 0 = omega (arith, keep_at use_fields vs 3 k (lit< tt) (omega arith)) in
    cc

pub use_lawful : Lawful use_form
unfolding use_form
use_lawful =
    record {
      narrow = narrow_all (use_form.fields []) refl;
      whole = refl;
      alike = λ vs. alike_self _;
      count = λ x. refl;
      back = λ x h. refl;
      forth = use_back;
      limited = λ vs n k. tt;
    }

pub use_sized : Sized use_form 4 5
unfolding use_form
use_sized = record { count = refl; size = refl; few = lit< tt; small = lit< tt }

point_back : (vs : List ℕ) → length vs ≡ 6 → AllKeep point_fields vs → point_values (point_named vs) ≡ vs
point_back vs n k =
    let a = names_all 6 vs n in
    let z5 : get_or vs 5 0 ≡ 0 = omega (arith, keep_at point_fields vs 5 k (lit< tt) (omega arith)) in
    cc

pub point_lawful : Lawful point_form
unfolding point_form
point_lawful =
    record {
      narrow = narrow_all (point_form.fields []) refl;
      whole = refl;
      alike = λ vs. alike_self _;
      count = λ x. refl;
      back = λ x h. refl;
      forth = point_back;
      limited = λ vs n k. tt;
    }

pub point_sized : Sized point_form 6 15
unfolding point_form
point_sized = record { count = refl; size = refl; few = lit< tt; small = lit< tt }

header_back : (vs : List ℕ) → length vs ≡ 11 → AllKeep (header_fields vs) vs → header_values (header_named vs) ≡ vs
header_back vs n k =
    let a = names_all 11 vs n in
    let z0 : get_or vs 0 0 ≡ 1 = omega (arith, keep_at (header_fields vs) vs 0 k (lit< tt) (omega arith)) in
    let z5 : get_or vs 5 0 ≡ 0 = omega (arith, keep_at (header_fields vs) vs 5 k (lit< tt) (omega arith)) in
    let s8 = twos-untwos (get_or vs 8 0) (extended_lt 35 (get_or vs 8 0) (lit≤ tt) (keep_at (header_fields vs) vs 8 k (lit< tt) (omega arith)).0) in
    let s9 = twos-untwos (get_or vs 9 0) (extended_lt 35 (get_or vs 9 0) (lit≤ tt) (keep_at (header_fields vs) vs 9 k (lit< tt) (omega arith)).0) in
    cc

near : (vs : List ℕ) → length vs ≡ 11 → AllKeep (header_fields vs) vs → ResiduesNear (header_named vs)
near vs n k =
    let k8 = keep_at (header_fields vs) vs 8 k (lit< tt) (omega arith) in
    let k9 = keep_at (header_fields vs) vs 9 k (lit< tt) (omega arith) in (
      untwos_near 10000000000 (get_or vs 8 0) (lit< tt) (extended_lt 35 (get_or vs 8 0) (lit≤ tt) k8.0) k8.1,
      untwos_near 10000000000 (get_or vs 9 0) (lit< tt) (extended_lt 35 (get_or vs 9 0) (lit≤ tt) k9.0) k9.1,
    )

residues_back : (h : Header) → ResiduesNear h → header_named (header_values h) ≡ h
residues_back h (a, b) = rw (untwos-twos 10000000000 h.locational_residue (lit< tt) a, untwos-twos 10000000000 h.other_residue (lit< tt) b)

pub header_lawful : Lawful header_form
unfolding header_form values_in
header_lawful =
    record {
      narrow = narrow_all (header_form.fields []) refl;
      whole = refl;
      alike = λ vs. record { count = refl; span = refl; values = λ bs. refl; bits = λ us. packed_same (header_fields vs) (header_row 0) refl us };
      count = λ x. refl;
      back = λ h i. residues_back h i.1;
      forth = header_back;
      limited = near;
    }

pub header_sized : Sized header_form 11 27
unfolding header_form
header_sized = record { count = refl; size = refl; few = lit< tt; small = lit< tt }

bill_back : (vs : List ℕ) → length vs ≡ 13 → AllKeep (bill_fields vs) vs → bill_values (bill_named vs) ≡ vs
bill_back vs n k =
    let a = names_all 13 vs n in
    let z0 : get_or vs 0 0 ≡ 2 = omega (arith, keep_at (bill_fields vs) vs 0 k (lit< tt) (omega arith)) in
    let z12 : get_or vs 12 0 ≡ 0 = omega (arith, keep_at (bill_fields vs) vs 12 k (lit< tt) (omega arith)) in
    cc

pub bill_lawful : Lawful bill_form
unfolding bill_form values_in
bill_lawful =
    record {
      narrow = narrow_all (bill_form.fields []) refl;
      whole = refl;
      alike = λ vs. record { count = refl; span = refl; values = λ bs. refl; bits = λ us. packed_same (bill_fields vs) (bill_fields []) refl us };
      count = λ x. refl;
      back = λ b i. refl;
      forth = bill_back;
      limited = λ vs n k. tt;
    }

pub bill_sized : Sized bill_form 13 41
unfolding bill_form
bill_sized = record { count = refl; size = refl; few = lit< tt; small = lit< tt }
