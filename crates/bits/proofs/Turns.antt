-- Rows of fields, one field at a time. Assumes nothing.
use Rattle.std.proofs.Common.{◌≡◌, ℕ, zero, suc, ◌+◌, ◌<◌, ◌≤◌, true, false, List, [], ◌∷◌, ◌++◌, length, get_or, take, drop, set, replicate, Some, None, Option, sym, refl, ◌∙◌, add-one, arith}
use Rattle.std.proofs.lemmas.List.{length-append, append_assoc, append-nil, drop_more, drop_all, take_all, take_more_set, length-set, length-drop, length-replicate}
use Rattle.std.proofs.lemmas.Bool.Decides.{nat_tests}
use Rattle.bits.specs.Bits.{bits_of, number}
use Rattle.bits.specs.Faults.{field_fault}
use Rattle.bits.specs.Layout.{plain, narrow, meaning, keeps, values_in, packed, span, first_bad, Narrow}
use Rattle.bits.specs.declared.fault.Fault.{Fault}
use Rattle.bits.specs.declared.field.Field.{Field}
use Rattle.bits.proofs.Digits.{length-bits_of}

-- what stands past the end of a row
abbrev pub blank : Field
blank = plain 0 0 0

-- what the test of a layout says
pub narrow_all : (fs : List Field) → narrow fs ≡ true → Narrow fs
narrow_all [] e = tt
narrow_all (f ∷ fs) e = (grind (arith, nat_tests), grind (arith, nat_tests), narrow_all fs (grind (arith, nat_tests)))

pub narrow_at : (fs : List Field) (i : ℕ) (d : Field) → Narrow fs → i < length fs → (1 ≤ (get_or fs i d).width) × ((get_or fs i d).width ≤ 63)
narrow_at [] i d n h = absurd (omega arith)
narrow_at (f ∷ fs) zero d n h = (n.0, n.1)
narrow_at (f ∷ fs) (suc i) d n h = narrow_at fs i d n.2 (omega arith)

-- the loop that reads: the values so far, and those that the rest of the fields have in the bits ahead
pub record Read (fs : List Field) (whole vs : List ℕ) (i n : ℕ) (now : List ℕ) : Type 0 where
  pub values : values_in fs whole ≡ take i vs ++ values_in (drop i fs) now
  pub room : span (drop i fs) ≤ length now
  pub count : length vs ≡ n

pub read_none : (fs : List Field) (whole : List ℕ) (n : ℕ) → span fs ≤ length whole → Read fs whole (replicate n 0) 0 n whole
read_none fs whole n h = record { values = refl; room = h; count = length-replicate n 0 }

pub read_width : (fs : List Field) (i : ℕ) (d : Field) → i < length fs → span (drop i fs) ≡ (get_or fs i d).width + span (drop (i + 1) fs)
read_width fs i d h = rw (drop_more fs i d h)

pub read_more : (fs : List Field) (whole values : List ℕ) (i n : ℕ) (now next : List ℕ) (d : Field) (v : ℕ) → Read fs whole values i n now → i < length fs → i < n
    → v ≡ meaning (get_or fs i d).range (get_or fs i d).width (number (take (get_or fs i d).width now)) → next ≡ drop (get_or fs i d).width now → Read fs whole (set values i v) (i + 1) n next
unfolding values_in
read_more fs whole values i n now next d v r h l e f =
    let k : i < length values = omega (arith, r.count) in
    let q = r.values in
    let a = take_more_set values i v k in
    let b = drop_more fs i d h in
    let c = append_assoc (take i values) (v ∷ []) (values_in (drop (i + 1) fs) next) in
    record { values = cc; room = rw f (simp length-drop (omega (arith, r.room, read_width fs i d h))); count = simp length-set r.count }

pub read_all : (fs : List Field) (whole values : List ℕ) (i n : ℕ) (now : List ℕ) → Read fs whole values i n now → length fs ≤ i → n ≤ i → values ≡ values_in fs whole
unfolding values_in
read_all fs whole values i n now r h l =
    let k : length values ≤ i = omega (arith, r.count) in
    sym (rw (drop_all i fs h, append-nil, take_all i values k) at r.values)

-- the loop that checks: the fields and values that are left decide
pub record Checked (whole : Option Fault) (nth i : ℕ) (fs : List Field) (vs : List ℕ) : Type 0 where
  pub left : whole ≡ first_bad nth (i + 1) fs vs
  pub narrow : Narrow fs
  pub count : length fs ≡ length vs

pub checked_more : (whole : Option Fault) (nth i : ℕ) (f : Field) (fs : List Field) (v : ℕ) (vs : List ℕ) → Checked whole nth i (f ∷ fs) (v ∷ vs) → keeps f v ≡ true → Checked whole nth (i + 1) fs vs
unfolding first_bad
checked_more whole nth i f fs v vs r e =
    record { left = r.left ∙ rw (e, ← add-one (i + 1)); narrow = r.narrow.2; count = omega (arith, r.count) }

pub checked_bad : (whole : Option Fault) (nth i : ℕ) (f : Field) (fs : List Field) (v : ℕ) (vs : List ℕ) → Checked whole nth i (f ∷ fs) (v ∷ vs) → keeps f v ≡ false → whole ≡ Some (field_fault nth (i + 1))
unfolding first_bad
checked_bad whole nth i f fs v vs r e = r.left ∙ rw e

pub checked_all : (whole : Option Fault) (nth i : ℕ) → Checked whole nth i [] [] → whole ≡ None
unfolding first_bad
checked_all whole nth i r = r.left

-- the loop that writes: what is written, and the fields and values that are left
pub record Wrote (whole : List ℕ) (m : ℕ) (now : List ℕ) (fs : List Field) (vs : List ℕ) : Type 0 where
  pub bits : whole ≡ now ++ packed fs vs
  pub room : length now + span fs ≡ m
  pub narrow : Narrow fs
  pub count : length fs ≡ length vs

pub wrote_more : (whole : List ℕ) (m : ℕ) (now next : List ℕ) (f : Field) (fs : List Field) (v : ℕ) (vs : List ℕ) → Wrote whole m now (f ∷ fs) (v ∷ vs) → next ≡ now ++ bits_of f.width v → Wrote whole m next fs vs
unfolding packed
wrote_more whole m now next f fs v vs r e =
    record {
      bits = rw (e, append_assoc) r.bits;
      room = rw e (simp (length-append, length-bits_of) (omega (arith, r.room)));
      narrow = r.narrow.2;
      count = omega (arith, r.count);
    }

pub wrote_all : (whole : List ℕ) (m : ℕ) (now : List ℕ) → Wrote whole m now [] [] → (now ≡ whole) × (length now ≡ m)
unfolding packed
wrote_all whole m now r = (sym (r.bits ∙ append-nil now), omega (arith, r.room))
