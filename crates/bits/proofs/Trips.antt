-- The round trips of any kind of record that obeys a few laws. Assumes nothing.
use Rattle.std.proofs.Common.{◌≡◌, ℕ, List, [], ◌∷◌, length, IfOk, None, Ok, Err, Option, Result, sym, refl, ◌∙◌}
use Rattle.std.specs.Result.{result_err}
use Rattle.bits.specs.Bits.{bits, bytes_of}
use Rattle.bits.specs.Forms.{Form, values_of, record_of, record_fault, record_bytes, record_refusal, InRange}
use Rattle.bits.specs.Laid.{row_refusal}
use Rattle.bits.specs.Rows.{Stands, Lawful, Kept}
use Rattle.bits.specs.Layout.{packed, first_bad, AllKeep}
use Rattle.bits.specs.declared.fault.Fault.{Fault}
use Rattle.bits.specs.declared.field.Field.{Field}
use Rattle.bits.proofs.Digits.{Bytes, length-bytes_of}
use Rattle.bits.proofs.Laws.{length_values, none_bad, all_kept, reads_back, writes_back}

abbrev pub widths : List Field → List ℕ
widths [] = []
widths (f ∷ fs) = f.width ∷ widths fs

-- values have the same bits in rows of the same widths
pub packed_same : (fs gs : List Field) → widths fs ≡ widths gs → (vs : List ℕ) → packed fs vs ≡ packed gs vs
unfolding packed
packed_same [] [] e vs = refl
packed_same [] (g ∷ gs) e vs = cc
packed_same (f ∷ fs) [] e vs = cc
packed_same (f ∷ fs) (g ∷ gs) e [] = refl
packed_same (f ∷ fs) (g ∷ gs) e (v ∷ vs) = let i = packed_same fs gs (cc) vs in cc

-- a record has so many bytes
pub length_record : {X : Type 0} (F : Form X) (x : X) → length (record_bytes F x) ≡ F.size
unfolding record_bytes
length_record F x = length-bytes_of F.size (packed (F.fields []) (F.values x))

-- a record that keeps its ranges is read back from its bytes
pub written_read : {X : Type 0} (F : Form X) → Lawful F → (place : ℕ) (x : X) → InRange F x → (record_fault F place (record_bytes F x) ≡ None) × (record_of F (record_bytes F x) ≡ x)
unfolding record_of record_fault record_bytes
written_read F l place x h =
    let vs = F.values x in
    let a = l.alike vs in
    let b = a.bits vs in
    let v = a.values (bits (bytes_of F.size (packed (F.fields vs) vs))) in
    let k = reads_back F.size (F.fields vs) vs (a.count ∙ sym (l.count x)) (a.span ∙ l.whole) h.0 in
    let r : values_of F (bytes_of F.size (packed (F.fields []) vs)) ≡ vs = cc in
    let n = none_bad place 1 (F.fields vs) vs h.0 in
    let o = l.back x h in
    (cc, cc)

-- bytes without a fault are those of the record in them, which keeps its ranges
pub read_written : {X : Type 0} (F : Form X) → Lawful F → (place : ℕ) (xs : List ℕ) → length xs ≡ F.size → Bytes xs → record_fault F place xs ≡ None → InRange F (record_of F xs) × (xs ≡ record_bytes F (record_of F xs))
unfolding record_of record_fault record_bytes
read_written F l place xs n b e =
    let k = all_kept place 1 (F.fields (values_of F xs)) (values_of F xs) e in
    let c = length_values (F.fields []) (bits xs) in
    rw (l.forth (values_of F xs) c k) ((k, l.limited (values_of F xs) c k), sym (writes_back F.size (F.fields []) xs l.narrow l.whole n b))

-- fields that are those of a kind of record serve for them
pub stands_same : {X : Type 0} (F : Form X) → Lawful F → (vs : List ℕ) (gs : List Field) → gs ≡ F.fields vs → Stands F vs gs
stands_same F l vs gs e = rw e (record { alike = l.alike vs; judges = λ nth. refl })

-- values that keep the ranges of such fields keep their own
pub kept_by : {X : Type 0} (F : Form X) (vs : List ℕ) (gs : List Field) → Stands F vs gs → AllKeep gs vs → Kept F vs
kept_by F vs gs s k = all_kept 0 1 (F.fields vs) vs (rw (← s.judges 0) (none_bad 0 1 gs vs k))

-- What reading answers, where the code has the values as `vs` and fields `gs` that serve for theirs: the fault of a read
-- that fails, and all that is known of one that succeeds.
pub read_fails : {X : Type 0} (F : Form X) (place : ℕ) (xs vs : List ℕ) (gs : List Field) (o : Option Fault) → vs ≡ values_of F xs → Stands F vs gs → o ≡ first_bad place 1 gs vs → o ≡ record_fault F place xs
unfolding record_fault
read_fails F place xs vs gs o v s e = cc (s.judges place)

pub read_succeeds : {X : Type 0} (F : Form X) → Lawful F → (place : ℕ) (xs vs : List ℕ) (gs : List Field) → length xs ≡ F.size → Bytes xs → vs ≡ values_of F xs → Stands F vs gs → None ≡ first_bad place 1 gs vs
    → (None ≡ record_fault F place xs) × (F.named vs ≡ record_of F xs) × (InRange F (F.named vs) × (xs ≡ record_bytes F (F.named vs)))
unfolding record_of
read_succeeds F l place xs vs gs n b v s e =
    let d = read_fails F place xs vs gs None v s e in
    rw v (d, refl, read_written F l place xs n b (sym d))

-- a read finds the record whose bytes these are
pub read_finds : {X : Type 0} (F : Form X) → Lawful F → (place : ℕ) (xs : List ℕ) (r : Result X Fault) → result_err r ≡ record_fault F place xs → IfOk r (λ x. x ≡ record_of F xs) → (x : X) → InRange F x → xs ≡ record_bytes F x → r ≡ Ok x
read_finds F l place xs (Ok y) e m x h b = let w = written_read F l place x h in cc
read_finds F l place xs (Err f) e m x h b = let w = written_read F l place x h in cc

-- what writing answers, where the code has the values of x as `vs` and fields `gs` that serve for theirs
pub write_answers : {X : Type 0} (F : Form X) (place room : ℕ) (x : X) (vs : List ℕ) (gs : List Field) → vs ≡ F.values x → Stands F vs gs
    → (row_refusal place F.size gs vs room ≡ record_refusal F place x room) × (bytes_of F.size (packed gs vs) ≡ record_bytes F x)
unfolding record_refusal record_bytes
write_answers F place room x vs gs v s = (rw (s.judges place, v), rw (s.alike.bits vs, v))

pub write_stands : {X : Type 0} (F : Form X) → Lawful F → (place : ℕ) (x : X) (vs : List ℕ) (gs : List Field) → vs ≡ F.values x → Stands F vs gs → (Kept F vs → F.limits x) → AllKeep gs vs
    → InRange F x × ((record_fault F place (record_bytes F x) ≡ None) × (record_of F (record_bytes F x) ≡ x))
write_stands F l place x vs gs v s m k =
    let q = kept_by F vs gs s k in
    let h : InRange F x = (rw v at q, m q) in
    (h, written_read F l place x h)
