-- Records of one kind, written one after another and taken apart again. Assumes nothing.
use Rattle.std.proofs.Common.{◌≡◌, ℕ, zero, suc, ◌+◌, ◌*◌, ◌≤◌, List, [], ◌∷◌, ◌++◌, map, length, take, drop, None, Option, sym, refl, append_assoc, mul-zero, mul-suc, arith, length-append}
use Rattle.std.specs.List.{AllByRecursion, flat_map}
use Rattle.std.specs.Simd.{first_chunks}
use Rattle.std.proofs.lemmas.List.{take-append-drop, get_or-drop, length-take, places, length-take-le, length-drop, drop-drop, take_at, drop_at}
use Rattle.bits.specs.Forms.{Form, record_of, record_fault, record_bytes, InRange}
use Rattle.bits.specs.declared.fault.Fault.{Fault}
use Rattle.bits.proofs.Digits.{Bytes}
use Rattle.bits.specs.Rows.{Lawful}
use Rattle.bits.proofs.Trips.{length_record, written_read, read_written}

pub bytes_drop : (n : ℕ) (bs : List ℕ) → Bytes bs → Bytes (drop n bs)
bytes_drop n bs h i = rw (get_or-drop n bs i 0) (h (n + i))

pub bytes_take : (n : ℕ) (bs : List ℕ) → Bytes bs → Bytes (take n bs)
bytes_take n bs h i = grind (arith, places, length-take {A = ℕ}, h i)

-- parts without a fault, each as the record of some number, or of any
abbrev pub Fine : (ℕ → List ℕ → Option Fault) → List (List ℕ) → Type 0
Fine fault ps = AllByRecursion (λ b. (k : ℕ) × (None ≡ fault (k + 1) b)) ps

abbrev pub AlwaysFine : (ℕ → List ℕ → Option Fault) → List (List ℕ) → Type 0
AlwaysFine fault ps = AllByRecursion (λ b. (k : ℕ) → fault (k + 1) b ≡ None) ps

module _ {X : Type 0} (F : Form X) where
  pub length_all : (xs : List X) → length (flat_map (record_bytes F) xs) ≡ F.size * length xs
  length_all [] = sym (mul-zero F.size)
  length_all (x ∷ xs) = simp length-append (omega (arith, length_record F x, length_all xs, mul-suc F.size (length xs)))

  -- what was written one after another is taken apart into the same records
  pub parts_all : (xs : List X) (rest : List ℕ) → first_chunks F.size (length xs) (flat_map (record_bytes F) xs ++ rest) ≡ map (record_bytes F) xs
  parts_all [] rest = refl
  parts_all (x ∷ xs) rest =
      let n = length_record F x in
      rw (append_assoc (record_bytes F x), take_at (record_bytes F x) _ F.size n, drop_at (record_bytes F x) _ F.size n, parts_all xs rest)

  pub past_all : (xs : List X) (rest : List ℕ) → drop (F.size * length xs) (flat_map (record_bytes F) xs ++ rest) ≡ rest
  past_all xs rest = drop_at (flat_map (record_bytes F) xs) rest (F.size * length xs) (length_all xs)

  module _ (law : Lawful F) where
    -- records in their ranges are read back from their bytes, without a fault
    pub read_back : (xs : List X) → AllByRecursion (InRange F) xs → map (record_of F) (map (record_bytes F) xs) ≡ xs
    read_back [] h = refl
    read_back (x ∷ xs) h = rw ((written_read F law 0 x h.0).1, read_back xs h.1)

    pub none_back : (xs : List X) → AllByRecursion (InRange F) xs → AlwaysFine (record_fault F) (map (record_bytes F) xs)
    none_back [] h = tt
    none_back (x ∷ xs) h = ((λ k. (written_read F law (k + 1) x h.0).0), none_back xs h.1)

    -- parts without a fault are records in their ranges, and the bytes of these
    pub write_back : (n : ℕ) (bs : List ℕ) → F.size * n ≤ length bs → Bytes bs → Fine (record_fault F) (first_chunks F.size n bs)
        → AllByRecursion (InRange F) (map (record_of F) (first_chunks F.size n bs)) × (flat_map (record_bytes F) (map (record_of F) (first_chunks F.size n bs)) ++ drop (F.size * n) bs ≡ bs)
    write_back zero bs l b h = (tt, rw mul-zero)
    write_back (suc n) bs l b h =
        let m = mul-suc F.size n in
        let s : F.size ≤ length bs = omega arith in
        let w = read_written F law (h.0.0 + 1) (take F.size bs) (length-take-le F.size bs s) (bytes_take F.size bs b) (sym h.0.1) in
        let k : F.size * n ≤ length (drop F.size bs) = simp length-drop (omega arith) in
        let r = write_back n (drop F.size bs) k (bytes_drop F.size bs b) h.1 in
        let j : F.size * suc n ≡ F.size + F.size * n = omega arith in
        ((w.0, r.0), rw (append_assoc (record_bytes F (record_of F (take F.size bs))), j, ← drop-drop (F.size * n) F.size bs, r.1, ← w.1) (take-append-drop F.size bs))
