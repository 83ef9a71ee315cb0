-- Numbers, bits and bytes stand for each other. Assumes nothing.
use Rattle.std.proofs.Common.{◌≡◌, ℕ, zero, suc, ◌+◌, ◌*◌, ◌/◌, ◌%◌, ◌^◌, ◌<◌, ◌≤◌, List, [], ◌∷◌, ◌++◌, length, get_or, take, drop, sym, refl, ap, ◌∙◌, mod-eq_of_lt, mul_assoc, add-mul, add_comm, suc-add, pow-suc, zero-add, one-add, arith, pow_mono}
use Rattle.std.proofs.lemmas.List.{length-append, take_at, drop_at, take-append-drop, length-take, length-take-le, length-drop, nil_from_length}
use Rattle.std.proofs.lemmas.Nat.{pow-add, shr-shr, mod-pow-add, field_of, mod_low, shr_high, mul-add-lt}
use Rattle.std.proofs.Math.Pow.{mod-mod-pow}
use Rattle.bits.specs.Bits.{bits, bits_of, number, bytes_of}

-- each is 0 or 1
abbrev pub Binary : List ℕ → Type 0
Binary [] = Unit {0}
Binary (b ∷ bs) = (b < 2) × Binary bs

-- each is below 256
abbrev pub Bytes : List ℕ → Type 0
Bytes xs = (i : ℕ) → get_or xs i 0 < 256

pub length-bits_of : (w v : ℕ) → length (bits_of w v) ≡ w
unfolding bits_of
length-bits_of zero v = refl
length-bits_of (suc w) v = ap suc (length-bits_of w v)

pub length-bits : (xs : List ℕ) → length (bits xs) ≡ 8 * length xs
unfolding bits bits_of
length-bits [] = refl
length-bits (x ∷ xs) = omega (arith, length-bits xs)

-- the high and the low part of a number's bits
pub split_bits_of : (k m v : ℕ) → bits_of (k + m) v ≡ bits_of k (v / 2 ^ m) ++ bits_of m v
unfolding bits_of
split_bits_of zero m v = rw zero-add
split_bits_of (suc k) m v = rw suc-add (rw (shr-shr v m k, add_comm m k, split_bits_of k m v))

pub number_append : (xs ys : List ℕ) → number (xs ++ ys) ≡ number xs * 2 ^ length ys + number ys
unfolding number
number_append [] ys = omega arith
number_append (x ∷ xs) ys = grind (arith, length-append {A = ℕ}, pow-add, number_append xs ys, add-mul, mul_assoc)

pub number-bits_of : (w v : ℕ) → number (bits_of w v) ≡ v % 2 ^ w
unfolding number bits_of
number-bits_of zero v = omega arith
number-bits_of (suc w) v = rw (length-bits_of w v, number-bits_of w v, ← one-add w) (sym (mod-pow-add v 1 w))

-- the bits of numbers that differ only above them
pub bits_of_same : (w v u : ℕ) → v % 2 ^ w ≡ u % 2 ^ w → bits_of w v ≡ bits_of w u
unfolding bits_of
bits_of_same zero v u e = refl
bits_of_same (suc w) v u e =
    let d : v % 2 ^ (1 + w) ≡ u % 2 ^ (1 + w) = rw one-add e in
    let i = bits_of_same w v u (rw (← mod-mod-pow v 1 w, d, mod-mod-pow)) in
    let a = field_of v 1 w in
    let b = field_of u 1 w in
    cc

pub number_lt : (bs : List ℕ) → Binary bs → number bs < 2 ^ length bs
unfolding number
number_lt [] h = omega arith
number_lt (b ∷ bs) (l, h) = omega (arith, mul-add-lt b (2 ^ length bs) (number bs) 2 l (number_lt bs h), pow-suc 2 (length bs))

pub bits_of-number : (bs : List ℕ) → Binary bs → bits_of (length bs) (number bs) ≡ bs
unfolding number bits_of
bits_of-number [] h = refl
bits_of-number (b ∷ bs) (l, h) =
    let n = number_lt bs h in
    let t = bits_of_same (length bs) (b * 2 ^ length bs + number bs) (number bs) (rw (mod_low b (length bs) (number bs) n, mod-eq_of_lt n)) in
    rw (shr_high b (length bs) (number bs) n, t, bits_of-number bs h, mod-eq_of_lt l)

pub binary_bits_of : (w v : ℕ) → Binary (bits_of w v)
unfolding bits_of
binary_bits_of zero v = tt
binary_bits_of (suc w) v = (omega arith, binary_bits_of w v)

pub binary_append : (xs ys : List ℕ) → Binary xs → Binary ys → Binary (xs ++ ys)
binary_append [] ys h k = k
binary_append (x ∷ xs) ys (l, h) k = (l, binary_append xs ys h k)

pub binary_bits : (xs : List ℕ) → Binary (bits xs)
unfolding bits
binary_bits [] = tt
binary_bits (x ∷ xs) = binary_append (bits_of 8 x) (bits xs) (binary_bits_of 8 x) (binary_bits xs)

pub binary_take : (n : ℕ) (bs : List ℕ) → Binary bs → Binary (take n bs)
binary_take zero bs h = tt
binary_take (suc n) [] h = tt
binary_take (suc n) (b ∷ bs) (l, h) = (l, binary_take n bs h)

pub binary_drop : (n : ℕ) (bs : List ℕ) → Binary bs → Binary (drop n bs)
binary_drop zero bs h = h
binary_drop (suc n) [] h = tt
binary_drop (suc n) (b ∷ bs) (l, h) = binary_drop n bs h

pub length-bytes_of : (n : ℕ) (bs : List ℕ) → length (bytes_of n bs) ≡ n
unfolding bytes_of
length-bytes_of zero bs = refl
length-bytes_of (suc n) bs = ap suc (length-bytes_of n (drop 8 bs))

-- bits make up bytes, and these have the same bits
pub bits-bytes_of : (n : ℕ) (bs : List ℕ) → Binary bs → length bs ≡ 8 * n → bits (bytes_of n bs) ≡ bs
unfolding bits bytes_of
bits-bytes_of zero bs h l = sym (nil_from_length bs (omega arith))
bits-bytes_of (suc n) bs h l =
    let k : length (take 8 bs) ≡ 8 = length-take-le 8 bs (omega arith) in
    let f = bits_of-number (take 8 bs) (binary_take 8 bs h) in
    let i = bits-bytes_of n (drop 8 bs) (binary_drop 8 bs h) (length-drop 8 bs ∙ omega arith) in
    let j = take-append-drop 8 bs in
    cc

-- bytes are made up of their bits
pub bytes_of_bits : (xs : List ℕ) → Bytes xs → bytes_of (length xs) (bits xs) ≡ xs
unfolding bits bytes_of
bytes_of_bits [] h = refl
bytes_of_bits (x ∷ xs) h =
    let l = length-bits_of 8 x in
    let i = bytes_of_bits xs (λ k. h (suc k)) in
    rw (take_at (bits_of 8 x) (bits xs) 8 l, drop_at (bits_of 8 x) (bits xs) 8 l, number-bits_of, i, mod-eq_of_lt (h 0))

pub bytes_bytes_of : (n : ℕ) (bs : List ℕ) → Binary bs → Bytes (bytes_of n bs)
unfolding bytes_of
bytes_bytes_of zero bs h i = omega arith
bytes_bytes_of (suc n) bs h zero =
    let m : length (take 8 bs) ≤ 8 = simp length-take (omega arith) in
    let p : 2 ^ length (take 8 bs) ≤ 2 ^ 8 = pow_mono m in
    omega (arith, number_lt (take 8 bs) (binary_take 8 bs h))
bytes_bytes_of (suc n) bs h (suc i) = bytes_bytes_of n (drop 8 bs) (binary_drop 8 bs h) i
