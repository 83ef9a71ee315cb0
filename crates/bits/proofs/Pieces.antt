-- A few bits at a time. Assumes nothing.
use Rattle.std.proofs.Common.{◌≡◌, ℕ, zero, suc, ◌+◌, ◌-◌, ◌*◌, ◌/◌, ◌%◌, ◌^◌, ◌<◌, ◌≤◌, List, [], ◌∷◌, ◌++◌, length, get_or, take, drop, set, sym, refl, ap, mod-eq_of_lt, mul_assoc, mul_comm, add-mul, arith, pow_mono}
use native.Mathlib.Nat.{mod-mod}
use Rattle.std.proofs.lemmas.List.{length-append, append_assoc, append-nil, take_at, drop_at, drop-drop, take_all, take_more_set, length-drop, length-take, length-take-le}
use Rattle.std.proofs.lemmas.Nat.{pow_pos, pow-add, mod_below, one_shl, shl_whole, mul-add-lt, shr_high, mod_low}
use Rattle.std.proofs.Math.Seq.{take-add}
use Rattle.bits.specs.Bits.{bits, bits_of, number, bytes_of}
use Rattle.bits.proofs.Digits.{Bytes, length-bits_of, length-bits, split_bits_of, number_append, number-bits_of, bits_of_same, bytes_of_bits}

pub some_bytes : (xs : List ℕ) (u k : ℕ) → 0 < k → k ≤ length (drop u (bits xs)) → 0 < length xs
some_bytes xs u k z h = omega (arith, length-drop u (bits xs), length-bits xs)

-- what is ahead within a byte: the rest of its bits, and the bytes after it
byte_ahead : (x : ℕ) (xs : List ℕ) (u m : ℕ) → u + m ≡ 8 → drop u (bits (x ∷ xs)) ≡ bits_of m x ++ bits xs
unfolding bits
byte_ahead x xs u m e =
    let s = split_bits_of u m x in
    let a = append_assoc (bits_of u (x / 2 ^ m)) (bits_of m x) (bits xs) in
    let d = drop_at (bits_of u (x / 2 ^ m)) (bits_of m x ++ bits xs) u (length-bits_of u (x / 2 ^ m)) in
    cc

-- k bits within a byte, with m more behind them
pub piece_value : (xs : List ℕ) (u k m : ℕ) → 0 < length xs → u + k + m ≡ 8 → number (take k (drop u (bits xs))) ≡ get_or xs 0 0 / 2 ^ m % 2 ^ k
piece_value [] u k m h e = absurd (omega arith)
piece_value (x ∷ xs) u k m h e =
    let b = byte_ahead x xs u (k + m) (omega arith) in
    rw (b, split_bits_of k m x, append_assoc, take_at (bits_of k (x / 2 ^ m)) (bits_of m x ++ bits xs) k (length-bits_of k (x / 2 ^ m)), number-bits_of)

-- the same, as the code has it
pub piece_given : (xs : List ℕ) (u k : ℕ) → 0 < k → u + k ≤ 8 → k ≤ length (drop u (bits xs))
    → (get_or xs 0 0 / 2 ^ (8 - u - k) % ((1 * 2 ^ k) % 18446744073709551616) ≡ number (take k (drop u (bits xs)))) × (get_or xs 0 0 / 2 ^ (8 - u - k) % ((1 * 2 ^ k) % 18446744073709551616) < 2 ^ k)
piece_given xs u k z l r =
    rw (one_shl k 64 (omega arith)) (sym (piece_value xs u k (8 - u - k) (some_bytes xs u k z r) (omega arith)), mod_below (get_or xs 0 0 / 2 ^ (8 - u - k)) (2 ^ k) (pow_pos k))

-- the last bits of a byte leave the bytes after it
pub byte_done : (xs ys : List ℕ) (x u k : ℕ) → xs ≡ x ∷ ys → u + k ≡ 8 → bits ys ≡ drop k (drop u (bits xs))
unfolding bits bits_of
byte_done xs ys x u k s e = rw (s, drop-drop, e)

-- w bits of `whole` are to be taken: `value` is the number in those that are, `left` are to come, and `now` is ahead
pub record Taken (whole : List ℕ) (w value left : ℕ) (now : List ℕ) : Type 0 where
  pub number : number (take w whole) ≡ value * 2 ^ left + number (take left now)
  pub after : drop w whole ≡ drop left now
  pub room : left ≤ length now
  pub small : value < 2 ^ (w - left)
  pub bound : left ≤ w

taken_lt : (w left k value p : ℕ) → value < 2 ^ (w - left) → p < 2 ^ k → k ≤ left → left ≤ w → value * 2 ^ k + p < 2 ^ (w - (left - k))
taken_lt w left k value p h q l b =
    let e : w - (left - k) ≡ (w - left) + k = omega arith in
    rw (e, pow-add) (grind (arith, mul-add-lt value (2 ^ k) p (2 ^ (w - left)) h q))

-- a turn of the loop that takes: k bits more
pub taken_more : (whole : List ℕ) (w value left : ℕ) (now : List ℕ) (k p : ℕ) (next : List ℕ) → Taken whole w value left now → w ≤ 64 → k ≤ left → p ≡ number (take k now) → p < 2 ^ k → next ≡ drop k now
    → Taken whole w ((value * 2 ^ k) % 18446744073709551616 + p) (left - k) next
taken_more whole w value left now k p next t m l e q d =
    let n : k + (left - k) ≡ left = omega arith in
    let r : left - k ≤ length (drop k now) = simp length-drop (omega (arith, t.room)) in
    let j = length-take-le (left - k) (drop k now) r in
    let a = take-add k (left - k) now in
    let b = number_append (take k now) (take (left - k) (drop k now)) in
    let f : number (take left now) ≡ p * 2 ^ (left - k) + number (take (left - k) next) = cc in
    let x : 2 ^ left ≡ 2 ^ k * 2 ^ (left - k) = rw (← pow-add 2 k (left - k), n) in
    let c : number (take w whole) ≡ (value * 2 ^ k + p) * 2 ^ (left - k) + number (take (left - k) next) = rw (add-mul, mul_assoc, ← x) (omega (arith, t.number)) in
    let v = drop-drop (left - k) k now in
    rw (shl_whole value (w - left) k 64 t.small (omega (arith, t.bound)))
    (record { number = c; after = cc; room = rw d r; small = taken_lt w left k value p t.small q l t.bound; bound = omega (arith, t.bound) })

pub taken_fits : (whole : List ℕ) (w value left : ℕ) (now : List ℕ) (k p : ℕ) → Taken whole w value left now → w ≤ 64 → k ≤ left → p < 2 ^ k → (value * 2 ^ k) % 18446744073709551616 + p < 2 ^ 64
taken_fits whole w value left now k p t m l q =
    let x : w - (left - k) ≤ 64 = omega arith in
    let y : 2 ^ (w - (left - k)) ≤ 2 ^ 64 = pow_mono x in
    rw (shl_whole value (w - left) k 64 t.small (omega (arith, t.bound))) (omega (arith, taken_lt w left k value p t.small q l t.bound))

-- all are taken
pub taken_all : (whole : List ℕ) (w value left : ℕ) (now : List ℕ) → Taken whole w value left now → left ≤ 0 → (value ≡ number (take w whole)) × (value < 2 ^ w) × (now ≡ drop w whole)
unfolding number
taken_all whole w value zero now t l = let e : w - 0 ≡ w = omega arith in (omega (arith, t.number), rw e at t.small, sym t.after)
taken_all whole w value (suc left) now t l = absurd (omega arith)

-- the first bits of a byte and k more
pub join_bits_of : (u k p v : ℕ) → v < 2 ^ k → bits_of (u + k) (p * 2 ^ k + v) ≡ bits_of u p ++ bits_of k v
join_bits_of u k p v h = rw (split_bits_of u k (p * 2 ^ k + v), shr_high p k v h, bits_of_same k (p * 2 ^ k + v) v (rw (mod_low p k v h, mod-eq_of_lt h)))

pub part_lt : (u k p v : ℕ) → p < 2 ^ u → v < 2 ^ k → u + k ≤ 8 → (p * 2 ^ k) % 65536 + v < 2 ^ (u + k)
part_lt u k p v h q l = rw (shl_whole p u k 16 h (omega arith), pow-add, mul_comm (2 ^ u) (2 ^ k)) (mul-add-lt p (2 ^ k) v (2 ^ u) h q)

pub part_byte : (u k p v : ℕ) → p < 2 ^ u → v < 2 ^ k → u + k ≡ 8 → (p * 2 ^ k) % 65536 + v < 256
part_byte u k p v h q e = let t = part_lt u k p v h q (omega arith) in rw e at t

pub part_more : (done : List ℕ) (u k p v : ℕ) → p < 2 ^ u → v < 2 ^ k → u + k ≤ 8 → done ++ bits_of (u + k) ((p * 2 ^ k) % 65536 + v) ≡ (done ++ bits_of u p) ++ bits_of k v
part_more done u k p v h q l = rw (shl_whole p u k 16 h (omega arith), join_bits_of u k p v q, append_assoc)

bits-append : (xs ys : List ℕ) → bits (xs ++ ys) ≡ bits xs ++ bits ys
unfolding bits
bits-append [] ys = refl
bits-append (x ∷ xs) ys = rw (bits-append xs ys, append_assoc)

-- the last bits of a byte
pub byte_more : (bytes : List ℕ) (i u k p v : ℕ) → p < 2 ^ u → v < 2 ^ k → u + k ≡ 8 → i < length bytes
    → bits (take (i + 1) (set bytes i ((p * 2 ^ k) % 65536 + v))) ++ bits_of 0 0 ≡ (bits (take i bytes) ++ bits_of u p) ++ bits_of k v
unfolding bits bits_of
byte_more bytes i u k p v h q e l =
    let x = (p * 2 ^ k) % 65536 + v in
    rw (append-nil, take_more_set bytes i x l, bits-append, ← part_more (bits (take i bytes)) u k p v h q (omega arith), e, append-nil)

-- w bits of `value` are to be written after `start`: `left` of them are to come, and `now` is written
pub record Put (start : List ℕ) (w value left : ℕ) (now : List ℕ) : Type 0 where
  pub bits : now ++ bits_of left value ≡ start ++ bits_of w value
  pub bound : left ≤ w

-- a turn of the loop that writes: k bits more
pub put_more : (start : List ℕ) (w value left : ℕ) (now : List ℕ) (k : ℕ) (next : List ℕ) → Put start w value left now → k ≤ left → k ≤ 8 → next ≡ now ++ bits_of k (value / 2 ^ (left - k) % ((1 * 2 ^ k) % 18446744073709551616)) → Put start w value (left - k) next
put_more start w value left now k next t l m e =
    let o = one_shl k 64 (omega arith) in
    let n : k + (left - k) ≡ left = omega arith in
    let x = value / 2 ^ (left - k) in
    let b = bits_of_same k (x % 2 ^ k) x (mod-mod x (2 ^ k)) in
    let s = split_bits_of k (left - k) value in
    let a = append_assoc now (bits_of k x) (bits_of (left - k) value) in
    let f = t.bits in
    record { bits = cc; bound = omega (arith, t.bound) }

pub piece_lt : (x k : ℕ) → k ≤ 8 → x % ((1 * 2 ^ k) % 18446744073709551616) < 2 ^ k
piece_lt x k m = rw (one_shl k 64 (omega arith)) (mod_below x (2 ^ k) (pow_pos k))

pub put_all : (start : List ℕ) (w value left : ℕ) (now : List ℕ) → Put start w value left now → left ≤ 0 → now ≡ start ++ bits_of w value
unfolding bits_of
put_all start w value zero now t l = rw (← append-nil now) t.bits
put_all start w value (suc left) now t l = absurd (omega arith)

-- a writer with bits to come has a byte to come
pub put_room : (bytes start : List ℕ) (whole u p w value left n : ℕ) → length bytes ≡ n → whole ≤ n → Put start w value left (bits (take whole bytes) ++ bits_of u p) → length start + w ≤ 8 * n → 0 < left → whole < n
put_room bytes start whole u p w value left n e l t r z = omega (arith, simp (length-append, length-bits, length-bits_of, length-take) at (ap length t.bits))

-- the bytes of a writer that was given all its bits
pub all_written : (bytes : List ℕ) (whole u p n : ℕ) → Bytes bytes → length bytes ≡ n → whole ≤ n → u < 8 → length (bits (take whole bytes) ++ bits_of u p) ≡ 8 * n → bytes ≡ bytes_of n (bits (take whole bytes) ++ bits_of u p)
unfolding bits_of
all_written bytes whole u p n b e l m f =
    let h = simp (length-append, length-bits, length-bits_of, length-take) at f in
    let z : u ≡ 0 = omega arith in
    let a : length bytes ≤ whole = omega arith in
    rw (z, append-nil, take_all, ← e) (sym (bytes_of_bits bytes b))
