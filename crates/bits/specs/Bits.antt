-- Numbers and bytes as lists of bits, the most significant first.
use Rattle.std.specs.Prelude.{ℕ, zero, suc, ◌+◌, ◌*◌, ◌/◌, ◌%◌, ◌^◌, List, [], ◌∷◌, ◌++◌, length, take, drop}

-- the lowest `width` bits of a number
unfoldable pub bits_of : ℕ → ℕ → List ℕ
bits_of zero value = []
bits_of (suc width) value = (value / 2 ^ width % 2) ∷ bits_of width value

-- the number that bits stand for
unfoldable pub number : List ℕ → ℕ
number [] = 0
number (b ∷ bs) = b * 2 ^ length bs + number bs

-- the bits of bytes, eight of each
unfoldable pub bits : List ℕ → List ℕ
bits [] = []
bits (x ∷ xs) = bits_of 8 x ++ bits xs

-- the first n bytes that bits make up
unfoldable pub bytes_of : ℕ → List ℕ → List ℕ
bytes_of zero bs = []
bytes_of (suc n) bs = number (take 8 bs) ∷ bytes_of n (drop 8 bs)
