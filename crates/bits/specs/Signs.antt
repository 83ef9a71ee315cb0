-- Signed numbers as 64 bits in two's complement.
use Rattle.std.specs.Prelude.{ℕ, suc, ◌-◌, ◌^◌, cond, ℤ, pos, negsuc, nat_lt}

abbrev pub twos : ℤ → ℕ
twos (pos n) = n
twos (negsuc n) = 2 ^ 64 - suc n

abbrev pub untwos : ℕ → ℤ
untwos n = cond (nat_lt n (2 ^ 63)) (pos n) (negsuc (2 ^ 64 - suc n))
