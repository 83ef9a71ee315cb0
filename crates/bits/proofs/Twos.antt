-- Signed numbers and their 64 bits stand for each other. Assumes nothing.
use Rattle.std.proofs.Common.{◌≡◌, ℕ, suc, ◌+◌, ◌-◌, ◌%◌, ◌^◌, ◌<◌, ◌≤◌, ◌⊎◌, ℤ, pos, negsuc, nat_abs, arith, pow_mono}
use Rattle.std.proofs.lemmas.Nat.{pow_pos, mod_below}
use Rattle.std.proofs.lemmas.Bool.Decides.{nat_tests}
use Rattle.bits.specs.Layout.{extended}
use Rattle.bits.specs.Signs.{twos, untwos}

pub untwos-twos : (limit : ℕ) (z : ℤ) → limit < 2 ^ 63 → nat_abs z ≤ limit → untwos (twos z) ≡ z
untwos-twos limit (pos n) m h = grind (arith, nat_tests)
untwos-twos limit (negsuc n) m h = let e : 2 ^ 64 - suc (2 ^ 64 - suc n) ≡ n = omega arith in grind (arith, nat_tests)

pub twos-untwos : (v : ℕ) → v < 2 ^ 64 → twos (untwos v) ≡ v
twos-untwos v h = grind (arith, nat_tests)

-- 64 bits in a signed range stand for a number in it
pub untwos_near : (limit v : ℕ) → limit < 2 ^ 63 → v < 2 ^ 64 → (v ≤ limit) ⊎ (2 ^ 64 ≤ v + limit) → nat_abs (untwos v) ≤ limit
untwos_near limit v m h a = grind (arith, nat_tests)

-- what a signed field holds has 64 bits
pub extended_lt : (w v : ℕ) → w ≤ 63 → extended w (v % 2 ^ w) ≡ v → v < 2 ^ 64
extended_lt w v h e =
    let p : 2 ^ w ≤ 2 ^ 63 = pow_mono h in
    let n = mod_below v (2 ^ w) (pow_pos w) in
    grind (arith, nat_tests)
