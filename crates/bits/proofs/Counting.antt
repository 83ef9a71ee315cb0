-- What the faults of a length say. Assumes nothing.
use Rattle.std.proofs.Common.{◌≡◌, ℕ, ◌<◌, ◌≤◌, Some, None, arith}
use Rattle.std.proofs.lemmas.Bool.Decides.{nat_tests}
use Rattle.bits.specs.Faults.{short_fault, short_of, wrong_length}
use Rattle.bits.specs.declared.fault.Fault.{Fault}

pub short_told : (size count : ℕ) (f : Fault) → Some f ≡ short_of size count → (count < size) × (f ≡ short_fault)
short_told size count f e = (grind (arith, nat_tests), grind (arith, nat_tests))

pub not_short : (size count : ℕ) → None ≡ short_of size count → size ≤ count
not_short size count e = grind (arith, nat_tests)

pub right_length : (size count : ℕ) → None ≡ wrong_length size count → count ≡ size
right_length size count e = grind (arith, nat_tests)

pub length-told : (size count : ℕ) (f : Fault) → Some f ≡ wrong_length size count → count ≡ size → ⊥
length-told size count f e same = grind (arith, nat_tests)
