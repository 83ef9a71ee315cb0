-- What twelve instalments come to. Assumes nothing.
use Rattle.std.proofs.Common.{◌≡◌, ℕ, zero, suc, ◌+◌, ◌-◌, ◌*◌, ◌/◌, ◌≤◌, sum_by, mul-suc, arith}
use Rattle.money.specs.Instalments.{instalment_of, months}

-- what was due before is part of what is due now
pub due_more : (charge month : ℕ) → charge * (month - 1) / 12 ≤ charge * month / 12
due_more charge zero = omega arith
due_more charge (suc m) = grind (arith, mul-suc)

-- lines that make up the difference from month to month add up to what is due at the end
telescopes : (line due : ℕ → ℕ) (charge : ℕ) → ((m : ℕ) → due m + line (suc m) ≡ due (suc m)) → due 0 ≡ 0 → due 12 ≡ charge → sum_by line months ≡ charge
telescopes line due charge step first last =
    omega (arith, step 0, step 1, step 2, step 3, step 4, step 5, step 6, step 7, step 8, step 9, step 10, step 11)

pub twelve : (charge : ℕ) → sum_by (instalment_of charge) months ≡ charge
twelve charge = telescopes (instalment_of charge) (λ m. charge * m / 12) charge step (omega arith) (omega arith)
  where
    step : (m : ℕ) → charge * m / 12 + instalment_of charge (suc m) ≡ charge * suc m / 12
    step m = grind (arith, due_more charge (suc m))

pub even : (charge month : ℕ) → instalment_of charge month ≤ charge / 12 + 1
even charge zero = omega arith
even charge (suc m) = grind (arith, mul-suc)
