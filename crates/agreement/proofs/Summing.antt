-- Totals of figures that fit 32 bits. Assumes nothing.
use Rattle.std.proofs.Common.{ℕ, ◌*◌, ◌≤◌, min, List, length, sum_by, arith}
use Rattle.std.proofs.lemmas.List.Sums.{sum_by-le}

pub small_total : {X : Type 0} (f : X → ℕ) (xs : List X) → sum_by (λ x. min (f x) 4294967295) xs ≤ length xs * 4294967295
small_total f xs = sum_by-le (λ x. min (f x) 4294967295) 4294967295 xs (λ k d h. omega arith)
