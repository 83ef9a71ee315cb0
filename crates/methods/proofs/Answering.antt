-- When a method answers, and what. Assumes nothing.
use Rattle.std.proofs.Common.{◌≡◌, ℕ, ◌<◌, ◌≤◌, List, length, get_or, Ok, arith}
use Rattle.std.specs.Result.{result_unwrap_or}
use Rattle.std.proofs.lemmas.Bool.Decides.{nat_tests}
use Rattle.std.proofs.lemmas.List.{get_or_past}
use Rattle.methods.specs.Asked.{asked, asked_all, padded}

-- within the ranges the answer is the entry
pub asked-within : (count pool place : ℕ) (xs : List ℕ) → pool ≤ 100000000000 → place < count → asked count pool place xs ≡ Ok (get_or xs place 0)
asked-within count pool place xs p q = grind (arith, nat_tests)

-- zero for each place past the last one
pub asked_or_zero : (count pool place : ℕ) (xs : List ℕ) → pool ≤ 100000000000 → length xs ≡ count → result_unwrap_or (asked count pool place xs) 0 ≡ get_or xs place 0
asked_or_zero count pool place xs p e = grind (arith, nat_tests, get_or_past)

pub all_within : (pool : ℕ) (xs : List ℕ) → pool ≤ 100000000000 → asked_all pool xs ≡ Ok (padded xs)
all_within pool xs p = grind (arith, nat_tests)

pub all_ok : (pool : ℕ) (xs ys : List ℕ) → Ok ys ≡ asked_all pool xs → (pool ≤ 100000000000) × (ys ≡ padded xs)
all_ok pool xs ys e = grind (arith, nat_tests)
