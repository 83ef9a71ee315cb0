-- A yearly charge in twelve monthly instalments.
use Rattle.std.specs.Prelude.{ℕ, ◌-◌, ◌*◌, ◌/◌, ◌≤◌, List, [], ◌∷◌}

-- a charge of at most 2,000,000,000,000 cents, and a month from 1 (July) to 12 (June)
abbrev pub Payable : ℕ → ℕ → Type 0
Payable charge month = (charge ≤ 2000000000000) × (1 ≤ month) × (month ≤ 12)

-- what is due by the end of the month, less what was due by the end of the month before
abbrev pub instalment_of : ℕ → ℕ → ℕ
instalment_of charge month = charge * month / 12 - charge * (month - 1) / 12

abbrev pub months : List ℕ
months = 1 ∷ 2 ∷ 3 ∷ 4 ∷ 5 ∷ 6 ∷ 7 ∷ 8 ∷ 9 ∷ 10 ∷ 11 ∷ 12 ∷ []
