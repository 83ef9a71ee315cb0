-- The lengths of months in a regulatory year, from July of one calendar year to June of the next.
use Rattle.std.specs.Prelude.{ℕ, ◌+◌, ◌-◌, ◌%◌, Bool, cond, not, ◌&&◌, ◌||◌, [], ◌∷◌, ◌==◌, slice_index}

-- whether a calendar year is an n-th year: a fourth, a hundredth, a four hundredth
abbrev pub every : ℕ → ℕ → Bool
every n year = year % n == 0

-- every fourth year is a leap year; of the hundredth years, only every four hundredth is one
abbrev pub leap : ℕ → Bool
leap year = every 4 year && (not (every 100 year) || every 400 year)

abbrev pub days_in_february : ℕ → ℕ
days_in_february year = cond (leap year) 29 28

-- the days of month 1 (July) to 12 (June) of the year that begins in July of `year`
abbrev pub days_in : ℕ → ℕ → ℕ
days_in year month =
    slice_index (31 ∷ 31 ∷ 30 ∷ 31 ∷ 30 ∷ 31 ∷ 31 ∷ days_in_february (year + 1) ∷ 31 ∷ 30 ∷ 31 ∷ 30 ∷ []) (month - 1)
