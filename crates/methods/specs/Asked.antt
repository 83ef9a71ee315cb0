-- What a method answers, and when it refuses.
use Rattle.std.specs.Prelude.{ℕ, ◌-◌, Bool, cond, ◌&&◌, List, ◌++◌, length, replicate, Ok, Err, Result, nat_le, nat_lt, slice_index}
use Rattle.bits.specs.declared.refusal.Refusal.{Refusal}
use Rattle.bits.specs.declared.refusal.Refusal.TheVariants.{ArgumentOutOfRange}

-- whether a sum of money is at most 100,000,000,000 cents, and the place is one of so many
abbrev pub in_range : ℕ → ℕ → ℕ → Bool
in_range count money place = nat_le money 100000000000 && nat_lt place count

-- the entry at a place; 8 where the pool or the place is out of range
abbrev pub asked : ℕ → ℕ → ℕ → List ℕ → Result ℕ Refusal
asked count pool place entries = cond (in_range count pool place) (Ok (slice_index entries place)) (Err ArgumentOutOfRange)

-- 64 entries, zero past the end of the list
unfoldable pub padded : List ℕ → List ℕ
padded entries = entries ++ replicate (64 - length entries) 0

-- all entries; 8 where the pool is out of range
abbrev pub asked_all : ℕ → List ℕ → Result (List ℕ) Refusal
asked_all pool entries = cond (nat_le pool 100000000000) (Ok (padded entries)) (Err ArgumentOutOfRange)
