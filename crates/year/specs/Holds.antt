-- What a year holds, and why a question about it is refused.
use Rattle.std.specs.Prelude.{ℕ, cond, length, Some, None, Option, ◌==◌, nat_lt}
use Rattle.agreement.specs.Data.{YearData}
use Rattle.bits.specs.declared.refusal.Refusal.{Refusal}
use Rattle.bits.specs.declared.refusal.Refusal.TheVariants.{EmptyYear, ArgumentOutOfRange}
use Rattle.year.specs.Contents.{data_of}
use Rattle.year.specs.declared.year.Year.{Year}

abbrev pub contents : Year → YearData
contents y = data_of y.held

-- 21: the year is the empty one
abbrev pub empty_refusal : YearData → Option Refusal
empty_refusal d = cond (length d.points == 0) (Some EmptyYear) None

-- 21, then 8: there is no such place among so many
abbrev pub place_refusal : YearData → ℕ → ℕ → Option Refusal
place_refusal d count place = cond (length d.points == 0) (Some EmptyYear) (cond (nat_lt place count) None (Some ArgumentOutOfRange))
