-- The number of each refusal.
use Rattle.std.specs.Prelude.{ℕ}
use Rattle.bits.specs.declared.refusal.Refusal.{Refusal}
use Rattle.bits.specs.declared.refusal.Refusal.TheVariants.{
  FileShort,
  TrailingBytes,
  FieldOutOfRange,
  IdentifierRepeated,
  UseMisplaced,
  TotalOverLimit,
  TotalZero,
  ArgumentOutOfRange,
  BufferShort,
  EmptyYear,
  NoYearOpen,
  YearOpen,
  RunOpen,
  NoMatchingRun,
  MonthIssued,
  YearNotLater,
  PointsChanged,
  MethodPointsDiffer,
  OutstandingOverLimit,
  PriceOverLimit,
}

abbrev pub number_of : Refusal → ℕ
number_of FileShort = 1
number_of TrailingBytes = 2
number_of FieldOutOfRange = 3
number_of IdentifierRepeated = 4
number_of UseMisplaced = 5
number_of TotalOverLimit = 6
number_of TotalZero = 7
number_of ArgumentOutOfRange = 8
number_of BufferShort = 9
number_of EmptyYear = 21
number_of NoYearOpen = 22
number_of YearOpen = 23
number_of RunOpen = 24
number_of NoMatchingRun = 25
number_of MonthIssued = 26
number_of YearNotLater = 27
number_of PointsChanged = 28
number_of MethodPointsDiffer = 29
number_of OutstandingOverLimit = 30
number_of PriceOverLimit = 31
