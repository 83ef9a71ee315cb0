-- A year's file laid into a buffer part by part. Assumes nothing.
use Rattle.std.proofs.Common.{◌≡◌, ℕ, ◌+◌, ◌<◌, ◌≤◌, List, ◌++◌, length, Some, None, zero-add, arith, rules, length-append}
use Rattle.std.specs.List.{flat_map}
use Rattle.std.proofs.lemmas.Bool.Decides.{nat_tests}
use Rattle.agreement.specs.Data.{YearData}
use Rattle.bits.specs.Laid.{over}
use Rattle.bits.specs.declared.refusal.Refusal.TheVariants.{BufferShort}
use Rattle.records.specs.Elements.{element_bytes}
use Rattle.records.specs.Headers.{header_bytes}
use Rattle.records.specs.Points.{point_bytes}
use Rattle.records.specs.Uses.{use_bytes}
use Rattle.year.proofs.Rounds.{length-body, length-head}
use Rattle.year.specs.Holds.{contents}
use Rattle.year.specs.YearBytes.{year_bytes, write_refusal, Sound}
use Rattle.year.specs.declared.filled.FilledYear.{FilledYear}
use Rattle.yearfile.specs.File.{announced}
use Rattle.yearfile.specs.Bytes.{laid_at}
use Rattle.yearfile.proofs.Laying.{laid_more}

-- a checked year with a point is sound
pub sound_of : (y : FilledYear) → Sound (contents y.year.now)
sound_of filled = let y = filled.year.now in let some = filled.pointed in search rules

module _ (d : YearData) (so : Sound d) where
  length_file : length (year_bytes d) ≡ 27 + announced d.header
  length_file = simp length-append (omega (arith, length-head d so, simp length-append at (length-body d so)))

  -- the buffer is too short, or has room for each part of the file
  pub short : (room : ℕ) → room < 27 + announced d.header → Some BufferShort ≡ write_refusal d room
  short room h = let some = so.some in grind (arith, nat_tests, length_file)

  pub fits : (room : ℕ) → 27 + announced d.header ≤ room → None ≡ write_refusal d room
  fits room h = let some = so.some in grind (arith, nat_tests, length_file)

  pub rooms : (room : ℕ) → 27 + announced d.header ≤ room
      → length (header_bytes d.header) + (length (flat_map point_bytes d.points) + (length (flat_map element_bytes d.elements) + length (flat_map use_bytes d.uses))) ≤ room
  rooms room h = omega (arith, simp length-append at length_file)

-- bytes laid after bytes
after : (n m : ℕ) (a b x y z : List ℕ) → n ≤ length x → y ≡ laid_at n a x → m ≡ n + length a → z ≡ laid_at m b y → z ≡ laid_at n (a ++ b) x
after n m a b x y z l p q r = rw (r, q, p) (laid_more n a b x l)

pub sent : (h p e u x b₁ b₂ b₃ b₄ : List ℕ) (n₁ n₂ n₃ n₄ : ℕ)
    → length b₁ ≡ length x → length b₂ ≡ length x → length h + (length p + (length e + length u)) ≤ length x
    → b₁ ≡ laid_at 0 h x → n₁ ≡ 0 + length h
    → b₂ ≡ laid_at n₁ p b₁ → n₂ ≡ n₁ + length p
    → b₃ ≡ laid_at n₂ e b₂ → n₃ ≡ n₂ + length e
    → b₄ ≡ laid_at n₃ u b₃ → n₄ ≡ n₃ + length u
    → (n₄ ≡ length (h ++ (p ++ (e ++ u)))) × (b₄ ≡ over (h ++ (p ++ (e ++ u))) x)
sent h p e u x b₁ b₂ b₃ b₄ n₁ n₂ n₃ n₄ l₁ l₂ room h₁ k₁ h₂ k₂ h₃ k₃ h₄ k₄ =
    let s₃ = after n₂ n₃ e u b₂ b₃ b₄ (omega arith) h₃ k₃ h₄ in
    let s₂ = after n₁ n₂ p (e ++ u) b₁ b₂ b₄ (omega arith) h₂ k₂ s₃ in
    let s₁ = after 0 n₁ h (p ++ (e ++ u)) x b₁ b₄ (omega arith) h₁ k₁ s₂ in
    (simp length-append (omega arith), rw zero-add at s₁)
