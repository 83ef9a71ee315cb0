-- Records that keep the limits have no fault together. Assumes nothing.
use Rattle.std.proofs.Common.{◌≡◌, ℕ, zero, suc, ◌+◌, ◌-◌, ◌<◌, true, not, ◌||◌, eqb, ltb, List, length, get_or, take, None, sym, refl, arith}
use Rattle.std.proofs.lemmas.List.{get_or-take, length-take-le}
use Rattle.std.proofs.lemmas.List.Elements.{All-from_get_or}
use Rattle.std.proofs.lemmas.List.Sums.{list_all-from_AllPass}
use Rattle.std.proofs.lemmas.Bool.Decides.{nat_tests}
use Rattle.bits.specs.Faults.{year_fault}
use Rattle.bits.specs.declared.refusal.Refusal.TheVariants.{IdentifierRepeated, UseMisplaced}
use Rattle.records.specs.declared.network_use.NetworkUse.{NetworkUse}
use Rattle.records.specs.declared.point.Point.{Point}
use Rattle.agreement.specs.Agreement.{together_fault}
use Rattle.agreement.specs.Data.{YearData}
use Rattle.agreement.specs.Limits.{Distinct, Named, Rising}
use Rattle.agreement.specs.Together.{free, no_point, no_use, rank, repeated_fault, placed_at, misplaced_fault}
use Rattle.agreement.proofs.Firsts.{none_failing}
use Rattle.agreement.proofs.Keeping.{Kept}
use Rattle.agreement.proofs.Uses.{none_overused}

none_repeated : (ps : List Point) → Distinct ps → repeated_fault ps ≡ None
none_repeated ps h =
    sym (none_failing (length ps) (λ k. free (get_or ps k no_point).identifier (take k ps)) (λ k. year_fault IdentifierRepeated (k + 1))
    (λ k l.
    let t : length (take k ps) ≡ k = length-take-le k ps (omega arith) in
    list_all-from_AllPass (λ (p : Point). not (eqb p.identifier (get_or ps k no_point).identifier)) (take k ps)
    (All-from_get_or (λ (p : Point). not (eqb p.identifier (get_or ps k no_point).identifier) ≡ true) (take k ps) no_point
    (λ i m. let differ = h i k (omega arith) l in let g = get_or-take k ps i no_point (omega arith) in grind (arith, nat_tests)))))

rises : (us : List NetworkUse) (k : ℕ) → Rising us → k < length us → (eqb k 0 || ltb (rank (get_or us (k - 1) no_use)) (rank (get_or us k no_use))) ≡ true
rises us zero h l = refl
rises us (suc k) h l = let s : suc k - 1 ≡ k = omega arith in let r = h k (omega arith) in rw s (grind (arith, nat_tests))

none_misplaced : (d : YearData) → Named d → Rising d.uses → misplaced_fault (length d.points) (length d.elements) d.uses ≡ None
none_misplaced d h r =
    sym (none_failing (length d.uses) (placed_at (length d.points) (length d.elements) d.uses) (λ k. year_fault UseMisplaced (length d.points + length d.elements + k + 1))
    (λ k l. let n = h k l in let up = rises d.uses k r l in grind (arith, nat_tests)))

pub sound : (d : YearData) → 0 < length d.points → Kept d → together_fault d ≡ None
sound d some k =
    let a = none_repeated d.points k.distinct in
    let b = none_misplaced d k.named k.rising in
    let u = none_overused (length d.elements) d.uses k.used in
    let p = k.priced some in
    grind (arith, nat_tests)
