-- What a point has of a part, as the sum over the portions of its uses. Assumes nothing.
use Rattle.std.proofs.Common.{◌≡◌, ℕ, suc, ◌+◌, ◌*◌, ◌/◌, ◌≤◌, Bool, cond, eqb, List, [], ◌∷◌, filter, sum, sum_by, refl, mul_comm, mul-le-mul_left, arith}
use Rattle.std.specs.Prelude.{◌≢◌}
use Rattle.std.specs.List.{All}
use Rattle.std.proofs.Math.Nat.{div-le_of_le-mul}
use Rattle.std.proofs.lemmas.Bool.Decides.{nat_tests}
use Rattle.std.proofs.lemmas.List.Sums.{sum_by-cons}
use Rattle.money.specs.Sharing.{share_of, shares_after, shares_of}
use Rattle.records.specs.declared.network_use.NetworkUse.{NetworkUse}
use Rattle.standard.specs.Allotted.{demands, at_point, of_part}
use Rattle.standard.specs.Portions.{Portioned, portions}

-- a share is no more than what is shared
pub share_le : (amount before weight total : ℕ) → before + weight ≤ total → share_of amount before weight total ≤ amount
share_le amount before weight total h =
    let most : amount * (before + weight) / total ≤ amount = div-le_of_le-mul total (omega (arith, mul-le-mul_left amount h, mul_comm amount total)) in
    omega arith

abbrev pub by_point : ℕ → Portioned NetworkUse → Bool
by_point p q = eqb q.item.point p

abbrev pub its_share : ℕ → Portioned NetworkUse → ℕ
its_share part q = share_of part q.before q.item.demand q.total

-- what a point has of uses by their portions
abbrev pub has : ℕ → ℕ → List (Portioned NetworkUse) → ℕ
has part p qs = sum_by (its_share part) (filter (by_point p) qs)

pub has_more : (part p : ℕ) (q : Portioned NetworkUse) (qs : List (Portioned NetworkUse)) → has part p (q ∷ qs) ≡ cond (by_point p q) (its_share part q) 0 + has part p qs
has_more part p q qs = grind (arith, nat_tests, sum_by-cons (its_share part) q (filter (by_point p) qs))

module _ (part p : ℕ) where
  after : (total before : ℕ) (us : List NetworkUse) → has part p (portions (λ (u : NetworkUse). u.demand) total before us) ≡ at_point p us (shares_after part total before (demands us))
  after total before [] = refl
  after total before (u ∷ us) = omega (arith, has_more part p (record { item = u; before = before; total = total }) (portions (λ (v : NetworkUse). v.demand) total (before + u.demand) us), after total (before + u.demand) us)

  pub own_shares : (us : List NetworkUse) → has part p (portions (λ (u : NetworkUse). u.demand) (sum (demands us)) 0 us) ≡ of_part part p us
  unfolding shares_of
  own_shares us = after (sum (demands us)) 0 us

  -- a point that uses nothing has nothing
  unused : (us : List NetworkUse) (shares : List ℕ) → All (λ (u : NetworkUse). u.point ≢ p) us → at_point p us shares ≡ 0
  unused [] shares none = refl
  unused (u ∷ us) [] none = refl
  unused (u ∷ us) (x ∷ xs) none = grind (arith, nat_tests, none 0 u (omega arith), unused us xs (λ k d h. none (suc k) d (omega arith)))

  pub part_unused : (us : List NetworkUse) → All (λ (u : NetworkUse). u.point ≢ p) us → of_part part p us ≡ 0
  part_unused us none = unused us (shares_of part (demands us)) none
