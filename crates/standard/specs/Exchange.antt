-- The sum over points of sums over elements, exchanged: no more is allotted than the parts come to. Assumes nothing.
use Rattle.std.specs.Prelude.{◌≡◌, ℕ, zero, suc, ◌+◌, ◌<◌, ◌≤◌, cond, List, [], ◌∷◌, length, sum_by, sum, ◌==◌, slice_index, refl}
use Rattle.std.proofs.Common.{⊎_elim, arith}
use Rattle.std.specs.List.{range_with_len}
use Rattle.std.proofs.lemmas.List.FromFn.{length-map-range_with_len, get_or-map-range_with_len}
use Rattle.std.proofs.lemmas.List.Sums.{sum_by-cons, sum-map}
use Rattle.std.proofs.lemmas.Bool.{ne_eqb, cases_eq, eq-eqb, cond-true, cond-false}
use Rattle.money.specs.Sharing.{shares_of}
use Rattle.money.proofs.Shares.{shared}
use Rattle.records.specs.declared.network_use.NetworkUse.{NetworkUse}
use Rattle.standard.specs.Allotted.{demands, uses_of, at_point, of_part, of_parts, amounts_of}

sum_both : {X : Type 0} (f g : X → ℕ) (xs : List X) → sum_by (λ x. f x + g x) xs ≡ sum_by f xs + sum_by g xs
sum_both f g [] = refl
sum_both f g (x ∷ xs) = omega (arith, sum_by-cons (λ y. f y + g y) x xs, sum_by-cons f x xs, sum_by-cons g x xs, sum_both f g xs)

sum_none : {X : Type 0} (xs : List X) → sum_by (λ _. 0) xs ≡ 0
sum_none [] = refl
sum_none {X} (x ∷ xs) = omega (arith, sum_by-cons {X = X} (λ _. 0) x xs, sum_none xs)

-- a share of the point at place k, over n places from a on: it counts nowhere past k, and once at most
past : (k share a n : ℕ) → k < a → sum_by (λ p. cond (k == p) share 0) (range_with_len a n) ≡ 0
past k share a zero h = refl
past k share a (suc n) h =
    let none : cond (k == a) share 0 ≡ 0 = cond-false _ _ _ (ne_eqb k a (λ e. omega arith)) in
    omega (arith, sum_by-cons (λ p. cond (k == p) share 0) a (range_with_len (a + 1) n), past k share (a + 1) n (omega arith))

once : (k share a n : ℕ) → sum_by (λ p. cond (k == p) share 0) (range_with_len a n) ≤ share
once k share a zero = omega arith
once k share a (suc n) =
    let first = sum_by-cons (λ p. cond (k == p) share 0) a (range_with_len (a + 1) n) in
    ⊎_elim
    (λ e. omega (arith, cond-true (k == a) share 0 (eq-eqb k a e), past k share (a + 1) n (omega arith)))
    (λ e. omega (arith, cond-false (k == a) share 0 (ne_eqb k a e), once k share (a + 1) n))
    (cases_eq k a)

-- the points have no more than the shares come to
points_have : (us : List NetworkUse) (shares : List ℕ) (n : ℕ) → sum_by (λ p. at_point p us shares) (range_with_len 0 n) ≤ sum shares
points_have [] shares n = omega (arith, sum_none (range_with_len 0 n))
points_have (u ∷ us) [] n = omega (arith, sum_none (range_with_len 0 n))
points_have (u ∷ us) (x ∷ xs) n =
    omega (arith, sum_both (λ p. cond (u.point == p) x 0) (λ p. at_point p us xs) (range_with_len 0 n), once u.point x 0 n, points_have us xs n, sum_by-cons (λ (m : ℕ). m) x xs)

-- the points have no more than the parts come to
exchange : (uses : List NetworkUse) (e n : ℕ) (parts : List ℕ) → sum_by (λ p. of_parts uses p e parts) (range_with_len 0 n) ≤ sum parts
exchange uses e n [] = omega (arith, sum_none (range_with_len 0 n))
exchange uses e n (part ∷ parts) =
    let us = uses_of e uses in
    omega (
      arith,
      sum_both (λ p. of_part part p us) (λ p. of_parts uses p (e + 1) parts) (range_with_len 0 n),
      points_have us (shares_of part (demands us)) n,
      (shared part (demands us)).at_most,
      exchange uses (e + 1) n parts,
      sum_by-cons (λ (m : ℕ). m) part parts,
    )

module _ (points : ℕ) (uses : List NetworkUse) (parts : List ℕ) where
  pub amounts_sum : sum (amounts_of points uses parts) ≤ sum parts
  unfolding amounts_of
  amounts_sum = omega (arith, sum-map (λ p. of_parts uses p 0 parts) (range_with_len 0 points), exchange uses 0 points parts)

  pub amounts_length : length (amounts_of points uses parts) ≡ points
  unfolding amounts_of
  amounts_length = length-map-range_with_len (λ p. of_parts uses p 0 parts) 0 points

  pub amount_at : (p : ℕ) → p < points → slice_index (amounts_of points uses parts) p ≡ of_parts uses p 0 parts
  unfolding amounts_of
  amount_at p h = get_or-map-range_with_len (λ q. of_parts uses q 0 parts) 0 points p p 0 h (omega arith)

-- one point alone has no more than all
point_has : (p : ℕ) (us : List NetworkUse) (shares : List ℕ) → at_point p us shares ≤ sum shares
point_has p [] shares = omega arith
point_has p (u ∷ us) [] = omega arith
point_has p (u ∷ us) (x ∷ xs) =
    let more = sum_by-cons (λ (m : ℕ). m) x xs in
    ⊎_elim
    (λ e. omega (arith, cond-true (u.point == p) x 0 (eq-eqb u.point p e), point_has p us xs))
    (λ e. omega (arith, cond-false (u.point == p) x 0 (ne_eqb u.point p e), point_has p us xs))
    (cases_eq u.point p)

pub part_has : (part p : ℕ) (us : List NetworkUse) → of_part part p us ≤ part
part_has part p us = omega (arith, point_has p us (shares_of part (demands us)), (shared part (demands us)).at_most)

pub parts_have : (uses : List NetworkUse) (p e : ℕ) (parts : List ℕ) → of_parts uses p e parts ≤ sum parts
parts_have uses p e [] = omega arith
parts_have uses p e (part ∷ parts) =
    omega (arith, part_has part p (uses_of e uses), parts_have uses p (e + 1) parts, sum_by-cons (λ (m : ℕ). m) part parts)
