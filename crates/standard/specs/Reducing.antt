-- What reduced parts come to. Assumes nothing.
use Rattle.std.specs.Prelude.{◌≡◌, ℕ, zero, suc, ◌*◌, ◌/◌, ◌<◌, ◌≤◌, List, [], ◌∷◌, length, sum, nat_lt, slice_index, slice_index_or, refl}
use Rattle.std.proofs.Common.{ap, mul_comm, mul-le-mul_left, le_of_suc-le-suc, not-suc-le-zero, arith}
use Rattle.std.proofs.Math.Nat.{div-le_of_le-mul}
use Rattle.std.proofs.lemmas.List.Sums.{sum_by-cons}
use Rattle.std.proofs.lemmas.Bool.{cond_both, ltb-true}
use Rattle.records.specs.declared.element.Element.{Element}
use Rattle.standard.specs.Reduced.{reduced_by, unreduced, by_peak}

-- a quotient of a part by a larger rating is no more than the part
pub peak_le : (part peak rating : ℕ) → peak < rating → part * peak / rating ≤ part
peak_le part peak rating h =
    let low : peak ≤ rating = omega arith in
    div-le_of_le-mul rating (omega (arith, mul-le-mul_left part low, mul_comm part rating))

pub by_peak-le : (part : ℕ) (e : Element) → by_peak part e ≤ part
by_peak-le part e =
    cond_both (nat_lt e.peak e.rating) _ _ (λ n. n ≤ part)
    (λ t. peak_le part e.peak e.rating (ltb-true e.peak e.rating t))
    (λ _. omega arith)

module _ (rule : ℕ → Element → ℕ) where
  pub reduced_length : (parts : List ℕ) (es : List Element) → length parts ≡ length es → length (reduced_by rule parts es) ≡ length es
  reduced_length [] es h = h
  reduced_length (x ∷ xs) [] h = absurd (omega arith)
  reduced_length (x ∷ xs) (e ∷ es) h = ap suc (reduced_length xs es (omega arith))

  pub reduced_sum : ((part : ℕ) (e : Element) → rule part e ≤ part) → (parts : List ℕ) (es : List Element) → sum (reduced_by rule parts es) ≤ sum parts
  reduced_sum less [] es = omega arith
  reduced_sum less (x ∷ xs) [] = omega arith
  reduced_sum less (x ∷ xs) (e ∷ es) =
      omega (arith, less x e, reduced_sum less xs es, sum_by-cons (λ (n : ℕ). n) x xs, sum_by-cons (λ (n : ℕ). n) (rule x e) (reduced_by rule xs es))

  pub reduced_at : (parts : List ℕ) (es : List Element) (d : Element) (k : ℕ) → k < length parts → k < length es → slice_index (reduced_by rule parts es) k ≡ rule (slice_index parts k) (slice_index_or es k d)
  reduced_at [] es d k h i = absurd (not-suc-le-zero h)
  reduced_at (x ∷ xs) [] d k h i = absurd (not-suc-le-zero i)
  reduced_at (x ∷ xs) (e ∷ es) d zero h i = refl
  reduced_at (x ∷ xs) (e ∷ es) d (suc k) h i = reduced_at xs es d k (le_of_suc-le-suc h) (le_of_suc-le-suc i)

-- parts that are not reduced are the parts
pub unreduced_is : (parts : List ℕ) (es : List Element) → length parts ≡ length es → reduced_by unreduced parts es ≡ parts
unreduced_is [] es h = refl
unreduced_is (x ∷ xs) [] h = absurd (omega arith)
unreduced_is (x ∷ xs) (e ∷ es) h = ap (λ ys. x ∷ ys) (unreduced_is xs es (omega arith))
