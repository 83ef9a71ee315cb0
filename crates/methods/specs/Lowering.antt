-- What lowering does to a list of amounts. Assumes nothing.
use Rattle.std.specs.Prelude.{◌≡◌, ℕ, zero, suc, ◌-◌, ◌<◌, ◌≤◌, List, [], ◌∷◌, length, sum, slice_index, refl}
use Rattle.std.proofs.Common.{ap, arith}
use Rattle.std.proofs.lemmas.List.{ext_get_or}
use Rattle.std.proofs.lemmas.List.Sums.{sum_by-cons}
use Rattle.methods.specs.Asked.{padded}
use Rattle.methods.specs.Lowered.{lowered}
use Rattle.methods.specs.Padding.{padded_at, padded-length}

pub lowered-length : (xs fs : List ℕ) → length (lowered xs fs) ≡ length xs
lowered-length [] fs = refl
lowered-length (a ∷ xs) [] = refl
lowered-length (a ∷ xs) (f ∷ fs) = ap suc (lowered-length xs fs)

pub lowered_at : (xs fs : List ℕ) (k : ℕ) → slice_index (lowered xs fs) k ≡ slice_index xs k - slice_index fs k
lowered_at [] fs k = omega arith
lowered_at (a ∷ xs) [] k = omega arith
lowered_at (a ∷ xs) (f ∷ fs) zero = refl
lowered_at (a ∷ xs) (f ∷ fs) (suc k) = lowered_at xs fs k

pub lowered-sum : (xs fs : List ℕ) → sum (lowered xs fs) ≤ sum xs
lowered-sum [] fs = omega arith
lowered-sum (a ∷ xs) [] = omega arith
lowered-sum (a ∷ xs) (f ∷ fs) =
    omega (arith, sum_by-cons (λ (x : ℕ). x) (a - f) (lowered xs fs), sum_by-cons (λ (x : ℕ). x) a xs, lowered-sum xs fs)

-- an array whose entries are lowered one by one holds the lowered amounts
pub lowered_all : (xs fs ys : List ℕ) → length xs ≤ 64 → length ys ≡ 64 → ((k : ℕ) → k < 64 → slice_index ys k ≡ slice_index (padded xs) k - slice_index fs k) → ys ≡ padded (lowered xs fs)
lowered_all xs fs ys few long each =
    let same = lowered-length xs fs in
    let wide : length (padded (lowered xs fs)) ≡ 64 = padded-length (lowered xs fs) (omega arith) in
    ext_get_or 0 ys (padded (lowered xs fs)) (omega arith) (λ k h.
    omega (arith, each k (omega arith), padded_at xs k, padded_at (lowered xs fs) k, lowered_at xs fs k))
