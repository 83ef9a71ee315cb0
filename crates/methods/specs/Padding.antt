-- A list of amounts in an array of 64. Assumes nothing.
use Rattle.std.specs.Prelude.{◌≡◌, ℕ, zero, suc, ◌+◌, ◌-◌, ◌<◌, ◌≤◌, List, [], ◌∷◌, ◌++◌, length, take, set, replicate, sum, slice_index, slice_index_or, slice_set, refl}
use Rattle.std.proofs.Common.{sym, ap, ◌∙◌, append_assoc, arith}
use Rattle.std.proofs.lemmas.List.{length-append, length-replicate, length-take-le, set_at, take_more, take_all}
use Rattle.std.proofs.lemmas.List.Folds.{sum_by-replicate}
use Rattle.std.proofs.lemmas.List.Sums.{sum_by-append}
use Rattle.methods.specs.Asked.{padded}

-- the first n entries, and zero from there on
abbrev pub front : ℕ → List ℕ → List ℕ
front n xs = take n xs ++ replicate (64 - n) 0

-- one entry more
pub front_more : (n : ℕ) (xs : List ℕ) (a : ℕ) → n < length xs → n < 64 → a ≡ slice_index xs n → slice_set (front n xs) n a ≡ front (n + 1) xs
front_more n xs a h small e =
    let left : 64 - n ≡ suc (64 - (n + 1)) = omega arith in
    let long : length (take n xs) ≡ n = length-take-le n xs (omega arith) in
    ap (λ (k : ℕ). set (take n xs ++ replicate k 0) n a) left
    ∙ set_at (take n xs) 0 (replicate (64 - (n + 1)) 0) a n long
    ∙ ap (λ (x : ℕ). take n xs ++ x ∷ replicate (64 - (n + 1)) 0) e
    ∙ sym (append_assoc (take n xs) (slice_index xs n ∷ []) (replicate (64 - (n + 1)) 0))
    ∙ sym (ap (λ ys. ys ++ replicate (64 - (n + 1)) 0) (take_more xs n 0 h))

pub front_all : (n : ℕ) (xs : List ℕ) → length xs ≡ n → front n xs ≡ padded xs
unfolding padded
front_all n xs e = ap (λ ys. ys ++ replicate (64 - n) 0) (take_all n xs (omega arith)) ∙ ap (λ k. xs ++ replicate (64 - k) 0) (sym e)

zeros_at : (n k : ℕ) → slice_index_or {A = ℕ} (replicate n 0) k 0 ≡ 0
zeros_at zero k = refl
zeros_at (suc n) zero = refl
zeros_at (suc n) (suc k) = zeros_at n k

pub padded-length : (xs : List ℕ) → length xs ≤ 64 → length (padded xs) ≡ 64
unfolding padded
padded-length xs h = omega (arith, length-append xs (replicate (64 - length xs) 0), length-replicate {A = ℕ} (64 - length xs) 0)

pub padded-sum : (xs : List ℕ) → sum (padded xs) ≡ sum xs
unfolding padded
padded-sum xs = omega (arith, sum_by-append (λ (x : ℕ). x) xs (replicate (64 - length xs) 0), sum_by-replicate (λ (x : ℕ). x) (64 - length xs) 0)

append-zeros_at : (xs : List ℕ) (n k : ℕ) → slice_index (xs ++ replicate n 0) k ≡ slice_index xs k
append-zeros_at [] n k = zeros_at n k
append-zeros_at (x ∷ xs) n zero = refl
append-zeros_at (x ∷ xs) n (suc k) = append-zeros_at xs n k

-- each entry is the list's own, and zero past its end
pub padded_at : (xs : List ℕ) (k : ℕ) → slice_index (padded xs) k ≡ slice_index xs k
unfolding padded
padded_at xs k = append-zeros_at xs (64 - length xs) k
