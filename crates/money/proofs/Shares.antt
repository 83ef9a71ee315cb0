-- What the shares of an amount come to. Assumes nothing.
use Rattle.std.proofs.Common.{◌≡◌, ℕ, zero, suc, ◌+◌, ◌*◌, ◌/◌, ◌<◌, ◌≤◌, List, [], ◌∷◌, ◌++◌, length, get_or, take, drop, sum, refl, ◌∙◌, mul-le-mul_left, zero-add, div-mul-le_self, mul-div_cancel, arith}
use native.Mathlib.Nat.{div-zero}
use Rattle.std.proofs.lemmas.Nat.{le-div}
use Rattle.std.proofs.lemmas.Grind.{common_steps}
use Rattle.std.proofs.Math.Nat.{div-le_of_le-mul}
use Rattle.money.specs.Sharing.{share_of, shares_after, shares_of, Shared}

pub div_mono : (a b k : ℕ) → a ≤ b → a / k ≤ b / k
div_mono a b zero h = omega arith
div_mono a b (suc k) h = le-div (a / suc k) b (suc k) (omega arith) (omega (arith, div-mul-le_self a (suc k)))

module _ (amount total : ℕ) where
  -- what goes to the items before and to the item itself goes to both
  share_adds : (before weight : ℕ) → amount * before / total + share_of amount before weight total ≡ amount * (before + weight) / total
  share_adds before weight = omega (arith, div_mono (amount * before) (amount * (before + weight)) total (mul-le-mul_left amount (omega arith)))

  length-after : (before : ℕ) (ws : List ℕ) → length (shares_after amount total before ws) ≡ length ws
  length-after before [] = refl
  length-after before (w ∷ ws) = grind (arith, length-after (before + w) ws)

  sum_after : (before : ℕ) (ws : List ℕ) → amount * before / total + sum (shares_after amount total before ws) ≡ amount * (before + sum ws) / total
  sum_after before [] = grind arith
  sum_after before (w ∷ ws) = grind (arith, common_steps, share_adds before w, sum_after (before + w) ws)

  at_after : (before : ℕ) (ws : List ℕ) (j : ℕ) → get_or (shares_after amount total before ws) j 0 ≡ share_of amount (before + sum (take j ws)) (get_or ws j 0) total
  at_after before [] zero = grind arith
  at_after before [] (suc j) = grind arith
  at_after before (w ∷ ws) zero = grind arith
  at_after before (w ∷ ws) (suc j) = grind (arith, common_steps, at_after (before + w) ws j)

module _ (amount : ℕ) (ws : List ℕ) where
  sum_is : sum (shares_of amount ws) ≡ amount * sum ws / sum ws
  unfolding shares_of
  sum_is = grind (arith, sum_after amount (sum ws) 0 ws)

  whole : 0 < sum ws → sum (shares_of amount ws) ≡ amount
  whole h = sum_is ∙ mul-div_cancel amount h

  at_most : sum (shares_of amount ws) ≤ amount
  at_most = rw sum_is (div-le_of_le-mul (sum ws) (omega arith))

  pub each : (j : ℕ) → get_or (shares_of amount ws) j 0 ≡ share_of amount (sum (take j ws)) (get_or ws j 0) (sum ws)
  unfolding shares_of
  each j = grind (arith, at_after amount (sum ws) 0 ws j)

  as_many : length (shares_of amount ws) ≡ length ws
  unfolding shares_of
  as_many = length-after amount (sum ws) 0 ws

  pub shared : Shared amount ws (shares_of amount ws)
  shared = record {
    as_many = as_many;
    whole = whole;
    at_most = at_most;
    each = each;
    none = λ z j. each j ∙ rw z (omega (arith, div-zero (amount * (sum (take j ws) + get_or ws j 0)), div-zero (amount * sum (take j ws))));
  }

-- the loop in which each weight gives way to its share: the shares so far, and those of the weights still there
pub record Filled (amount : ℕ) (ws : List ℕ) (i before : ℕ) (places : List ℕ) : Type 0 where
  pub long : length places ≡ length ws
  pub left : before + sum (drop i places) ≡ sum ws
  pub due : take i places ++ shares_after amount (sum ws) before (drop i places) ≡ shares_of amount ws

pub filled_none : (amount : ℕ) (ws : List ℕ) → Filled amount ws 0 0 ws
unfolding shares_of
filled_none amount ws = record { long = refl; left = zero-add (sum ws); due = refl }
