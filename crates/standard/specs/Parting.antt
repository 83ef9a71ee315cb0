-- The parts of a pool, one by one. Assumes nothing.
use Rattle.std.specs.Prelude.{◌≡◌, ℕ, ◌<◌, ◌≤◌, List, length, get_or, take, sum, slice_index, slice_index_or}
use Rattle.std.proofs.Common.{sym, ◌∙◌, arith}
use Rattle.std.proofs.Math.Path.{ap}
use Rattle.std.proofs.lemmas.List.{take-map, get_or-map, length-map}
use Rattle.std.proofs.lemmas.List.Sums.{get_or-le-sum_by}
use Rattle.agreement.specs.Together.{no_element}
use Rattle.money.specs.Sharing.{share_of, shares_of}
use Rattle.money.proofs.Shares.{shared, each}
use Rattle.records.specs.declared.element.Element.{Element}
use Rattle.standard.specs.Allotted.{costs, parts_of}
use Rattle.standard.specs.Reduced.{unreduced}
use Rattle.standard.specs.Reducing.{reduced_length, reduced_sum, reduced_at, unreduced_is}

-- as many shares of the pool as elements
shares_length : (es : List Element) (pool : ℕ) → length (shares_of pool (costs es)) ≡ length es
shares_length es pool = (shared pool (costs es)).as_many ∙ length-map es (λ (e : Element). e.cost)

module _ (rule : ℕ → Element → ℕ) (es : List Element) (pool : ℕ) where
  pub parts-length : length (parts_of rule es pool) ≡ length es
  unfolding parts_of
  parts-length = reduced_length rule (shares_of pool (costs es)) es (shares_length es pool)

  -- each part is the reduced share of its element
  pub part_at : (i : ℕ) → i < length es → slice_index (parts_of rule es pool) i ≡ rule (share_of pool (sum (costs (take i es))) (get_or es i no_element).cost (sum (costs es))) (slice_index_or es i no_element)
  unfolding parts_of
  part_at i h =
      let f : Element → ℕ = λ e. e.cost in
      let share : get_or (shares_of pool (costs es)) i 0 ≡ share_of pool (sum (costs (take i es))) (get_or es i no_element).cost (sum (costs es)) =
      each pool (costs es) i
      ∙ ap (λ ys. share_of pool (sum ys) (slice_index (costs es) i) (sum (costs es))) (take-map f i es)
      ∙ ap (λ n. share_of pool (sum (costs (take i es))) n (sum (costs es))) (get_or-map f es i no_element 0 h) in
      reduced_at rule (shares_of pool (costs es)) es no_element i (omega (arith, shares_length es pool)) h
      ∙ ap (λ n. rule n (slice_index_or es i no_element)) share

  -- a part that is reckoned from running totals
  pub part_is : (i before total part : ℕ) → i < length es → before ≡ sum (costs (take i es)) → total ≡ sum (costs es)
      → part ≡ rule (share_of pool before (get_or es i no_element).cost total) (slice_index_or es i no_element) → part ≡ slice_index (parts_of rule es pool) i
  part_is i before total part h b t p =
      let e = get_or es i no_element in
      p ∙ ap (λ n. rule (share_of pool n e.cost total) e) b
      ∙ ap (λ n. rule (share_of pool (sum (costs (take i es))) e.cost n) e) t
      ∙ sym (part_at i h)

  module _ (less : (part : ℕ) (e : Element) → rule part e ≤ part) where
    -- all parts together are at most the pool, and so is each
    pub parts-sum : sum (parts_of rule es pool) ≤ pool
    unfolding parts_of
    parts-sum = omega (arith, reduced_sum rule less (shares_of pool (costs es)) es, (shared pool (costs es)).at_most)

    pub part_le : (i : ℕ) → i < length es → slice_index (parts_of rule es pool) i ≤ pool
    part_le i h = omega (arith, get_or-le-sum_by (λ (n : ℕ). n) (parts_of rule es pool) i 0 (omega (arith, parts-length)), parts-sum)

pub unreduced-parts : (es : List Element) (pool : ℕ) → parts_of unreduced es pool ≡ shares_of pool (costs es)
unfolding parts_of
unreduced-parts es pool = unreduced_is (shares_of pool (costs es)) es (shares_length es pool)
