-- A part that is added to the amounts of all points, use by use. Assumes nothing.
use Rattle.std.proofs.Common.{◌≡◌, ℕ, zero, suc, ◌+◌, ◌<◌, ◌≤◌, List, [], ◌∷◌, length, get_or, set, sum, sym, ap, subst, le_of_suc-le-suc, not-suc-le-zero, arith, length-set}
use Rattle.std.specs.List.{All}
use Rattle.std.proofs.lemmas.Bool.Decides.{nat_tests}
use Rattle.std.proofs.lemmas.Grind.{common_steps}
use Rattle.records.specs.declared.network_use.NetworkUse.{NetworkUse}
use Rattle.standard.specs.Allotted.{demands, of_part}
use Rattle.standard.specs.Exchange.{part_has}
use Rattle.standard.specs.Order.{Placed}
use Rattle.standard.specs.Portions.{Portioned, portions}
use Rattle.standard.proofs.Portioning.{its_share, has, has_more, own_shares}

-- the amounts so far, and the portions of the uses to come
pub record Added (entry : List ℕ) (part : ℕ) (us : List NetworkUse) (amounts : List ℕ) (rest : List (Portioned NetworkUse)) : Type 0 where
  pub long : length amounts ≡ 64
  pub placed : All (λ q. q.item.point < 64) rest
  pub each : (p : ℕ) → p < 64 → get_or amounts p 0 + has part p rest ≡ get_or entry p 0 + of_part part p us

portions-placed : (total before : ℕ) (us : List NetworkUse) → Placed 64 us → All (λ (q : Portioned NetworkUse). q.item.point < 64) (portions (λ (u : NetworkUse). u.demand) total before us)
portions-placed total before [] so k d h = absurd (not-suc-le-zero h)
portions-placed total before (u ∷ us) so zero d h = so 0 u (omega arith)
portions-placed total before (u ∷ us) so (suc k) d h = portions-placed total (before + u.demand) us (λ j v g. so (suc j) v (omega arith)) k d (le_of_suc-le-suc h)

pub added_none : (entry : List ℕ) (part : ℕ) (us : List NetworkUse) (rest : List (Portioned NetworkUse)) → length entry ≡ 64 → Placed 64 us
    → rest ≡ portions (λ (u : NetworkUse). u.demand) (sum (demands us)) 0 us → Added entry part us entry rest
added_none entry part us rest long so e = record {
  long = long;
  placed = subst (All (λ q. q.item.point < 64)) (sym e) (portions-placed (sum (demands us)) 0 us so);
  each = λ p h. omega (arith, ap (has part p) e, own_shares part p us);
}

module _ (entry : List ℕ) (part : ℕ) (us : List NetworkUse) (amounts : List ℕ) (rest : List (Portioned NetworkUse)) (so : Added entry part us amounts rest) where
  pub added_all : rest ≡ [] → (p : ℕ) → p < 64 → get_or amounts p 0 ≡ get_or entry p 0 + of_part part p us
  added_all e p h = omega (arith, so.each p h, ap (has part p) e)

  module _ (q : Portioned NetworkUse) (qs : List (Portioned NetworkUse)) (e : rest ≡ q ∷ qs) where
    all_placed : All (λ (x : Portioned NetworkUse). x.item.point < 64) (q ∷ qs)
    all_placed = subst (All (λ x. x.item.point < 64)) e so.placed

    pub inside : q.item.point < 64
    inside = all_placed 0 q (omega arith)

    -- the amount with the share is no more than the amount with the whole part
    pub share_fits : get_or amounts q.item.point 0 + its_share part q ≤ get_or entry q.item.point 0 + part
    share_fits = grind (arith, nat_tests, so.each q.item.point inside, ap (has part q.item.point) e, has_more part q.item.point q qs, part_has part q.item.point us)

    added_more : Added entry part us (set amounts q.item.point (get_or amounts q.item.point 0 + its_share part q)) qs
    added_more =
        let point = q.item.point in
        let sums = get_or amounts point 0 + its_share part q in
        let room : point < length amounts = omega (arith, so.long, inside) in
        record {
          long = simp length-set so.long;
          placed = λ k d h. all_placed (suc k) d (omega arith);
          each = λ p h. grind (arith, nat_tests, common_steps, so.each p h, ap (has part p) e, has_more part p q qs);
        }

    -- at a place and a share that were reckoned
    pub added_at : (place share : ℕ) → place ≡ q.item.point → share ≡ its_share part q → Added entry part us (set amounts place (get_or amounts place 0 + share)) qs
    added_at place share a b =
        subst (λ (i : ℕ). Added entry part us (set amounts i (get_or amounts i 0 + share)) qs) (sym a)
        (subst (λ (n : ℕ). Added entry part us (set amounts q.item.point (get_or amounts q.item.point 0 + n)) qs) (sym b) added_more)
