use Rattle.std.proofs.Common.{◌≡◌, MatchOption, slice_get, cond, ltb, length, rules}
use Rattle.agreement.specs.Together.{no_point}
use Rattle.methods.proofs.Filled.{made_by}
use Rattle.year.specs.Holds.{contents}
use Rattle.pricing.proofs.Filling.{placed}
use Rattle.pricing.proofs.places.by_place.Goals as goal

pub returns : goal.returns
returns g c f one =
    let ps = (contents c.args.year.now.year.now).points in
    made_by _ (λ k. cond (ltb k (length ps)) (f k) c.args.none) _ _ 64 c.args.none
    (λ k r q h e.
    let told : MatchOption (slice_get ps k) (r ≡ c.args.none) (λ p. goal.F-post g c.args.told k p r) = search rules in
    (placed ps no_point k f c.args.none r (λ p r. goal.F-post g c.args.told k p r) told (λ x is s. one k x r is s), search rules))
    c.from_fn.ensures.items
