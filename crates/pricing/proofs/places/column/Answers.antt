use Rattle.std.proofs.Common.{◌≡◌, ℕ, MatchOption, slice_get, map, length, get_or, refl, sym, ap, ◌∙◌, rules}
use Rattle.std.proofs.lemmas.List.{length-map}
use Rattle.std.proofs.lemmas.List.FromFn.{fill_by_all}
use Rattle.methods.specs.Asked.{padded}
use Rattle.year.specs.Holds.{contents}
use Rattle.pricing.proofs.Filling.{told_at, numbers_placed}
use Rattle.pricing.proofs.places.column.Goals as goal

pub returns : goal.returns
returns g c f one =
    let y = c.args.year.now.year.now in
    let ps = (contents y).points in
    let h : ℕ → ℕ = λ k. get_or (map f ps) k 0 in
    c.by_place.ensures h (λ k p r is s.
    let told : MatchOption (slice_get ps k) (r ≡ 0) (λ p. goal.F-post g c.args.figure p r) = search rules in
    told_at (goal.F-post g c.args.figure) f one ps k r told)
    ∙ numbers_placed (length ps) h y.few.0
    ∙ ap padded (sym (fill_by_all h (map f ps) (length ps) 0 (length-map ps f) (λ k small. refl)))
