use Rattle.std.proofs.Common.{rules, tests, filter, sum, sym, ◌∙◌, arith}
use Rattle.std.specs.Prelude.{◌≢◌}
use Rattle.std.specs.List.{All}
use Rattle.std.proofs.iter.runs.Made.{chains}
use Rattle.std.proofs.lemmas.Iterator.{YieldsList-from_map}
use Rattle.std.proofs.lemmas.Iterator.Consumers.{YieldsList-at, YieldsList-from_first, YieldsList-from_filter, sum_by_from_yields_List, fits_by_from_yields_list}
use Rattle.money.specs.Sharing.{share_of}
use Rattle.records.specs.declared.network_use.NetworkUse.{NetworkUse}
use Rattle.standard.specs.Allotted.{demands}
use Rattle.standard.specs.Exchange.{part_has}
use Rattle.standard.specs.Portions.{portions}
use Rattle.standard.proofs.Portioning.{part_unused, share_le, own_shares, its_share, by_point}
use Rattle.standard.proofs.segments.Segment.amount.Goals as goal

pub sum-requires-clause-fits : goal.sum-requires-clause-fits
sum-requires-clause-fits g c =
    let x = c.args.self.now.element in
    let us = c.args.self.now.uses.now in
    let p = c.args.place in
    let share = share_of c.args.pool.cents x.before x.item.now.cost x.total in
    let part = g.R.Rule.reduced c.args.rule.now share x.item.now in
    fits_by_from_yields_list (its_share part) (filter (by_point p) (portions (λ (u : NetworkUse). u.demand) (sum (demands us)) 0 us)) c.map.result 18446744073709551616
    (YieldsList-from_map _ (its_share part)
    (YieldsList-at c.map.ensures.source (YieldsList-from_filter _ (by_point p)
    (YieldsList-at c.filter.ensures.source (YieldsList-from_first _ _ _ c.new.ensures)) c.filter.ensures.closure (λ x r q k. search (rules, tests))))
    c.map.ensures.closure (λ x r q k. search rules))
    (omega (arith, own_shares part p us, part_has part p us, g.met.R.Rule.less c.args.rule.now share x.item.now, share_le c.args.pool.cents x.before x.item.now.cost x.total x.within))

pub returns : goal.returns
returns g c =
    let x = c.args.self.now.element in
    let us = c.args.self.now.uses.now in
    let p = c.args.place in
    let part = g.R.Rule.reduced c.args.rule.now (share_of c.args.pool.cents x.before x.item.now.cost x.total) x.item.now in
    sum_by_from_yields_List (its_share part) (filter (by_point p) (portions (λ (u : NetworkUse). u.demand) (sum (demands us)) 0 us)) c.map.result c.sum.result c.sum.ensures.ran
    (YieldsList-from_map _ (its_share part)
    (YieldsList-at c.map.ensures.source (YieldsList-from_filter _ (by_point p)
    (YieldsList-at c.filter.ensures.source (YieldsList-from_first _ _ _ c.new.ensures)) c.filter.ensures.closure (λ x r q k. search (rules, tests))))
    c.map.ensures.closure (λ x r q k. search rules))
    ∙ own_shares part p us

pub returns-then-not-any : goal.returns-then-not-any
returns-then-not-any g c =
    let none : All (λ (u : NetworkUse). u.point ≢ c.args.place) c.args.self.now.uses.now = λ k d h. search (rules, chains) in
    sym (part_unused _ c.args.place c.args.self.now.uses.now none)
