use Rattle.std.proofs.Common.{ℕ, List, length, Ok, sym, ap, ◌∙◌, arith}
use Rattle.std.specs.Option.{option_map}
use Rattle.std.proofs.lemmas.Iterator.Consumers.{YieldsList-from_first, nth_from_yields_List}
use Rattle.methods.specs.Asked.{asked}
use Rattle.records.specs.declared.element.Element.{Element}
use Rattle.year.specs.Holds.{contents}
use Rattle.year.specs.declared.year.Year.{Year}
use Rattle.standard.specs.Allotted.{parts_of}
use Rattle.standard.proofs.Parts.{part_there, part_comes}
use Rattle.standard.proofs.allocation.AllocationMethod.part.Goals as goal

pub unwrap-element-requires : goal.unwrap-element-requires
unwrap-element-requires g c =
    let told = nth_from_yields_List c.nth.result c.nth.new.self c.args.place c.nth.ensures.ran (YieldsList-from_first _ _ _ c.new-2.ensures) in
    part_comes (g.R.Rule.reduced c.args.self.now.rule) c.args.pool c.elements-elements.result.now c.args.place _ _ told (omega arith)

pub returns : goal.returns
returns g c =
    let f = g.R.Rule.reduced c.args.self.now.rule in
    let place = c.args.place in
    let pool = c.in_ok-pool.pool.cents in
    let same = c.elements-elements.ensures ∙ ap (λ (y : Year). (contents y).elements) c.year.ensures in
    let told = nth_from_yields_List c.nth.result c.nth.new.self place c.nth.ensures.ran (YieldsList-from_first _ _ _ c.new-2.ensures) in
    ap Ok c.part.ensures
    ∙ sym (part_there f pool c.elements-elements.result.now place _ (sym told ∙ ap (option_map _) c.unwrap-element.ensures) (omega arith))
    ∙ ap (λ (es : List Element). asked (length es) pool place (parts_of f es pool)) same
    ∙ ap (λ (n : ℕ). asked (length (contents (g.Y.Lends.lent c.args.self.now.year)).elements) n place (parts_of f (contents (g.Y.Lends.lent c.args.self.now.year)).elements n)) c.in_ok-pool.ensures.value
