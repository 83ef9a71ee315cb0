use Rattle.std.proofs.Common.{◌+◌, get_or, take, ◌∙◌, zero-add, rules}
use Rattle.bits.specs.Faults.{year_fault}
use Rattle.bits.specs.declared.refusal.Refusal.TheVariants.{IdentifierRepeated}
use Rattle.agreement.specs.Together.{no_point, free}
use Rattle.agreement.proofs.Firsts.{fault_at_first}
use Rattle.agreement.proofs.checks.check_identifiers.Goals as goal

pub returns : goal.returns
returns c =
    let ps = c.args.points.now in
    c.refuse_at.ensures ∙ fault_at_first _ _ (λ j. free (get_or ps j no_point).identifier (take j ps)) (λ j. year_fault IdentifierRepeated (j + 1)) (λ i. rw (zero-add i)) (λ i e. (search rules, search rules, λ j l. search rules)) (λ e j l. search rules)
