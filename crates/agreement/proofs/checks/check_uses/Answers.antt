use Rattle.std.proofs.Common.{ℕ, ltb, get_or, ◌+◌, refl, ◌∙◌, rules}
use Rattle.bits.specs.Faults.{year_fault}
use Rattle.bits.specs.declared.refusal.Refusal.TheVariants.{UseMisplaced}
use Rattle.agreement.specs.Together.{placed_at, rank, no_use}
use Rattle.agreement.proofs.Firsts.{fault_at_first}
use Rattle.agreement.proofs.Uses.{last_before}
use Rattle.agreement.proofs.checks.check_uses.Goals as goal

pub returns : goal.returns
returns c =
    let a = c.args in
    let us = a.uses.now in
    let before = λ (i : ℕ). last_before us (λ b. ltb (rank b) (rank (get_or us i no_use))) i in
    c.refuse_at.ensures ∙ fault_at_first _ _ (placed_at a.points a.elements us) (λ j. year_fault UseMisplaced (a.points + a.elements + j + 1)) (λ i. refl) (λ i e. (search rules, search (rules, before), λ j l. search (rules, before))) (λ e j l. search (rules, before))
