use Rattle.std.proofs.Common.{sym, ap, ◌∙◌, subst, arith, rules}
use Rattle.agreement.specs.Agreement.{together_fault}
use Rattle.bits.proofs.Digits.{Bytes}
use Rattle.year.proofs.Rounds.{written_then_read, read_then_written, sound_file, never_refused}
use Rattle.year.proofs.year.Year.read.Goals as goal
use Rattle.year.specs.Contents.{data_of}
use Rattle.year.specs.Ranges.{Blank}
use Rattle.year.specs.YearBytes.{Sound}
use Rattle.year.specs.YearFile.{year_of}
use Rattle.year.specs.declared.lists.Lists.{Lists}

pub returns-in_err-fill-clause-found : goal.returns-in_err-fill-clause-found
returns-in_err-fill-clause-found c d so b = absurd (never_refused _ _ c.in_err-fill.ensures.fault d so b)

pub returns-in_err-check-clause-found : goal.returns-in_err-check-clause-found
returns-in_err-check-clause-found c d so b =
    absurd (never_refused _ _ (c.in_err-check.ensures ∙ (ap together_fault c.in_ok-fill.ensures.filled ∙ c.in_ok-fill.ensures.apart)) d so b)

pub invariant_of-self-2 : goal.invariant_of-self-2
invariant_of-self-2 c =
    let fine = c.in_ok-check.ensures ∙ (ap together_fault c.in_ok-fill.ensures.filled ∙ c.in_ok-fill.ensures.apart) in
    let so = sound_file c.args.file.now (λ i. (c.type_inv.file i).fits) fine in
    let t = subst (λ (x : Lists). Sound (data_of x)) (sym c.swap.ensures.x_after) (rw c.in_ok-fill.ensures.filled so) in
    let blank : Blank (data_of c.swap.new.x) = λ z. absurd (omega (arith, t.some)) in
    search rules

pub returns-clause-form : goal.returns-clause-form
returns-clause-form c =
    let fine = c.in_ok-check.ensures ∙ (ap together_fault c.in_ok-fill.ensures.filled ∙ c.in_ok-fill.ensures.apart) in
    let bytes : Bytes c.args.file.now = λ i. (c.type_inv.file i).fits in
    (sound_file c.args.file.now bytes fine, sym (read_then_written c.args.file.now bytes fine))

pub returns-clause-found : goal.returns-clause-found
returns-clause-found c d so b =
    ap (λ (x : Lists). data_of x) c.swap.ensures.x_after ∙ (c.in_ok-fill.ensures.filled ∙ (ap year_of b ∙ (written_then_read d so).1))
