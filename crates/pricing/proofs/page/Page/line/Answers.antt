use Rattle.std.proofs.Common.{◌≡◌, suc, sym, arith, take}
use Rattle.std.proofs.lemmas.List.{length-take, get_or-take}
use Rattle.pricing.proofs.Lines.{row_at, last_at, past_at}
use Rattle.pricing.proofs.page.Page.line.Goals as goal

pub returns-in-Some-clause-line : goal.returns-in-Some-clause-line
returns-in-Some-clause-line c =
    let p = c.args.self.now in
    let place : c.args.place ≡ suc c.in-Some.row = omega arith in
    rw (place, ← get_or-take p.points p.charges c.in-Some.row _ (omega arith)) (sym (row_at (take p.points p.charges) _ c.in-Some.row _ (omega (arith, length-take p.points p.charges))))

pub returns-in-Some-2-clause-line : goal.returns-in-Some-2-clause-line
returns-in-Some-2-clause-line c =
    let p = c.args.self.now in
    let place : c.args.place ≡ suc c.in-Some-2.row = omega arith in
    rw (place, c.left.ensures) (sym (last_at (take p.points p.charges) _ c.in-Some-2.row (omega (arith, length-take p.points p.charges))))

pub returns-in-Some-3-clause-line : goal.returns-in-Some-3-clause-line
returns-in-Some-3-clause-line c =
    let p = c.args.self.now in
    let place : c.args.place ≡ suc c.in-Some-3.field-0 = omega arith in
    rw place (sym (past_at (take p.points p.charges) _ c.in-Some-3.field-0 (omega (arith, length-take p.points p.charges))))
