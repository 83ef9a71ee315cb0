use Rattle.std.proofs.Common.{◌≡◌, length, arith, rules}
use Rattle.std.proofs.lemmas.Grind.{common_steps}
use Rattle.std.proofs.lemmas.List.{append-nil}
use Rattle.money.proofs.Shares.{shared, filled_none}
use Rattle.money.proofs.sharing.shares.Goals as goal

pub returns-in_err-total-clause-law : goal.returns-in_err-total-clause-law
returns-in_err-total-clause-law g c = shared c.args.amount c.args.weights

pub returns-then-amount-gt-MAX_AMOUNT-clause-law : goal.returns-then-amount-gt-MAX_AMOUNT-clause-law
returns-then-amount-gt-MAX_AMOUNT-clause-law g c = shared c.args.amount c.args.weights

pub loop-place-init : goal.loop-place-init
loop-place-init g c = filled_none c.args.amount c.args.weights

pub returns-in_err-place-clause-law : goal.returns-in_err-place-clause-law
returns-in_err-place-clause-law g c = shared c.args.amount c.args.weights

pub returns-clause-value : goal.returns-clause-value
returns-clause-value g c =
    let n : length c.args.weights ≡ g.row.N = search rules in
    grind (arith, common_steps, append-nil)

pub returns-clause-law : goal.returns-clause-law
returns-clause-law g c = shared c.args.amount c.args.weights
