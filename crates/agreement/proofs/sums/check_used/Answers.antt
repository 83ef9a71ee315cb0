use Rattle.std.proofs.Common.{◌+◌, ◌<◌, get_or, arith, rules}
use Rattle.std.proofs.lemmas.Bool.Decides.{nat_tests}
use Rattle.agreement.specs.Together.{no_use}
use Rattle.agreement.proofs.Uses.{used_none, used_all, used_over}
use Rattle.agreement.proofs.sums.check_used.Goals as goal

pub loop-network_use-init : goal.loop-network_use-init
loop-network_use-init c = used_none c.args.uses.now

pub returns-in_err-check_total : goal.returns-in_err-check_total
returns-in_err-check_total c =
    let l = c.loop-network_use in
    let u = get_or c.args.uses.now l.network_use-index no_use in
    let over : 10000000 < get_or l.used u.element 0 + u.demand = grind (arith, nat_tests, c.in_err-check_total.ensures) in
    let whole = used_over c.args.uses.now l.network_use-index l.used l.invariant c.args.elements c.requires.few c.loop-network_use-test.true (c.requires.named l.network_use-index c.loop-network_use-test.true) over in
    search rules

pub returns : goal.returns
returns c =
    let l = c.loop-network_use in
    used_all c.args.uses.now l.network_use-index l.used l.invariant c.args.elements c.requires.few c.loop-network_use-test.false
