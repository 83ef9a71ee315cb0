use Rattle.agreement.proofs.Keeping.{named_at}
use Rattle.agreement.proofs.agree.check.Goals as goal

pub check_used-requires-clause-named : goal.check_used-requires-clause-named
check_used-requires-clause-named c k l = (named_at _ _ c.args.uses.now c.in_ok-check_uses.ensures k l).0
