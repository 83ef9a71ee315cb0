use Rattle.money.proofs.Shares.{Filled}
use Rattle.money.proofs.sharing.shares.Given as goal

abbrev pub invariant-loop-place : goal.invariant-loop-place
invariant-loop-place g l = Filled l.amount l.fn.weights l.place-index l.before l.place-items
