use Rattle.trans_actions.proofs.calls.+next.Given as goal

abbrev pub decreases-next : goal.decreases-next
decreases-next l = l.count
