use Rattle.batch_flatten.proofs.over.+answer_done.Given as goal

abbrev pub decreases-answer_done : goal.decreases-answer_done
decreases-answer_done l = l.count
