-- `deliveries` ends: each call of itself is for fewer keys. Assumes nothing.
use Rattle.opening.proofs.+deliveries.Given as goal

abbrev pub decreases-deliveries : goal.decreases-deliveries
decreases-deliveries l = l.n
