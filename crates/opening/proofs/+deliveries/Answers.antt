-- `deliveries` meets its contract. Assumes nothing.
use Rattle.std.proofs.Common.{arith}
use Rattle.opening.proofs.CostPaths.{none_told, few_told, one_told, two_told, one_fits, first_fits, whole_fits}
use Rattle.opening.proofs.+deliveries.Goals as goal

pub returns-in-0 : goal.returns-in-0
returns-in-0 t c = search none_told

pub returns-in-1-to-3 : goal.returns-in-1-to-3
returns-in-1-to-3 t c = few_told c.args.n (omega arith) (omega arith)

pub overflow_add-result : goal.overflow_add-result
overflow_add-result t c = search one_fits

pub returns-in-4 : goal.returns-in-4
returns-in-4 t c = one_told c.args.n c.deliveries.result (omega arith) (omega arith) c.deliveries.ensures

pub overflow_add-result-in_default : goal.overflow_add-result-in_default
overflow_add-result-in_default t c = search first_fits

pub overflow_add-result-in_default-2 : goal.overflow_add-result-in_default-2
overflow_add-result-in_default-2 t c = search whole_fits

pub returns-in_default : goal.returns-in_default
returns-in_default t c = search two_told
