-- `keys::search::Search::found` meets its contract. Assumes nothing.
use Rattle.std.proofs.Common.{arith}
use Rattle.keys.proofs.HalvingLaws.{halved_lt}
use Rattle.keys.proofs.search.Search.found.Goals as goal

pub overflow_add-result : goal.overflow_add-result
overflow_add-result c =
    let a = c.args in
    omega (arith, c.halved.ensures, halved_lt a.size a.self.part.now a.self.key 0 a.size (omega arith))
