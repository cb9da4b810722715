-- `nodes::joining::merge_tables` meets its contract. The invariant: what is left of both runs, merged and written behind what is, gives what is to come out.
-- Assumes nothing.
use Rattle.std.proofs.Common.{◌-◌}
use Rattle.rule.specs.Table.{table_limit}
use Rattle.nodes.proofs.JoiningPaths.{Merging}
use Rattle.nodes.proofs.joining.merge_tables.Given as goal

abbrev pub invariant-loop-table : goal.invariant-loop-table
invariant-loop-table l =
    Merging l.one l.other l.table.claims l.i l.j l.table.count

abbrev pub decreases-loop-table : goal.decreases-loop-table
decreases-loop-table l =
    table_limit - l.table.count
