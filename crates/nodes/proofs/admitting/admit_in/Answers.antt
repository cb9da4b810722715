-- `nodes::admitting::admit_in` meets its contract: one law for each way. Assumes nothing.
use Rattle.rule.proofs.NodeLaws.{length_mapped}
use Rattle.nodes.proofs.AdmittingPaths.{admit_out, admit_few, admit_left, admit_given}
use Rattle.nodes.proofs.admitting.admit_in.Goals as goal

pub returns-in-Out : goal.returns-in-Out
returns-in-Out c = admit_out c.args.keys.now c.args.read c.in-Out.ensures

pub leave_out-requires : goal.leave_out-requires
leave_out-requires c = admit_few c.args.keys.now c.args.read c.in-Saved.ensures

pub returns-in-Saved : goal.returns-in-Saved
returns-in-Saved c = admit_left c.args.keys.now c.args.read c.in-Saved.ensures c.leave_out.ensures

pub returns-in-Given : goal.returns-in-Given
returns-in-Given c = admit_given c.args.keys.now c.args.read c.in-Given.ensures (search length_mapped)
