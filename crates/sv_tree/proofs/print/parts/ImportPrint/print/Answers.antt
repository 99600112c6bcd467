use Rattle.sv_tree.proofs.Printed.{◌and◌}
use Rattle.sv_tree.proofs.print.parts.ImportPrint.print.Goals as goal

pub returns : goal.returns
returns c =
    c.push.ensures and c.push-2.ensures and c.print.ensures and c.print-2.ensures and c.push-3.ensures and c.print-3.ensures
    and c.push-4.ensures and c.push-5.ensures and c.print-4.ensures and c.push-6.ensures and c.push-7.ensures
