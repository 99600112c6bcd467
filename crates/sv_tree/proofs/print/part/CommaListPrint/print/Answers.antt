use Rattle.std.proofs.Common.{refl}
use Rattle.sv_tree.proofs.Printed.{◌and◌, prints_all}
use Rattle.sv_tree.proofs.print.part.CommaListPrint.print.Goals as goal

pub returns : goal.returns
returns g c = c.print.ensures and (rw c.as_slice-joined-items.ensures at (prints_all (λ r. refl) c.loop-joined-test.false c.loop-joined.invariant))
