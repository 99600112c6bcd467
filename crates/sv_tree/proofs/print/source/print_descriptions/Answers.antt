use Rattle.std.proofs.Common.{refl, add-one}
use Rattle.sv_tree.proofs.Printed.{prints_next, prints_all}
use Rattle.sv_tree.proofs.print.source.print_descriptions.Goals as goal

pub loop-description-preserved : goal.loop-description-preserved
loop-description-preserved c =
    rw add-one (prints_next c.description-item.result c.loop-description-test.true c.description-item.is (λ rest r. refl) c.print.ensures c.loop-description.invariant)

pub returns : goal.returns
returns c = prints_all (λ r. refl) c.loop-description-test.false c.loop-description.invariant
