use Rattle.std.proofs.Common.{refl, add-one}
use Rattle.sv_walk.specs.Tells.{tells_one}
use Rattle.sv_walk.proofs.Walking.{tells_any}
use Rattle.sv_walk.proofs.expression.visit_operators.Goals as goal

pub loop-preserved : goal.loop-preserved
loop-preserved g c = rw add-one (tells_any c.loop-test.true (λ x rest. refl) (tells_one g.V.Visit.told c.term.ensures) c.loop.invariant)
