use Rattle.std.proofs.Common.{◌++◌, map, ap, add-one}
use Rattle.std.specs.List.{flat_map}
use Rattle.sv_walk.specs.Targets.{lvalue_events, lvalue_step_events}
use Rattle.sv_walk.specs.TargetLaws as law
use Rattle.sv_walk.specs.Tells.{tells_one, ◌and◌}
use Rattle.sv_walk.proofs.Walking.{by_form, tells_next}
use Rattle.sv_walk.proofs.target.+lvalue.Goals as goal

pub visit_lvalue-returns-in-Name : goal.visit_lvalue-returns-in-Name
visit_lvalue-returns-in-Name g t c =
    by_form (lvalue_events c.args.names.now) c.in-Name.is (law.lvalue-Name _ _ _)
    (tells_one g.V.Visit.told (rw c.as_slice.ensures at c.target.ensures) and (rw c.as_slice-in-Name.ensures at c.visit_selects.ensures))

pub visit_lvalue-returns-in-Concat : goal.visit_lvalue-returns-in-Concat
visit_lvalue-returns-in-Concat g t c =
    by_form (lvalue_events c.args.names.now) c.in-Concat.is (law.lvalue-Concat _ _ _ _ _)
    ((rw c.get.ensures at c.visit_lvalue.ensures) and (rw c.as_slice-in-Concat.ensures at c.visit_lvalue_steps.ensures))

pub visit_lvalue_steps-loop-step-preserved : goal.visit_lvalue_steps-loop-step-preserved
visit_lvalue_steps-loop-step-preserved g t c =
    let x = c.step-item.result in
    rw add-one (tells_next x c.loop-step-test.true c.step-item.is
    (λ rest. ap (λ es. es ++ flat_map (λ part. part) (map (lvalue_step_events c.args.names.now) rest)) (law.lvalue_step-roll c.args.names.now x.comma x.target))
    c.visit_lvalue.ensures c.loop-step.invariant)
