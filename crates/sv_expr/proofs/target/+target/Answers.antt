use Rattle.std.proofs.Common.{◌∙◌}
use Rattle.sv_expr.specs.Environment.{Environment, environment}
use Rattle.sv_expr.specs.Target.{target_typed}
use Rattle.sv_expr.specs.TargetLaws.{target-Name, target-Concat}
use Rattle.sv_expr.proofs.Targets.{target_by, concat_is}
use Rattle.sv_expr.proofs.target.+target.Goals as goal

pub target_typed-returns-in-Name-clause-typed : goal.target_typed-returns-in-Name-clause-typed
target_typed-returns-in-Name-clause-typed t c =
    let env : Environment = environment c.args.scope.now in
    target_by env c.in-Name.is (target-Name env _ _) (rw c.as_slice.ensures at c.named_typed.ensures.typed)

pub target_typed-returns-in-Concat-clause-typed : goal.target_typed-returns-in-Concat-clause-typed
target_typed-returns-in-Concat-clause-typed t c =
    let env : Environment = environment c.args.scope.now in
    let first = rw c.get.ensures at c.target_typed-first.ensures.typed in
    let small = rw first at c.target_typed-first.ensures.width in
    let parts = rw (first, c.as_slice-in-Concat.ensures) at c.targets_typed-parts.ensures in
    target_by env c.in-Concat.is (target-Concat env _ _ _ _)
    (rw parts at c.bounded.ensures.typed ∙ concat_is env c.in-Concat.open.at (target_typed env c.in-Concat.first) c.in-Concat.more small)
