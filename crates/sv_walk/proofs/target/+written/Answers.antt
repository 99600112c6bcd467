use Rattle.std.proofs.Common.{◌++◌, map, ap, add-one}
use Rattle.sv_walk.specs.Events.{step_part, each_written}
use Rattle.sv_walk.specs.EventLaws as law
use Rattle.sv_walk.specs.Tells.{tells_nothing, tells_one, ◌and◌}
use Rattle.sv_walk.proofs.Walking.{by_written, tells_next}
use Rattle.sv_walk.proofs.target.+written.Goals as goal

pub visit_target-returns-in-Name : goal.visit_target-returns-in-Name
visit_target-returns-in-Name g t c =
    by_written c.args.names.now c.in-Name.is (law.written-Name _ _ _)
    (tells_one g.V.Visit.told (rw c.as_slice.ensures at c.target.ensures) and (rw c.as_slice-in-Name.ensures at c.visit_selects.ensures))

pub visit_target-returns-in-Concat : goal.visit_target-returns-in-Concat
visit_target-returns-in-Concat g t c =
    by_written c.args.names.now c.in-Concat.is (ap (λ p. p.written) (law.expr-Concat _ _ _ _ _))
    ((rw c.get.ensures at c.visit_target.ensures) and (rw c.as_slice-in-Concat.ensures at c.visit_targets.ensures))

pub visit_target-returns-in-Decimal : goal.visit_target-returns-in-Decimal
visit_target-returns-in-Decimal g t c = by_written c.args.names.now c.in-Decimal.is (ap (λ p. p.written) (law.expr-Decimal _ _)) (tells_nothing _ _)

pub visit_target-returns-in-Based : goal.visit_target-returns-in-Based
visit_target-returns-in-Based g t c = by_written c.args.names.now c.in-Based.is (ap (λ p. p.written) (law.expr-Based _ _)) (tells_nothing _ _)

pub visit_target-returns-in-Sized : goal.visit_target-returns-in-Sized
visit_target-returns-in-Sized g t c = by_written c.args.names.now c.in-Sized.is (ap (λ p. p.written) (law.expr-Sized _ _ _)) (tells_nothing _ _)

pub visit_target-returns-in-Fill : goal.visit_target-returns-in-Fill
visit_target-returns-in-Fill g t c = by_written c.args.names.now c.in-Fill.is (ap (λ p. p.written) (law.expr-Fill _ _)) (tells_nothing _ _)

pub visit_target-returns-in-Paren : goal.visit_target-returns-in-Paren
visit_target-returns-in-Paren g t c = by_written c.args.names.now c.in-Paren.is (ap (λ p. p.written) (law.expr-Paren _ _ _ _)) (tells_nothing _ _)

pub visit_target-returns-in-Repeat : goal.visit_target-returns-in-Repeat
visit_target-returns-in-Repeat g t c = by_written c.args.names.now c.in-Repeat.is (ap (λ p. p.written) (law.expr-Repeat _ _ _ _ _ _ _ _)) (tells_nothing _ _)

pub visit_target-returns-in-Call : goal.visit_target-returns-in-Call
visit_target-returns-in-Call g t c = by_written c.args.names.now c.in-Call.is (ap (λ p. p.written) (law.expr-Call _ _ _ _ _)) (tells_nothing _ _)

pub visit_target-returns-in-System : goal.visit_target-returns-in-System
visit_target-returns-in-System g t c = by_written c.args.names.now c.in-System.is (ap (λ p. p.written) (law.expr-System _ _ _ _ _)) (tells_nothing _ _)

pub visit_target-returns-in-Prefix : goal.visit_target-returns-in-Prefix
visit_target-returns-in-Prefix g t c = by_written c.args.names.now c.in-Prefix.is (ap (λ p. p.written) (law.expr-Prefix _ _ _)) (tells_nothing _ _)

pub visit_target-returns-in-Level : goal.visit_target-returns-in-Level
visit_target-returns-in-Level g t c = by_written c.args.names.now c.in-Level.is (ap (λ p. p.written) (law.expr-Level _ _ _)) (tells_nothing _ _)

pub visit_target-returns-in-Choose : goal.visit_target-returns-in-Choose
visit_target-returns-in-Choose g t c = by_written c.args.names.now c.in-Choose.is (ap (λ p. p.written) (law.expr-Choose _ _ _)) (tells_nothing _ _)

pub visit_targets-loop-step-preserved : goal.visit_targets-loop-step-preserved
visit_targets-loop-step-preserved g t c =
    let x = c.step-item.result in
    rw add-one (tells_next x c.loop-step-test.true c.step-item.is
    (λ rest. ap (λ p. p.written ++ each_written (map (step_part c.args.names.now) rest)) (law.step-roll c.args.names.now x.mark x.operand))
    c.visit_target.ensures c.loop-step.invariant)
