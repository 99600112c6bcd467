use Rattle.std.proofs.Common.{◌∷◌, ◌++◌, map, refl, ap, add-one}
use Rattle.sv_walk.specs.Events.{Term, step_part, choice_part, each, each_after_operator}
use Rattle.sv_walk.specs.EventLaws as law
use Rattle.sv_walk.specs.Tells.{tells_nothing, tells_one, ◌and◌}
use Rattle.sv_walk.proofs.Walking.{by_args, by_expr, by_select, by_events, tells_next}
use Rattle.sv_walk.proofs.expression.+walk.Goals as goal

pub visit_args-returns-in-Empty : goal.visit_args-returns-in-Empty
visit_args-returns-in-Empty g t c = by_args c.args.names.now c.args.constant c.in-Empty.is (law.args-Empty _) (tells_nothing _ _)

pub visit_args-returns-in-Listed : goal.visit_args-returns-in-Listed
visit_args-returns-in-Listed g t c =
    by_args c.args.names.now c.args.constant c.in-Listed.is (law.args-Listed _ _ _) ((rw c.get.ensures at c.visit_expr.ensures) and (rw c.as_slice.ensures at c.visit_parts.ensures))

pub visit_expr-returns-in-Decimal : goal.visit_expr-returns-in-Decimal
visit_expr-returns-in-Decimal g t c = by_expr c.args.names.now c.args.constant c.in-Decimal.is (law.expr-Decimal _ _) (tells_one g.V.Visit.told c.term.ensures)

pub visit_expr-returns-in-Based : goal.visit_expr-returns-in-Based
visit_expr-returns-in-Based g t c = by_expr c.args.names.now c.args.constant c.in-Based.is (law.expr-Based _ _) (tells_one g.V.Visit.told c.term-in-Based.ensures)

pub visit_expr-returns-in-Sized : goal.visit_expr-returns-in-Sized
visit_expr-returns-in-Sized g t c = by_expr c.args.names.now c.args.constant c.in-Sized.is (law.expr-Sized _ _ _) (tells_one g.V.Visit.told c.term-in-Sized.ensures)

pub visit_expr-returns-in-Fill : goal.visit_expr-returns-in-Fill
visit_expr-returns-in-Fill g t c = by_expr c.args.names.now c.args.constant c.in-Fill.is (law.expr-Fill _ _) (tells_one g.V.Visit.told c.term-in-Fill.ensures)

pub visit_expr-returns-in-Name : goal.visit_expr-returns-in-Name
visit_expr-returns-in-Name g t c =
    by_events c.args.names.now c.args.constant c.in-Name.is (law.events-Name _ _ _ _)
    (tells_one g.V.Visit.told c.term-in-Name.ensures and tells_one g.V.Visit.told (rw c.as_slice.ensures at c.name.ensures) and (rw c.as_slice-in-Name.ensures at c.visit_selects.ensures))

pub visit_expr-returns-in-Paren : goal.visit_expr-returns-in-Paren
visit_expr-returns-in-Paren g t c =
    by_expr c.args.names.now c.args.constant c.in-Paren.is (law.expr-Paren _ _ _ _) (tells_one g.V.Visit.told c.term-in-Paren.ensures and (rw c.get.ensures at c.visit_expr.ensures))

pub visit_expr-returns-in-Concat : goal.visit_expr-returns-in-Concat
visit_expr-returns-in-Concat g t c =
    by_expr c.args.names.now c.args.constant c.in-Concat.is (law.expr-Concat _ _ _ _ _)
    (tells_one g.V.Visit.told c.term-in-Concat.ensures and (rw c.get-in-Concat.ensures at c.visit_expr-in-Concat.ensures) and (rw c.as_slice-in-Concat.ensures at c.visit_parts.ensures))

pub visit_expr-returns-in-Repeat : goal.visit_expr-returns-in-Repeat
visit_expr-returns-in-Repeat g t c =
    by_expr c.args.names.now c.args.constant c.in-Repeat.is (law.expr-Repeat _ _ _ _ _ _ _ _)
    (tells_one g.V.Visit.told c.term-in-Repeat.ensures and (rw c.get-in-Repeat.ensures at c.visit_expr-in-Repeat.ensures)
    and (rw c.get-in-Repeat-2.ensures at c.visit_expr-in-Repeat-2.ensures) and (rw c.as_slice-in-Repeat.ensures at c.visit_parts-in-Repeat.ensures))

pub visit_expr-returns-in-Call : goal.visit_expr-returns-in-Call
visit_expr-returns-in-Call g t c =
    by_events c.args.names.now c.args.constant c.in-Call.is (law.events-Call _ _ _ _ _ _)
    (tells_one g.V.Visit.told c.term-in-Call.ensures and tells_one g.V.Visit.told c.call.ensures and c.visit_args.ensures)

pub visit_expr-returns-in-System : goal.visit_expr-returns-in-System
visit_expr-returns-in-System g t c =
    by_expr c.args.names.now c.args.constant c.in-System.is (law.expr-System _ _ _ _ _)
    (tells_one g.V.Visit.told c.term-in-System.ensures and (rw c.get-in-System.ensures at (rw c.is_argument_constant-fixed.ensures at c.visit_expr-in-System.ensures)))

pub visit_expr-returns-in-Prefix : goal.visit_expr-returns-in-Prefix
visit_expr-returns-in-Prefix g t c =
    by_expr c.args.names.now c.args.constant c.in-Prefix.is (law.expr-Prefix _ _ _)
    ((rw c.as_slice-in-Prefix.ensures at c.visit_operators.ensures) and (rw c.get-in-Prefix.ensures at c.visit_expr-in-Prefix.ensures))

pub visit_expr-returns-in-Level : goal.visit_expr-returns-in-Level
visit_expr-returns-in-Level g t c =
    by_expr c.args.names.now c.args.constant c.in-Level.is (law.expr-Level _ _ _)
    ((rw c.get-in-Level.ensures at c.visit_expr-in-Level.ensures) and (rw c.as_slice-in-Level.ensures at c.visit_operands.ensures))

pub visit_expr-returns-in-Choose : goal.visit_expr-returns-in-Choose
visit_expr-returns-in-Choose g t c =
    by_expr c.args.names.now c.args.constant c.in-Choose.is (law.expr-Choose _ _ _)
    ((rw c.as_slice-in-Choose.ensures at c.visit_choices.ensures) and (rw c.get-in-Choose.ensures at c.visit_expr-in-Choose.ensures))

pub visit_select-returns-in-Bit : goal.visit_select-returns-in-Bit
visit_select-returns-in-Bit g t c =
    by_select c.args.names.now c.args.constant c.in-Bit.is (law.select-Bit _ _ _ _) (tells_one g.V.Visit.told c.term.ensures and (rw c.get.ensures at c.visit_expr.ensures))

pub visit_select-returns-in-Part : goal.visit_select-returns-in-Part
visit_select-returns-in-Part g t c =
    by_select c.args.names.now c.args.constant c.in-Part.is (law.select-Part _ _ _ _ _ _)
    (tells_one g.V.Visit.told c.term.ensures and (rw c.get-in-Part.ensures at (rw c.is_start_constant-fixed.ensures at c.visit_expr-in-Part.ensures))
    and (rw c.get-in-Part-2.ensures at c.visit_expr-in-Part-2.ensures))

pub visit_parts-loop-step-preserved : goal.visit_parts-loop-step-preserved
visit_parts-loop-step-preserved g t c =
    let x = c.step-item.result in
    rw add-one (tells_next x c.loop-step-test.true c.step-item.is
    (λ rest. ap (λ p. p.events c.args.constant ++ each (map (step_part c.args.names.now) rest) c.args.constant) (law.step-roll c.args.names.now x.mark x.operand))
    c.visit_expr.ensures c.loop-step.invariant)

pub visit_operands-loop-step-preserved : goal.visit_operands-loop-step-preserved
visit_operands-loop-step-preserved g t c =
    let x = c.step-item.result in
    rw add-one (tells_next x c.loop-step-test.true c.step-item.is
    (λ rest. ap (λ p. Term ∷ p.events c.args.constant ++ each_after_operator (map (step_part c.args.names.now) rest) c.args.constant) (law.step-roll c.args.names.now x.mark x.operand))
    (tells_one g.V.Visit.told c.term.ensures and c.visit_expr.ensures) c.loop-step.invariant)

pub visit_choices-loop-choice-preserved : goal.visit_choices-loop-choice-preserved
visit_choices-loop-choice-preserved g t c =
    let x = c.choice-item.result in
    rw add-one (tells_next x c.loop-choice-test.true c.choice-item.is
    (λ rest. ap (λ p. p.events c.args.constant ++ each (map (choice_part c.args.names.now) rest) c.args.constant) (law.choice-roll c.args.names.now x.test x.question x.value x.colon))
    (c.visit_expr.ensures and tells_one g.V.Visit.told c.term.ensures and c.visit_expr-in-loop-choice.ensures) c.loop-choice.invariant)

pub visit_selects-loop-select-preserved : goal.visit_selects-loop-select-preserved
visit_selects-loop-select-preserved g t c =
    rw add-one (tells_next c.select-item.result c.loop-select-test.true c.select-item.is (λ rest. refl) c.visit_select.ensures c.loop-select.invariant)
