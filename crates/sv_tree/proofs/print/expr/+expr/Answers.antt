use Rattle.std.proofs.Common.{◌≡◌, ◌∷◌, Option, map, sym, ap, ◌∙◌, subst, add-one}
use Rattle.sv_tree.specs.declared.tree.expr.Expr.{Expr}
use Rattle.sv_tree.specs.declared.tree.expr.Args.{Args}
use Rattle.sv_tree.specs.declared.tree.expr.Select.{Select}
use Rattle.sv_tree.specs.TreeRead.{Tokens, Read, all_of}
use Rattle.sv_tree.specs.Printed.{Appends}
use Rattle.sv_tree.specs.TreeExpr.{ExprRead, expr, operators, args_read, expr_read, select_read, choice_read, step_read}
use Rattle.sv_tree.specs.TreeExprLaws.{args-Empty, args-Listed, expr-Decimal, expr-Based, expr-Sized, expr-Fill, expr-Name, expr-Paren, expr-Concat, expr-Repeat, expr-Call, expr-System, expr-Prefix, expr-Level, expr-Choose, select-Bit, select-Part, choice-roll, step-roll}
use Rattle.sv_tree.proofs.Printed.{appends_nothing, ◌and◌, prints_next}
use Rattle.sv_tree.proofs.print.expr.+expr.Goals as goal

-- an expression of this form, by its equation
module _ {old new : Option Tokens} {e f : Expr} {r : ExprRead} where
  by_expr : e ≡ f → expr_read f ≡ r → Appends old r.text.print new → Appends old (expr e).print new
  by_expr is reads h = subst (λ x. Appends old x.text.print new) (sym (ap expr_read is ∙ reads)) h

module _ {old new : Option Tokens} {e f : Args} {r : Read} where
  by_args : e ≡ f → args_read f ≡ r → Appends old r.print new → Appends old (args_read e).print new
  by_args is reads h = subst (λ x. Appends old x.print new) (sym (ap args_read is ∙ reads)) h

module _ {old new : Option Tokens} {e f : Select} {r : Read} where
  by_select : e ≡ f → select_read f ≡ r → Appends old r.print new → Appends old (select_read e).print new
  by_select is reads h = subst (λ x. Appends old x.print new) (sym (ap select_read is ∙ reads)) h

pub print_args-returns-in-Empty : goal.print_args-returns-in-Empty
print_args-returns-in-Empty t c = by_args c.in-Empty.is args-Empty (appends_nothing _)

pub print_args-returns-in-Listed : goal.print_args-returns-in-Listed
print_args-returns-in-Listed t c =
    by_args c.in-Listed.is (args-Listed _ _) ((rw c.get.ensures at c.print_expr.ensures) and (rw c.as_slice.ensures at c.print_steps.ensures))

pub print_expr-returns-in-Decimal : goal.print_expr-returns-in-Decimal
print_expr-returns-in-Decimal t c = by_expr c.in-Decimal.is (expr-Decimal _) c.push.ensures

pub print_expr-returns-in-Based : goal.print_expr-returns-in-Based
print_expr-returns-in-Based t c = by_expr c.in-Based.is (expr-Based _) c.push-in-Based.ensures

pub print_expr-returns-in-Sized : goal.print_expr-returns-in-Sized
print_expr-returns-in-Sized t c = by_expr c.in-Sized.is (expr-Sized _ _) (c.push-in-Sized.ensures and c.push-in-Sized-2.ensures)

pub print_expr-returns-in-Fill : goal.print_expr-returns-in-Fill
print_expr-returns-in-Fill t c = by_expr c.in-Fill.is (expr-Fill _) c.push-in-Fill.ensures

pub print_expr-returns-in-Name : goal.print_expr-returns-in-Name
print_expr-returns-in-Name t c = by_expr c.in-Name.is (expr-Name _ _) (c.push-in-Name.ensures and (rw c.as_slice.ensures at c.print_selects.ensures))

pub print_expr-returns-in-Paren : goal.print_expr-returns-in-Paren
print_expr-returns-in-Paren t c =
    by_expr c.in-Paren.is (expr-Paren _ _ _) (c.push-in-Paren.ensures and (rw c.get.ensures at c.print_expr.ensures) and c.push-in-Paren-2.ensures)

pub print_expr-returns-in-Concat : goal.print_expr-returns-in-Concat
print_expr-returns-in-Concat t c =
    by_expr c.in-Concat.is (expr-Concat _ _ _ _)
    (c.push-in-Concat.ensures and (rw c.get-in-Concat.ensures at c.print_expr-in-Concat.ensures) and (rw c.as_slice-in-Concat.ensures at c.print_steps.ensures) and c.push-in-Concat-2.ensures)

pub print_expr-returns-in-Repeat : goal.print_expr-returns-in-Repeat
print_expr-returns-in-Repeat t c =
    by_expr c.in-Repeat.is (expr-Repeat _ _ _ _ _ _ _)
    (c.push-in-Repeat.ensures and (rw c.get-in-Repeat.ensures at c.print_expr-in-Repeat.ensures)
    and c.push-in-Repeat-2.ensures and (rw c.get-in-Repeat-2.ensures at c.print_expr-in-Repeat-2.ensures)
    and (rw c.as_slice-in-Repeat.ensures at c.print_steps-in-Repeat.ensures) and c.push-in-Repeat-3.ensures and c.push-in-Repeat-4.ensures)

pub print_expr-returns-in-Call : goal.print_expr-returns-in-Call
print_expr-returns-in-Call t c =
    by_expr c.in-Call.is (expr-Call _ _ _ _) (c.push-in-Call.ensures and c.push-in-Call-2.ensures and c.print_args.ensures and c.push-in-Call-3.ensures)

pub print_expr-returns-in-System : goal.print_expr-returns-in-System
print_expr-returns-in-System t c =
    by_expr c.in-System.is (expr-System _ _ _ _)
    (c.push-in-System.ensures and c.push-in-System-2.ensures and (rw c.get-in-System.ensures at c.print_expr-in-System.ensures) and c.push-in-System-3.ensures)

pub print_expr-returns-in-Prefix : goal.print_expr-returns-in-Prefix
print_expr-returns-in-Prefix t c =
    by_expr c.in-Prefix.is (expr-Prefix _ _) ((rw c.as_slice-in-Prefix.ensures at c.print_tokens.ensures) and (rw c.get-in-Prefix.ensures at c.print_expr-in-Prefix.ensures))

pub print_expr-returns-in-Level : goal.print_expr-returns-in-Level
print_expr-returns-in-Level t c =
    by_expr c.in-Level.is (expr-Level _ _) ((rw c.get-in-Level.ensures at c.print_expr-in-Level.ensures) and (rw c.as_slice-in-Level.ensures at c.print_steps-in-Level.ensures))

pub print_expr-returns-in-Choose : goal.print_expr-returns-in-Choose
print_expr-returns-in-Choose t c =
    by_expr c.in-Choose.is (expr-Choose _ _) ((rw c.as_slice-in-Choose.ensures at c.print_choices.ensures) and (rw c.get-in-Choose.ensures at c.print_expr-in-Choose.ensures))

pub print_select-returns-in-Bit : goal.print_select-returns-in-Bit
print_select-returns-in-Bit t c =
    by_select c.in-Bit.is (select-Bit _ _ _) (c.push.ensures and (rw c.get.ensures at c.print_expr.ensures) and c.push-in-Bit.ensures)

pub print_select-returns-in-Part : goal.print_select-returns-in-Part
print_select-returns-in-Part t c =
    by_select c.in-Part.is (select-Part _ _ _ _ _)
    (c.push-in-Part.ensures and (rw c.get-in-Part.ensures at c.print_expr-in-Part.ensures)
    and c.push-in-Part-2.ensures and (rw c.get-in-Part-2.ensures at c.print_expr-in-Part-2.ensures) and c.push-in-Part-3.ensures)

pub print_choices-loop-choice-preserved : goal.print_choices-loop-choice-preserved
print_choices-loop-choice-preserved t c =
    let reads = choice-roll c.choice-item.result.test c.choice-item.result.question c.choice-item.result.value c.choice-item.result.colon in
    rw add-one (prints_next c.choice-item.result c.loop-choice-test.true c.choice-item.is (λ rest r. ap (λ x. x.print ((all_of (map choice_read rest)).print r)) reads)
    (c.print_expr.ensures and c.push.ensures and c.print_expr-in-loop-choice.ensures and c.push-in-loop-choice.ensures) c.loop-choice.invariant)

pub print_steps-loop-step-preserved : goal.print_steps-loop-step-preserved
print_steps-loop-step-preserved t c =
    let reads = step-roll c.step-item.result.mark c.step-item.result.operand in
    rw add-one (prints_next c.step-item.result c.loop-step-test.true c.step-item.is (λ rest r. ap (λ x. x.mark ∷ x.operand.text.print ((operators (map step_read rest)).print r)) reads)
    (c.push.ensures and c.print_expr.ensures) c.loop-step.invariant)
