-- The equations of what an expression reads as, one for each form.
use Rattle.std.proofs.Common.{◌≡◌, List, map, sym, ap, ◌∙◌}
use Rattle.sv_tree.specs.declared.token.Token.{Token}
use Rattle.sv_tree.specs.declared.tree.expr.Expr.{Expr}
use Rattle.sv_tree.specs.declared.tree.expr.Args.{Args}
use Rattle.sv_tree.specs.declared.tree.expr.Choice.{Choice, roll-Choice}
use Rattle.sv_tree.specs.declared.tree.expr.Select.{Select}
use Rattle.sv_tree.specs.declared.tree.expr.Step.{Step, roll-Step}
use Rattle.sv_tree.specs.declared.tree.expr.Args.TheOpen.{Args-F, Expr-F, Select-F}
use Rattle.sv_tree.specs.declared.tree.expr.Args.TheFolds.{fold-roll-Args, fold-roll-Expr, fold-roll-Select, fold-roll-Choice, fold-roll-Step}
use Rattle.sv_tree.specs.declared.tree.expr.Args.TheVariants as args
use Rattle.sv_tree.specs.declared.tree.expr.Expr.TheVariants as expr
use Rattle.sv_tree.specs.declared.tree.expr.Select.TheVariants as select
use Rattle.sv_tree.specs.TreeRead.{Read}
use Rattle.sv_tree.specs.TreeExpr.{ExprRead, StepRead, read_args, read_expr, read_select, read_choice, read_step, args_read, expr_read, select_read, choice_read, step_read}

pub expr-Decimal : (t : Token) → expr_read (expr.Decimal t) ≡ read_expr (Expr-F.Decimal t)
unfolding expr_read
expr-Decimal t = ap expr_read (sym (expr.rolls-Decimal t)) ∙ fold-roll-Expr Read ExprRead Read Read StepRead read_args read_expr read_select read_choice read_step (Expr-F.Decimal t)

pub expr-Based : (t : Token) → expr_read (expr.Based t) ≡ read_expr (Expr-F.Based t)
unfolding expr_read
expr-Based t = ap expr_read (sym (expr.rolls-Based t)) ∙ fold-roll-Expr Read ExprRead Read Read StepRead read_args read_expr read_select read_choice read_step (Expr-F.Based t)

pub expr-Sized : (size digits : Token) → expr_read (expr.Sized size digits) ≡ read_expr (Expr-F.Sized size digits)
unfolding expr_read
expr-Sized size digits = ap expr_read (sym (expr.rolls-Sized size digits)) ∙ fold-roll-Expr Read ExprRead Read Read StepRead read_args read_expr read_select read_choice read_step (Expr-F.Sized size digits)

pub expr-Fill : (t : Token) → expr_read (expr.Fill t) ≡ read_expr (Expr-F.Fill t)
unfolding expr_read
expr-Fill t = ap expr_read (sym (expr.rolls-Fill t)) ∙ fold-roll-Expr Read ExprRead Read Read StepRead read_args read_expr read_select read_choice read_step (Expr-F.Fill t)

pub expr-Name : (name : Token) (selects : List Select) → expr_read (expr.Name name selects) ≡ read_expr (Expr-F.Name name (map select_read selects))
unfolding expr_read select_read
expr-Name name selects = ap expr_read (sym (expr.rolls-Name name selects)) ∙ fold-roll-Expr Read ExprRead Read Read StepRead read_args read_expr read_select read_choice read_step (Expr-F.Name name selects)

pub expr-Paren : (opens : Token) (inner : Expr) (closes : Token) → expr_read (expr.Paren opens inner closes) ≡ read_expr (Expr-F.Paren opens (expr_read inner) closes)
unfolding expr_read
expr-Paren opens inner closes = ap expr_read (sym (expr.rolls-Paren opens inner closes)) ∙ fold-roll-Expr Read ExprRead Read Read StepRead read_args read_expr read_select read_choice read_step (Expr-F.Paren opens inner closes)

pub expr-Concat : (opens : Token) (first : Expr) (more : List Step) (closes : Token) → expr_read (expr.Concat opens first more closes) ≡ read_expr (Expr-F.Concat opens (expr_read first) (map step_read more) closes)
unfolding expr_read step_read
expr-Concat opens first more closes = ap expr_read (sym (expr.rolls-Concat opens first more closes)) ∙ fold-roll-Expr Read ExprRead Read Read StepRead read_args read_expr read_select read_choice read_step (Expr-F.Concat opens first more closes)

pub expr-Repeat : (opens : Token) (count : Expr) (inner_opens : Token) (first : Expr) (more : List Step) (inner_closes closes : Token) → expr_read (expr.Repeat opens count inner_opens first more inner_closes closes) ≡ read_expr (Expr-F.Repeat opens (expr_read count) inner_opens (expr_read first) (map step_read more) inner_closes closes)
unfolding expr_read step_read
expr-Repeat opens count inner_opens first more inner_closes closes = ap expr_read (sym (expr.rolls-Repeat opens count inner_opens first more inner_closes closes)) ∙ fold-roll-Expr Read ExprRead Read Read StepRead read_args read_expr read_select read_choice read_step (Expr-F.Repeat opens count inner_opens first more inner_closes closes)

pub expr-Call : (name opens : Token) (args : Args) (closes : Token) → expr_read (expr.Call name opens args closes) ≡ read_expr (Expr-F.Call name opens (args_read args) closes)
unfolding expr_read args_read
expr-Call name opens args closes = ap expr_read (sym (expr.rolls-Call name opens args closes)) ∙ fold-roll-Expr Read ExprRead Read Read StepRead read_args read_expr read_select read_choice read_step (Expr-F.Call name opens args closes)

pub expr-System : (name opens : Token) (arg : Expr) (closes : Token) → expr_read (expr.System name opens arg closes) ≡ read_expr (Expr-F.System name opens (expr_read arg) closes)
unfolding expr_read
expr-System name opens arg closes = ap expr_read (sym (expr.rolls-System name opens arg closes)) ∙ fold-roll-Expr Read ExprRead Read Read StepRead read_args read_expr read_select read_choice read_step (Expr-F.System name opens arg closes)

pub expr-Prefix : (marks : List Token) (operand : Expr) → expr_read (expr.Prefix marks operand) ≡ read_expr (Expr-F.Prefix marks (expr_read operand))
unfolding expr_read
expr-Prefix marks operand = ap expr_read (sym (expr.rolls-Prefix marks operand)) ∙ fold-roll-Expr Read ExprRead Read Read StepRead read_args read_expr read_select read_choice read_step (Expr-F.Prefix marks operand)

pub expr-Level : (first : Expr) (more : List Step) → expr_read (expr.Level first more) ≡ read_expr (Expr-F.Level (expr_read first) (map step_read more))
unfolding expr_read step_read
expr-Level first more = ap expr_read (sym (expr.rolls-Level first more)) ∙ fold-roll-Expr Read ExprRead Read Read StepRead read_args read_expr read_select read_choice read_step (Expr-F.Level first more)

pub expr-Choose : (choices : List Choice) (last : Expr) → expr_read (expr.Choose choices last) ≡ read_expr (Expr-F.Choose (map choice_read choices) (expr_read last))
unfolding expr_read choice_read
expr-Choose choices last = ap expr_read (sym (expr.rolls-Choose choices last)) ∙ fold-roll-Expr Read ExprRead Read Read StepRead read_args read_expr read_select read_choice read_step (Expr-F.Choose choices last)

pub args-Empty : args_read args.Empty ≡ read_args Args-F.Empty
unfolding args_read
args-Empty = ap args_read (sym (args.rolls-Empty)) ∙ fold-roll-Args Read ExprRead Read Read StepRead read_args read_expr read_select read_choice read_step Args-F.Empty

pub args-Listed : (first : Expr) (more : List Step) → args_read (args.Listed first more) ≡ read_args (Args-F.Listed (expr_read first) (map step_read more))
unfolding args_read expr_read step_read
args-Listed first more = ap args_read (sym (args.rolls-Listed first more)) ∙ fold-roll-Args Read ExprRead Read Read StepRead read_args read_expr read_select read_choice read_step (Args-F.Listed first more)

pub select-Bit : (opens : Token) (at : Expr) (closes : Token) → select_read (select.Bit opens at closes) ≡ read_select (Select-F.Bit opens (expr_read at) closes)
unfolding select_read expr_read
select-Bit opens at closes = ap select_read (sym (select.rolls-Bit opens at closes)) ∙ fold-roll-Select Read ExprRead Read Read StepRead read_args read_expr read_select read_choice read_step (Select-F.Bit opens at closes)

pub select-Part : (opens : Token) (from : Expr) (mark : Token) (to : Expr) (closes : Token) → select_read (select.Part opens from mark to closes) ≡ read_select (Select-F.Part opens (expr_read from) mark (expr_read to) closes)
unfolding select_read expr_read
select-Part opens from mark to closes = ap select_read (sym (select.rolls-Part opens from mark to closes)) ∙ fold-roll-Select Read ExprRead Read Read StepRead read_args read_expr read_select read_choice read_step (Select-F.Part opens from mark to closes)

pub choice-roll : (test : Expr) (question : Token) (value : Expr) (colon : Token)
    → choice_read (roll-Choice (record { test = test; question = question; value = value; colon = colon })) ≡ read_choice (record { test = expr_read test; question = question; value = expr_read value; colon = colon })
unfolding choice_read expr_read
choice-roll test question value colon = fold-roll-Choice Read ExprRead Read Read StepRead read_args read_expr read_select read_choice read_step (record { test = test; question = question; value = value; colon = colon })

pub step-roll : (mark : Token) (operand : Expr) → step_read (roll-Step (record { mark = mark; operand = operand })) ≡ record { mark = mark; operand = expr_read operand }
unfolding step_read expr_read
step-roll mark operand = fold-roll-Step Read ExprRead Read Read StepRead read_args read_expr read_select read_choice read_step (record { mark = mark; operand = operand })
