-- The equations of what an expression means, one for each form.
use Rattle.std.proofs.Common.{◌≡◌, List, map, sym, ap, ◌∙◌, Option}
use Rattle.sv_tree.specs.declared.token.Token.{Token}
use Rattle.sv_tree.specs.declared.tree.expr.Expr.{Expr}
use Rattle.sv_tree.specs.declared.tree.expr.Args.{Args}
use Rattle.sv_tree.specs.declared.tree.expr.Choice.{Choice, roll-Choice}
use Rattle.sv_tree.specs.declared.tree.expr.Select.{Select}
use Rattle.sv_tree.specs.declared.tree.expr.Step.{Step, roll-Step}
use Rattle.sv_tree.specs.declared.tree.expr.Args.TheOpen.{Args-F, Expr-F, Select-F}
use Rattle.sv_tree.specs.declared.tree.expr.Args.TheFolds.{fold-roll-Args, fold-roll-Expr, fold-roll-Select, fold-roll-Choice, fold-roll-Step}
use Rattle.sv_tree.specs.declared.tree.expr.Args.TheVariants as args
use Rattle.sv_tree.specs.declared.tree.expr.Expr.TheVariants as expr
use Rattle.sv_tree.specs.declared.tree.expr.Select.TheVariants as select
use Rattle.sv_expr.specs.declared.fault.WalkFault.{WalkFault}
use Rattle.sv_expr.specs.declared.typed.Typed.{Typed}
use Rattle.sv_expr.specs.Environment.{Environment}
use Rattle.sv_expr.specs.Meaning.{Meaning, Operand, Chosen, args_layer, expr_layer, select_layer, choice_layer, step_layer, args_fault, meaning_of, select_typed, chosen_of, operand_of}

module _ (env : Environment) where
  pub expr-Decimal : (t : Token) → meaning_of env (expr.Decimal t) ≡ expr_layer env (Expr-F.Decimal t)
  unfolding meaning_of
  expr-Decimal t = ap (meaning_of env) (sym (expr.rolls-Decimal t)) ∙ fold-roll-Expr (Option WalkFault) Meaning Typed Chosen Operand (args_layer env) (expr_layer env) (select_layer env) (choice_layer env) (step_layer env) (Expr-F.Decimal t)

  pub expr-Based : (t : Token) → meaning_of env (expr.Based t) ≡ expr_layer env (Expr-F.Based t)
  unfolding meaning_of
  expr-Based t = ap (meaning_of env) (sym (expr.rolls-Based t)) ∙ fold-roll-Expr (Option WalkFault) Meaning Typed Chosen Operand (args_layer env) (expr_layer env) (select_layer env) (choice_layer env) (step_layer env) (Expr-F.Based t)

  pub expr-Sized : (size digits : Token) → meaning_of env (expr.Sized size digits) ≡ expr_layer env (Expr-F.Sized size digits)
  unfolding meaning_of
  expr-Sized size digits = ap (meaning_of env) (sym (expr.rolls-Sized size digits)) ∙ fold-roll-Expr (Option WalkFault) Meaning Typed Chosen Operand (args_layer env) (expr_layer env) (select_layer env) (choice_layer env) (step_layer env) (Expr-F.Sized size digits)

  pub expr-Fill : (t : Token) → meaning_of env (expr.Fill t) ≡ expr_layer env (Expr-F.Fill t)
  unfolding meaning_of
  expr-Fill t = ap (meaning_of env) (sym (expr.rolls-Fill t)) ∙ fold-roll-Expr (Option WalkFault) Meaning Typed Chosen Operand (args_layer env) (expr_layer env) (select_layer env) (choice_layer env) (step_layer env) (Expr-F.Fill t)

  pub expr-Name : (name : Token) (selects : List Select) → meaning_of env (expr.Name name selects) ≡ expr_layer env (Expr-F.Name name (map (select_typed env) selects))
  unfolding meaning_of select_typed
  expr-Name name selects = ap (meaning_of env) (sym (expr.rolls-Name name selects)) ∙ fold-roll-Expr (Option WalkFault) Meaning Typed Chosen Operand (args_layer env) (expr_layer env) (select_layer env) (choice_layer env) (step_layer env) (Expr-F.Name name selects)

  pub expr-Paren : (opens : Token) (inner : Expr) (closes : Token) → meaning_of env (expr.Paren opens inner closes) ≡ expr_layer env (Expr-F.Paren opens (meaning_of env inner) closes)
  unfolding meaning_of
  expr-Paren opens inner closes = ap (meaning_of env) (sym (expr.rolls-Paren opens inner closes)) ∙ fold-roll-Expr (Option WalkFault) Meaning Typed Chosen Operand (args_layer env) (expr_layer env) (select_layer env) (choice_layer env) (step_layer env) (Expr-F.Paren opens inner closes)

  pub expr-Concat : (opens : Token) (first : Expr) (more : List Step) (closes : Token) → meaning_of env (expr.Concat opens first more closes) ≡ expr_layer env (Expr-F.Concat opens (meaning_of env first) (map (operand_of env) more) closes)
  unfolding meaning_of operand_of
  expr-Concat opens first more closes = ap (meaning_of env) (sym (expr.rolls-Concat opens first more closes)) ∙ fold-roll-Expr (Option WalkFault) Meaning Typed Chosen Operand (args_layer env) (expr_layer env) (select_layer env) (choice_layer env) (step_layer env) (Expr-F.Concat opens first more closes)

  pub expr-Repeat : (opens : Token) (count : Expr) (inner_opens : Token) (first : Expr) (more : List Step) (inner_closes closes : Token) → meaning_of env (expr.Repeat opens count inner_opens first more inner_closes closes) ≡ expr_layer env (Expr-F.Repeat opens (meaning_of env count) inner_opens (meaning_of env first) (map (operand_of env) more) inner_closes closes)
  unfolding meaning_of operand_of
  expr-Repeat opens count inner_opens first more inner_closes closes = ap (meaning_of env) (sym (expr.rolls-Repeat opens count inner_opens first more inner_closes closes)) ∙ fold-roll-Expr (Option WalkFault) Meaning Typed Chosen Operand (args_layer env) (expr_layer env) (select_layer env) (choice_layer env) (step_layer env) (Expr-F.Repeat opens count inner_opens first more inner_closes closes)

  pub expr-Call : (name opens : Token) (args : Args) (closes : Token) → meaning_of env (expr.Call name opens args closes) ≡ expr_layer env (Expr-F.Call name opens (args_fault env args) closes)
  unfolding meaning_of args_fault
  expr-Call name opens args closes = ap (meaning_of env) (sym (expr.rolls-Call name opens args closes)) ∙ fold-roll-Expr (Option WalkFault) Meaning Typed Chosen Operand (args_layer env) (expr_layer env) (select_layer env) (choice_layer env) (step_layer env) (Expr-F.Call name opens args closes)

  pub expr-System : (name opens : Token) (arg : Expr) (closes : Token) → meaning_of env (expr.System name opens arg closes) ≡ expr_layer env (Expr-F.System name opens (meaning_of env arg) closes)
  unfolding meaning_of
  expr-System name opens arg closes = ap (meaning_of env) (sym (expr.rolls-System name opens arg closes)) ∙ fold-roll-Expr (Option WalkFault) Meaning Typed Chosen Operand (args_layer env) (expr_layer env) (select_layer env) (choice_layer env) (step_layer env) (Expr-F.System name opens arg closes)

  pub expr-Prefix : (marks : List Token) (operand : Expr) → meaning_of env (expr.Prefix marks operand) ≡ expr_layer env (Expr-F.Prefix marks (meaning_of env operand))
  unfolding meaning_of
  expr-Prefix marks operand = ap (meaning_of env) (sym (expr.rolls-Prefix marks operand)) ∙ fold-roll-Expr (Option WalkFault) Meaning Typed Chosen Operand (args_layer env) (expr_layer env) (select_layer env) (choice_layer env) (step_layer env) (Expr-F.Prefix marks operand)

  pub expr-Level : (first : Expr) (more : List Step) → meaning_of env (expr.Level first more) ≡ expr_layer env (Expr-F.Level (meaning_of env first) (map (operand_of env) more))
  unfolding meaning_of operand_of
  expr-Level first more = ap (meaning_of env) (sym (expr.rolls-Level first more)) ∙ fold-roll-Expr (Option WalkFault) Meaning Typed Chosen Operand (args_layer env) (expr_layer env) (select_layer env) (choice_layer env) (step_layer env) (Expr-F.Level first more)

  pub expr-Choose : (choices : List Choice) (last : Expr) → meaning_of env (expr.Choose choices last) ≡ expr_layer env (Expr-F.Choose (map (chosen_of env) choices) (meaning_of env last))
  unfolding meaning_of chosen_of
  expr-Choose choices last = ap (meaning_of env) (sym (expr.rolls-Choose choices last)) ∙ fold-roll-Expr (Option WalkFault) Meaning Typed Chosen Operand (args_layer env) (expr_layer env) (select_layer env) (choice_layer env) (step_layer env) (Expr-F.Choose choices last)

  pub args-Empty : args_fault env args.Empty ≡ args_layer env Args-F.Empty
  unfolding args_fault
  args-Empty = ap (args_fault env) (sym (args.rolls-Empty)) ∙ fold-roll-Args (Option WalkFault) Meaning Typed Chosen Operand (args_layer env) (expr_layer env) (select_layer env) (choice_layer env) (step_layer env) Args-F.Empty

  pub args-Listed : (first : Expr) (more : List Step) → args_fault env (args.Listed first more) ≡ args_layer env (Args-F.Listed (meaning_of env first) (map (operand_of env) more))
  unfolding args_fault meaning_of operand_of
  args-Listed first more = ap (args_fault env) (sym (args.rolls-Listed first more)) ∙ fold-roll-Args (Option WalkFault) Meaning Typed Chosen Operand (args_layer env) (expr_layer env) (select_layer env) (choice_layer env) (step_layer env) (Args-F.Listed first more)

  pub select-Bit : (opens : Token) (at : Expr) (closes : Token) → select_typed env (select.Bit opens at closes) ≡ select_layer env (Select-F.Bit opens (meaning_of env at) closes)
  unfolding select_typed meaning_of
  select-Bit opens at closes = ap (select_typed env) (sym (select.rolls-Bit opens at closes)) ∙ fold-roll-Select (Option WalkFault) Meaning Typed Chosen Operand (args_layer env) (expr_layer env) (select_layer env) (choice_layer env) (step_layer env) (Select-F.Bit opens at closes)

  pub select-Part : (opens : Token) (from : Expr) (mark : Token) (to : Expr) (closes : Token) → select_typed env (select.Part opens from mark to closes) ≡ select_layer env (Select-F.Part opens (meaning_of env from) mark (meaning_of env to) closes)
  unfolding select_typed meaning_of
  select-Part opens from mark to closes = ap (select_typed env) (sym (select.rolls-Part opens from mark to closes)) ∙ fold-roll-Select (Option WalkFault) Meaning Typed Chosen Operand (args_layer env) (expr_layer env) (select_layer env) (choice_layer env) (step_layer env) (Select-F.Part opens from mark to closes)

  pub choice-roll : (test : Expr) (question : Token) (value : Expr) (colon : Token)
      → chosen_of env (roll-Choice (record { test = test; question = question; value = value; colon = colon })) ≡ choice_layer env (record { test = meaning_of env test; question = question; value = meaning_of env value; colon = colon })
  unfolding chosen_of meaning_of
  choice-roll test question value colon = fold-roll-Choice (Option WalkFault) Meaning Typed Chosen Operand (args_layer env) (expr_layer env) (select_layer env) (choice_layer env) (step_layer env) (record { test = test; question = question; value = value; colon = colon })

  pub step-roll : (mark : Token) (operand : Expr) → operand_of env (roll-Step (record { mark = mark; operand = operand })) ≡ step_layer env (record { mark = mark; operand = meaning_of env operand })
  unfolding operand_of meaning_of
  step-roll mark operand = fold-roll-Step (Option WalkFault) Meaning Typed Chosen Operand (args_layer env) (expr_layer env) (select_layer env) (choice_layer env) (step_layer env) (record { mark = mark; operand = operand })
