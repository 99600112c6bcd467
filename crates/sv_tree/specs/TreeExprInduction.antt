-- What every layer keeps holds of what each expression reads as.
use Rattle.std.proofs.Common.{◌≡◌, List, [], ◌∷◌, map, sym, subst}
use denote.Hole.Holds.{Such}
use Rattle.sv_tree.specs.declared.tree.expr.Args.{Args}
use Rattle.sv_tree.specs.declared.tree.expr.Expr.{Expr}
use Rattle.sv_tree.specs.declared.tree.expr.Select.{Select}
use Rattle.sv_tree.specs.declared.tree.expr.Choice.{Choice}
use Rattle.sv_tree.specs.declared.tree.expr.Step.{Step}
use Rattle.sv_tree.specs.declared.tree.expr.Args.TheBlock.{the_family, member-Args, member-Expr, member-Select, member-Choice, member-Step}
use Rattle.sv_tree.specs.declared.tree.expr.Args.TheFolds.{claims, ind-Args, map-Args, fold-roll-Args, ind-Expr, map-Expr, fold-roll-Expr, ind-Select, map-Select, fold-roll-Select, ind-Choice, map-Choice, fold-roll-Choice, ind-Step, map-Step, fold-roll-Step}
use Rattle.sv_tree.specs.declared.tree.expr.Args.TheOpen.{Args-F, Expr-F, Select-F, Choice-F, Step-F}
use Rattle.sv_tree.specs.declared.tree.expr.Args.TheViews.{roll-Args, roll-Expr, roll-Select, roll-Choice, roll-Step}
use Rattle.sv_tree.specs.TreeRead.{Read, Each}
use Rattle.sv_tree.specs.TreeExpr.{ExprRead, StepRead, read_args, read_expr, read_select, read_choice, read_step, args_read, expr_read, select_read, choice_read, step_read}

module _ (PA : Read → Type 0) (PE : ExprRead → Type 0) (PS : Read → Type 0) (PC : Read → Type 0) (PT : StepRead → Type 0) where
  -- what is known of the parts of arguments
  abbrev pub ArgsParts : Args-F Read ExprRead Read Read StepRead → Type 0
  ArgsParts Args-F.Empty = Unit {0}
  ArgsParts (Args-F.Listed first more) = PE first × Each PT more

  -- what is known of the parts of an expression
  abbrev pub ExprParts : Expr-F Read ExprRead Read Read StepRead → Type 0
  ExprParts (Expr-F.Decimal t) = Unit {0}
  ExprParts (Expr-F.Based t) = Unit {0}
  ExprParts (Expr-F.Sized size digits) = Unit {0}
  ExprParts (Expr-F.Fill t) = Unit {0}
  ExprParts (Expr-F.Name name selects) = Each PS selects
  ExprParts (Expr-F.Paren opens inner closes) = PE inner
  ExprParts (Expr-F.Concat opens first more closes) = PE first × Each PT more
  ExprParts (Expr-F.Repeat opens count inner_opens first more inner_closes closes) = PE count × PE first × Each PT more
  ExprParts (Expr-F.Call name opens args closes) = PA args
  ExprParts (Expr-F.System name opens arg closes) = PE arg
  ExprParts (Expr-F.Prefix marks operand) = PE operand
  ExprParts (Expr-F.Level first more) = PE first × Each PT more
  ExprParts (Expr-F.Choose choices last) = Each PC choices × PE last

  -- what is known of the parts of a select
  abbrev pub SelectParts : Select-F Read ExprRead Read Read StepRead → Type 0
  SelectParts (Select-F.Bit opens at closes) = PE at
  SelectParts (Select-F.Part opens from mark to closes) = PE from × PE to

  -- what is known of the parts of a test and its value
  abbrev pub ChoiceParts : Choice-F Read ExprRead Read Read StepRead → Type 0
  ChoiceParts x = PE x.test × PE x.value

  -- what is known of the parts of a mark and its operand
  abbrev pub StepParts : Step-F Read ExprRead Read Read StepRead → Type 0
  StepParts x = PE x.operand

  module _
      (args_kept : (x : Args-F Read ExprRead Read Read StepRead) → ArgsParts x → PA (read_args x))
      (expr_kept : (x : Expr-F Read ExprRead Read Read StepRead) → ExprParts x → PE (read_expr x))
      (select_kept : (x : Select-F Read ExprRead Read Read StepRead) → SelectParts x → PS (read_select x))
      (choice_kept : (x : Choice-F Read ExprRead Read Read StepRead) → ChoiceParts x → PC (read_choice x))
      (step_kept : (x : Step-F Read ExprRead Read Read StepRead) → StepParts x → PT (read_step x))
    where
      abbrev ArgsKeeps : Args → Type 0
      ArgsKeeps x = PA (args_read x)

      abbrev ExprKeeps : Expr → Type 0
      ExprKeeps x = PE (expr_read x)

      abbrev SelectKeeps : Select → Type 0
      SelectKeeps x = PS (select_read x)

      abbrev ChoiceKeeps : Choice → Type 0
      ChoiceKeeps x = PC (choice_read x)

      abbrev StepKeeps : Step → Type 0
      StepKeeps x = PT (step_read x)

      abbrev KeptArgs : Type 0
      KeptArgs = Such the_family (claims ArgsKeeps ExprKeeps SelectKeeps ChoiceKeeps StepKeeps) member-Args

      abbrev KeptExpr : Type 0
      KeptExpr = Such the_family (claims ArgsKeeps ExprKeeps SelectKeeps ChoiceKeeps StepKeeps) member-Expr

      abbrev KeptSelect : Type 0
      KeptSelect = Such the_family (claims ArgsKeeps ExprKeeps SelectKeeps ChoiceKeeps StepKeeps) member-Select

      abbrev KeptChoice : Type 0
      KeptChoice = Such the_family (claims ArgsKeeps ExprKeeps SelectKeeps ChoiceKeeps StepKeeps) member-Choice

      abbrev KeptStep : Type 0
      KeptStep = Such the_family (claims ArgsKeeps ExprKeeps SelectKeeps ChoiceKeeps StepKeeps) member-Step

      each_select : (xs : List KeptSelect) → Each PS (map select_read (map (λ x. x.0) xs))
      each_select [] = tt
      each_select (x ∷ xs) = (x.1, each_select xs)

      each_choice : (xs : List KeptChoice) → Each PC (map choice_read (map (λ x. x.0) xs))
      each_choice [] = tt
      each_choice (x ∷ xs) = (x.1, each_choice xs)

      each_step : (xs : List KeptStep) → Each PT (map step_read (map (λ x. x.0) xs))
      each_step [] = tt
      each_step (x ∷ xs) = (x.1, each_step xs)

      args_rolled : (x : Args-F Args Expr Select Choice Step) → args_read (roll-Args x) ≡ read_args (map-Args Args Expr Select Choice Step Read ExprRead Read Read StepRead args_read expr_read select_read choice_read step_read x)
      unfolding args_read expr_read select_read choice_read step_read
      args_rolled = fold-roll-Args Read ExprRead Read Read StepRead read_args read_expr read_select read_choice read_step

      expr_rolled : (x : Expr-F Args Expr Select Choice Step) → expr_read (roll-Expr x) ≡ read_expr (map-Expr Args Expr Select Choice Step Read ExprRead Read Read StepRead args_read expr_read select_read choice_read step_read x)
      unfolding args_read expr_read select_read choice_read step_read
      expr_rolled = fold-roll-Expr Read ExprRead Read Read StepRead read_args read_expr read_select read_choice read_step

      select_rolled : (x : Select-F Args Expr Select Choice Step) → select_read (roll-Select x) ≡ read_select (map-Select Args Expr Select Choice Step Read ExprRead Read Read StepRead args_read expr_read select_read choice_read step_read x)
      unfolding args_read expr_read select_read choice_read step_read
      select_rolled = fold-roll-Select Read ExprRead Read Read StepRead read_args read_expr read_select read_choice read_step

      choice_rolled : (x : Choice-F Args Expr Select Choice Step) → choice_read (roll-Choice x) ≡ read_choice (map-Choice Args Expr Select Choice Step Read ExprRead Read Read StepRead args_read expr_read select_read choice_read step_read x)
      unfolding args_read expr_read select_read choice_read step_read
      choice_rolled = fold-roll-Choice Read ExprRead Read Read StepRead read_args read_expr read_select read_choice read_step

      step_rolled : (x : Step-F Args Expr Select Choice Step) → step_read (roll-Step x) ≡ read_step (map-Step Args Expr Select Choice Step Read ExprRead Read Read StepRead args_read expr_read select_read choice_read step_read x)
      unfolding args_read expr_read select_read choice_read step_read
      step_rolled = fold-roll-Step Read ExprRead Read Read StepRead read_args read_expr read_select read_choice read_step

      args_case : (x : Args-F KeptArgs KeptExpr KeptSelect KeptChoice KeptStep) → ArgsKeeps (roll-Args (map-Args KeptArgs KeptExpr KeptSelect KeptChoice KeptStep Args Expr Select Choice Step (λ x. x.0) (λ x. x.0) (λ x. x.0) (λ x. x.0) (λ x. x.0) x))
      args_case Args-F.Empty = subst PA (sym (args_rolled Args-F.Empty)) (args_kept Args-F.Empty tt)
      args_case (Args-F.Listed first more) = subst PA (sym (args_rolled (Args-F.Listed first.0 (map (λ x. x.0) more)))) (args_kept (Args-F.Listed (expr_read first.0) (map step_read (map (λ x. x.0) more))) (first.1, each_step more))

      expr_case : (x : Expr-F KeptArgs KeptExpr KeptSelect KeptChoice KeptStep) → ExprKeeps (roll-Expr (map-Expr KeptArgs KeptExpr KeptSelect KeptChoice KeptStep Args Expr Select Choice Step (λ x. x.0) (λ x. x.0) (λ x. x.0) (λ x. x.0) (λ x. x.0) x))
      expr_case (Expr-F.Decimal t) = subst PE (sym (expr_rolled (Expr-F.Decimal t))) (expr_kept (Expr-F.Decimal t) tt)
      expr_case (Expr-F.Based t) = subst PE (sym (expr_rolled (Expr-F.Based t))) (expr_kept (Expr-F.Based t) tt)
      expr_case (Expr-F.Sized size digits) = subst PE (sym (expr_rolled (Expr-F.Sized size digits))) (expr_kept (Expr-F.Sized size digits) tt)
      expr_case (Expr-F.Fill t) = subst PE (sym (expr_rolled (Expr-F.Fill t))) (expr_kept (Expr-F.Fill t) tt)
      expr_case (Expr-F.Name name selects) = subst PE (sym (expr_rolled (Expr-F.Name name (map (λ x. x.0) selects)))) (expr_kept (Expr-F.Name name (map select_read (map (λ x. x.0) selects))) (each_select selects))
      expr_case (Expr-F.Paren opens inner closes) = subst PE (sym (expr_rolled (Expr-F.Paren opens inner.0 closes))) (expr_kept (Expr-F.Paren opens (expr_read inner.0) closes) inner.1)
      expr_case (Expr-F.Concat opens first more closes) = subst PE (sym (expr_rolled (Expr-F.Concat opens first.0 (map (λ x. x.0) more) closes))) (expr_kept (Expr-F.Concat opens (expr_read first.0) (map step_read (map (λ x. x.0) more)) closes) (first.1, each_step more))
      expr_case (Expr-F.Repeat opens count inner_opens first more inner_closes closes) = subst PE (sym (expr_rolled (Expr-F.Repeat opens count.0 inner_opens first.0 (map (λ x. x.0) more) inner_closes closes))) (expr_kept (Expr-F.Repeat opens (expr_read count.0) inner_opens (expr_read first.0) (map step_read (map (λ x. x.0) more)) inner_closes closes) (count.1, first.1, each_step more))
      expr_case (Expr-F.Call name opens args closes) = subst PE (sym (expr_rolled (Expr-F.Call name opens args.0 closes))) (expr_kept (Expr-F.Call name opens (args_read args.0) closes) args.1)
      expr_case (Expr-F.System name opens arg closes) = subst PE (sym (expr_rolled (Expr-F.System name opens arg.0 closes))) (expr_kept (Expr-F.System name opens (expr_read arg.0) closes) arg.1)
      expr_case (Expr-F.Prefix marks operand) = subst PE (sym (expr_rolled (Expr-F.Prefix marks operand.0))) (expr_kept (Expr-F.Prefix marks (expr_read operand.0)) operand.1)
      expr_case (Expr-F.Level first more) = subst PE (sym (expr_rolled (Expr-F.Level first.0 (map (λ x. x.0) more)))) (expr_kept (Expr-F.Level (expr_read first.0) (map step_read (map (λ x. x.0) more))) (first.1, each_step more))
      expr_case (Expr-F.Choose choices last) = subst PE (sym (expr_rolled (Expr-F.Choose (map (λ x. x.0) choices) last.0))) (expr_kept (Expr-F.Choose (map choice_read (map (λ x. x.0) choices)) (expr_read last.0)) (each_choice choices, last.1))

      select_case : (x : Select-F KeptArgs KeptExpr KeptSelect KeptChoice KeptStep) → SelectKeeps (roll-Select (map-Select KeptArgs KeptExpr KeptSelect KeptChoice KeptStep Args Expr Select Choice Step (λ x. x.0) (λ x. x.0) (λ x. x.0) (λ x. x.0) (λ x. x.0) x))
      select_case (Select-F.Bit opens at closes) = subst PS (sym (select_rolled (Select-F.Bit opens at.0 closes))) (select_kept (Select-F.Bit opens (expr_read at.0) closes) at.1)
      select_case (Select-F.Part opens from mark to closes) = subst PS (sym (select_rolled (Select-F.Part opens from.0 mark to.0 closes))) (select_kept (Select-F.Part opens (expr_read from.0) mark (expr_read to.0) closes) (from.1, to.1))

      choice_case : (x : Choice-F KeptArgs KeptExpr KeptSelect KeptChoice KeptStep) → ChoiceKeeps (roll-Choice (map-Choice KeptArgs KeptExpr KeptSelect KeptChoice KeptStep Args Expr Select Choice Step (λ x. x.0) (λ x. x.0) (λ x. x.0) (λ x. x.0) (λ x. x.0) x))
      choice_case x = subst PC (sym (choice_rolled (record { test = x.test.0; question = x.question; value = x.value.0; colon = x.colon }))) (choice_kept (record { test = (expr_read x.test.0); question = x.question; value = (expr_read x.value.0); colon = x.colon }) (x.test.1, x.value.1))

      step_case : (x : Step-F KeptArgs KeptExpr KeptSelect KeptChoice KeptStep) → StepKeeps (roll-Step (map-Step KeptArgs KeptExpr KeptSelect KeptChoice KeptStep Args Expr Select Choice Step (λ x. x.0) (λ x. x.0) (λ x. x.0) (λ x. x.0) (λ x. x.0) x))
      step_case x = subst PT (sym (step_rolled (record { mark = x.mark; operand = x.operand.0 }))) (step_kept (record { mark = x.mark; operand = (expr_read x.operand.0) }) x.operand.1)

      pub args_keeps : (x : Args) → PA (args_read x)
      args_keeps = ind-Args ArgsKeeps ExprKeeps SelectKeeps ChoiceKeeps StepKeeps
          (λ x y is. subst (λ x. ArgsKeeps (roll-Args x)) is (args_case y))
          (λ x y is. subst (λ x. ExprKeeps (roll-Expr x)) is (expr_case y))
          (λ x y is. subst (λ x. SelectKeeps (roll-Select x)) is (select_case y))
          (λ x y is. subst (λ x. ChoiceKeeps (roll-Choice x)) is (choice_case y))
          (λ x y is. subst (λ x. StepKeeps (roll-Step x)) is (step_case y))

      pub expr_keeps : (x : Expr) → PE (expr_read x)
      expr_keeps = ind-Expr ArgsKeeps ExprKeeps SelectKeeps ChoiceKeeps StepKeeps
          (λ x y is. subst (λ x. ArgsKeeps (roll-Args x)) is (args_case y))
          (λ x y is. subst (λ x. ExprKeeps (roll-Expr x)) is (expr_case y))
          (λ x y is. subst (λ x. SelectKeeps (roll-Select x)) is (select_case y))
          (λ x y is. subst (λ x. ChoiceKeeps (roll-Choice x)) is (choice_case y))
          (λ x y is. subst (λ x. StepKeeps (roll-Step x)) is (step_case y))

      pub select_keeps : (x : Select) → PS (select_read x)
      select_keeps = ind-Select ArgsKeeps ExprKeeps SelectKeeps ChoiceKeeps StepKeeps
          (λ x y is. subst (λ x. ArgsKeeps (roll-Args x)) is (args_case y))
          (λ x y is. subst (λ x. ExprKeeps (roll-Expr x)) is (expr_case y))
          (λ x y is. subst (λ x. SelectKeeps (roll-Select x)) is (select_case y))
          (λ x y is. subst (λ x. ChoiceKeeps (roll-Choice x)) is (choice_case y))
          (λ x y is. subst (λ x. StepKeeps (roll-Step x)) is (step_case y))

      pub choice_keeps : (x : Choice) → PC (choice_read x)
      choice_keeps = ind-Choice ArgsKeeps ExprKeeps SelectKeeps ChoiceKeeps StepKeeps
          (λ x y is. subst (λ x. ArgsKeeps (roll-Args x)) is (args_case y))
          (λ x y is. subst (λ x. ExprKeeps (roll-Expr x)) is (expr_case y))
          (λ x y is. subst (λ x. SelectKeeps (roll-Select x)) is (select_case y))
          (λ x y is. subst (λ x. ChoiceKeeps (roll-Choice x)) is (choice_case y))
          (λ x y is. subst (λ x. StepKeeps (roll-Step x)) is (step_case y))

      pub step_keeps : (x : Step) → PT (step_read x)
      step_keeps = ind-Step ArgsKeeps ExprKeeps SelectKeeps ChoiceKeeps StepKeeps
          (λ x y is. subst (λ x. ArgsKeeps (roll-Args x)) is (args_case y))
          (λ x y is. subst (λ x. ExprKeeps (roll-Expr x)) is (expr_case y))
          (λ x y is. subst (λ x. SelectKeeps (roll-Select x)) is (select_case y))
          (λ x y is. subst (λ x. ChoiceKeeps (roll-Choice x)) is (choice_case y))
          (λ x y is. subst (λ x. StepKeeps (roll-Step x)) is (step_case y))
