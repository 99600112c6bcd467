-- The equations of what is met in an expression, one for each form, and that a part keeps the tree that it is of.
use Rattle.std.proofs.Common.{◌≡◌, ℕ, Bool, false, List, [], ◌∷◌, map, refl, sym, ap, ◌∙◌, subst}
use denote.Hole.Holds.{Such}
use Rattle.sv_tree.specs.declared.token.Token.{Token}
use Rattle.sv_tree.specs.declared.tree.expr.Expr.{Expr}
use Rattle.sv_tree.specs.declared.tree.expr.Args.{Args}
use Rattle.sv_tree.specs.declared.tree.expr.Choice.{Choice}
use Rattle.sv_tree.specs.declared.tree.expr.Select.{Select}
use Rattle.sv_tree.specs.declared.tree.expr.Step.{Step}
use Rattle.sv_tree.specs.declared.tree.expr.Args.TheBlock.{the_family, member-Args, member-Expr, member-Select, member-Choice, member-Step}
use Rattle.sv_tree.specs.declared.tree.expr.Args.TheFolds.{claims, ind-Args, map-Args, fold-roll-Args, map-Expr, fold-roll-Expr, ind-Select, map-Select, fold-roll-Select, map-Choice, fold-roll-Choice, map-Step, fold-roll-Step}
use Rattle.sv_tree.specs.declared.tree.expr.Args.TheOpen.{Args-F, Expr-F, Select-F, Choice-F, Step-F}
use Rattle.sv_tree.specs.declared.tree.expr.Args.TheVariants as args
use Rattle.sv_tree.specs.declared.tree.expr.Args.TheViews.{roll-Args, roll-Expr, roll-Select, roll-Choice, roll-Step}
use Rattle.sv_tree.specs.declared.tree.expr.Expr.TheVariants as expr
use Rattle.sv_tree.specs.declared.tree.expr.Select.TheVariants as select
use Rattle.sv_walk.specs.Events.{Named, Called, Written, Term, Part, trees, args_layer, expr_layer, select_layer, choice_layer, step_layer, args_part, expr_part, select_part, choice_part, step_part, events, args_events, select_events, written_events}

module _ (names : List (List ℕ)) where
  -- ---- one layer of a part

  args_rolled : (x : Args-F Args Expr Select Choice Step) → args_part names (roll-Args x) ≡ args_layer names (map-Args Args Expr Select Choice Step (Part Args) (Part Expr) (Part Select) (Part Choice) (Part Step) (args_part names) (expr_part names) (select_part names) (choice_part names) (step_part names) x)
  unfolding args_part expr_part select_part choice_part step_part
  args_rolled = fold-roll-Args (Part Args) (Part Expr) (Part Select) (Part Choice) (Part Step) (args_layer names) (expr_layer names) (select_layer names) (choice_layer names) (step_layer names)

  expr_rolled : (x : Expr-F Args Expr Select Choice Step) → expr_part names (roll-Expr x) ≡ expr_layer names (map-Expr Args Expr Select Choice Step (Part Args) (Part Expr) (Part Select) (Part Choice) (Part Step) (args_part names) (expr_part names) (select_part names) (choice_part names) (step_part names) x)
  unfolding args_part expr_part select_part choice_part step_part
  expr_rolled = fold-roll-Expr (Part Args) (Part Expr) (Part Select) (Part Choice) (Part Step) (args_layer names) (expr_layer names) (select_layer names) (choice_layer names) (step_layer names)

  select_rolled : (x : Select-F Args Expr Select Choice Step) → select_part names (roll-Select x) ≡ select_layer names (map-Select Args Expr Select Choice Step (Part Args) (Part Expr) (Part Select) (Part Choice) (Part Step) (args_part names) (expr_part names) (select_part names) (choice_part names) (step_part names) x)
  unfolding args_part expr_part select_part choice_part step_part
  select_rolled = fold-roll-Select (Part Args) (Part Expr) (Part Select) (Part Choice) (Part Step) (args_layer names) (expr_layer names) (select_layer names) (choice_layer names) (step_layer names)

  choice_rolled : (x : Choice-F Args Expr Select Choice Step) → choice_part names (roll-Choice x) ≡ choice_layer names (map-Choice Args Expr Select Choice Step (Part Args) (Part Expr) (Part Select) (Part Choice) (Part Step) (args_part names) (expr_part names) (select_part names) (choice_part names) (step_part names) x)
  unfolding args_part expr_part select_part choice_part step_part
  choice_rolled = fold-roll-Choice (Part Args) (Part Expr) (Part Select) (Part Choice) (Part Step) (args_layer names) (expr_layer names) (select_layer names) (choice_layer names) (step_layer names)

  step_rolled : (x : Step-F Args Expr Select Choice Step) → step_part names (roll-Step x) ≡ step_layer names (map-Step Args Expr Select Choice Step (Part Args) (Part Expr) (Part Select) (Part Choice) (Part Step) (args_part names) (expr_part names) (select_part names) (choice_part names) (step_part names) x)
  unfolding args_part expr_part select_part choice_part step_part
  step_rolled = fold-roll-Step (Part Args) (Part Expr) (Part Select) (Part Choice) (Part Step) (args_layer names) (expr_layer names) (select_layer names) (choice_layer names) (step_layer names)

  -- ---- the tree is kept

  abbrev ArgsWhole : Args → Type 0
  ArgsWhole x = (args_part names x).tree ≡ x

  abbrev ExprWhole : Expr → Type 0
  ExprWhole x = (expr_part names x).tree ≡ x

  abbrev SelectWhole : Select → Type 0
  SelectWhole x = (select_part names x).tree ≡ x

  abbrev ChoiceWhole : Choice → Type 0
  ChoiceWhole x = (choice_part names x).tree ≡ x

  abbrev StepWhole : Step → Type 0
  StepWhole x = (step_part names x).tree ≡ x

  abbrev KeptArgs : Type 0
  KeptArgs = Such the_family (claims ArgsWhole ExprWhole SelectWhole ChoiceWhole StepWhole) member-Args

  abbrev KeptExpr : Type 0
  KeptExpr = Such the_family (claims ArgsWhole ExprWhole SelectWhole ChoiceWhole StepWhole) member-Expr

  abbrev KeptSelect : Type 0
  KeptSelect = Such the_family (claims ArgsWhole ExprWhole SelectWhole ChoiceWhole StepWhole) member-Select

  abbrev KeptChoice : Type 0
  KeptChoice = Such the_family (claims ArgsWhole ExprWhole SelectWhole ChoiceWhole StepWhole) member-Choice

  abbrev KeptStep : Type 0
  KeptStep = Such the_family (claims ArgsWhole ExprWhole SelectWhole ChoiceWhole StepWhole) member-Step

  each_select : (xs : List KeptSelect) → trees (map (select_part names) (map (λ x. x.0) xs)) ≡ map (λ x. x.0) xs
  each_select [] = refl
  each_select (x ∷ xs) = ap (λ t. t ∷ trees (map (select_part names) (map (λ x. x.0) xs))) x.1 ∙ ap (λ ts. x.0 ∷ ts) (each_select xs)

  each_choice : (xs : List KeptChoice) → trees (map (choice_part names) (map (λ x. x.0) xs)) ≡ map (λ x. x.0) xs
  each_choice [] = refl
  each_choice (x ∷ xs) = ap (λ t. t ∷ trees (map (choice_part names) (map (λ x. x.0) xs))) x.1 ∙ ap (λ ts. x.0 ∷ ts) (each_choice xs)

  each_step : (xs : List KeptStep) → trees (map (step_part names) (map (λ x. x.0) xs)) ≡ map (λ x. x.0) xs
  each_step [] = refl
  each_step (x ∷ xs) = ap (λ t. t ∷ trees (map (step_part names) (map (λ x. x.0) xs))) x.1 ∙ ap (λ ts. x.0 ∷ ts) (each_step xs)

  args_case : (x : Args-F KeptArgs KeptExpr KeptSelect KeptChoice KeptStep) → ArgsWhole (roll-Args (map-Args KeptArgs KeptExpr KeptSelect KeptChoice KeptStep Args Expr Select Choice Step (λ x. x.0) (λ x. x.0) (λ x. x.0) (λ x. x.0) (λ x. x.0) x))
  args_case Args-F.Empty =
      ap (λ p. p.tree) (args_rolled Args-F.Empty)
  args_case (Args-F.Listed first more) =
      ap (λ p. p.tree) (args_rolled (Args-F.Listed first.0 (map (λ x. x.0) more))) ∙ ap (λ hole. roll-Args (Args-F.Listed hole (trees (map (step_part names) (map (λ x. x.0) more))))) first.1 ∙ ap (λ hole. roll-Args (Args-F.Listed first.0 hole)) (each_step more)

  expr_case : (x : Expr-F KeptArgs KeptExpr KeptSelect KeptChoice KeptStep) → ExprWhole (roll-Expr (map-Expr KeptArgs KeptExpr KeptSelect KeptChoice KeptStep Args Expr Select Choice Step (λ x. x.0) (λ x. x.0) (λ x. x.0) (λ x. x.0) (λ x. x.0) x))
  expr_case (Expr-F.Decimal t) =
      ap (λ p. p.tree) (expr_rolled (Expr-F.Decimal t))
  expr_case (Expr-F.Based t) =
      ap (λ p. p.tree) (expr_rolled (Expr-F.Based t))
  expr_case (Expr-F.Sized size digits) =
      ap (λ p. p.tree) (expr_rolled (Expr-F.Sized size digits))
  expr_case (Expr-F.Fill t) =
      ap (λ p. p.tree) (expr_rolled (Expr-F.Fill t))
  expr_case (Expr-F.Name name selects) =
      ap (λ p. p.tree) (expr_rolled (Expr-F.Name name (map (λ x. x.0) selects))) ∙ ap (λ hole. roll-Expr (Expr-F.Name name hole)) (each_select selects)
  expr_case (Expr-F.Paren opens inner closes) =
      ap (λ p. p.tree) (expr_rolled (Expr-F.Paren opens inner.0 closes)) ∙ ap (λ hole. roll-Expr (Expr-F.Paren opens hole closes)) inner.1
  expr_case (Expr-F.Concat opens first more closes) =
      ap (λ p. p.tree) (expr_rolled (Expr-F.Concat opens first.0 (map (λ x. x.0) more) closes)) ∙ ap (λ hole. roll-Expr (Expr-F.Concat opens hole (trees (map (step_part names) (map (λ x. x.0) more))) closes)) first.1 ∙ ap (λ hole. roll-Expr (Expr-F.Concat opens first.0 hole closes)) (each_step more)
  expr_case (Expr-F.Repeat opens count inner_opens first more inner_closes closes) =
      ap (λ p. p.tree) (expr_rolled (Expr-F.Repeat opens count.0 inner_opens first.0 (map (λ x. x.0) more) inner_closes closes)) ∙ ap (λ hole. roll-Expr (Expr-F.Repeat opens hole inner_opens (expr_part names first.0).tree (trees (map (step_part names) (map (λ x. x.0) more))) inner_closes closes)) count.1 ∙ ap (λ hole. roll-Expr (Expr-F.Repeat opens count.0 inner_opens hole (trees (map (step_part names) (map (λ x. x.0) more))) inner_closes closes)) first.1 ∙ ap (λ hole. roll-Expr (Expr-F.Repeat opens count.0 inner_opens first.0 hole inner_closes closes)) (each_step more)
  expr_case (Expr-F.Call name opens args closes) =
      ap (λ p. p.tree) (expr_rolled (Expr-F.Call name opens args.0 closes)) ∙ ap (λ hole. roll-Expr (Expr-F.Call name opens hole closes)) args.1
  expr_case (Expr-F.System name opens arg closes) =
      ap (λ p. p.tree) (expr_rolled (Expr-F.System name opens arg.0 closes)) ∙ ap (λ hole. roll-Expr (Expr-F.System name opens hole closes)) arg.1
  expr_case (Expr-F.Prefix marks operand) =
      ap (λ p. p.tree) (expr_rolled (Expr-F.Prefix marks operand.0)) ∙ ap (λ hole. roll-Expr (Expr-F.Prefix marks hole)) operand.1
  expr_case (Expr-F.Level first more) =
      ap (λ p. p.tree) (expr_rolled (Expr-F.Level first.0 (map (λ x. x.0) more))) ∙ ap (λ hole. roll-Expr (Expr-F.Level hole (trees (map (step_part names) (map (λ x. x.0) more))))) first.1 ∙ ap (λ hole. roll-Expr (Expr-F.Level first.0 hole)) (each_step more)
  expr_case (Expr-F.Choose choices last) =
      ap (λ p. p.tree) (expr_rolled (Expr-F.Choose (map (λ x. x.0) choices) last.0)) ∙ ap (λ hole. roll-Expr (Expr-F.Choose hole (expr_part names last.0).tree)) (each_choice choices) ∙ ap (λ hole. roll-Expr (Expr-F.Choose (map (λ x. x.0) choices) hole)) last.1

  select_case : (x : Select-F KeptArgs KeptExpr KeptSelect KeptChoice KeptStep) → SelectWhole (roll-Select (map-Select KeptArgs KeptExpr KeptSelect KeptChoice KeptStep Args Expr Select Choice Step (λ x. x.0) (λ x. x.0) (λ x. x.0) (λ x. x.0) (λ x. x.0) x))
  select_case (Select-F.Bit opens at closes) =
      ap (λ p. p.tree) (select_rolled (Select-F.Bit opens at.0 closes)) ∙ ap (λ hole. roll-Select (Select-F.Bit opens hole closes)) at.1
  select_case (Select-F.Part opens from mark to closes) =
      ap (λ p. p.tree) (select_rolled (Select-F.Part opens from.0 mark to.0 closes)) ∙ ap (λ hole. roll-Select (Select-F.Part opens hole mark (expr_part names to.0).tree closes)) from.1 ∙ ap (λ hole. roll-Select (Select-F.Part opens from.0 mark hole closes)) to.1

  choice_case : (x : Choice-F KeptArgs KeptExpr KeptSelect KeptChoice KeptStep) → ChoiceWhole (roll-Choice (map-Choice KeptArgs KeptExpr KeptSelect KeptChoice KeptStep Args Expr Select Choice Step (λ x. x.0) (λ x. x.0) (λ x. x.0) (λ x. x.0) (λ x. x.0) x))
  choice_case x =
      ap (λ p. p.tree) (choice_rolled (record { test = x.test.0; question = x.question; value = x.value.0; colon = x.colon }))
      ∙ ap (λ hole. roll-Choice (record { test = hole; question = x.question; value = (expr_part names x.value.0).tree; colon = x.colon })) x.test.1
      ∙ ap (λ hole. roll-Choice (record { test = x.test.0; question = x.question; value = hole; colon = x.colon })) x.value.1

  step_case : (x : Step-F KeptArgs KeptExpr KeptSelect KeptChoice KeptStep) → StepWhole (roll-Step (map-Step KeptArgs KeptExpr KeptSelect KeptChoice KeptStep Args Expr Select Choice Step (λ x. x.0) (λ x. x.0) (λ x. x.0) (λ x. x.0) (λ x. x.0) x))
  step_case x =
      ap (λ p. p.tree) (step_rolled (record { mark = x.mark; operand = x.operand.0 })) ∙ ap (λ hole. roll-Step (record { mark = x.mark; operand = hole })) x.operand.1

  args_whole : (x : Args) → (args_part names x).tree ≡ x
  args_whole = ind-Args ArgsWhole ExprWhole SelectWhole ChoiceWhole StepWhole
      (λ x y is. subst (λ x. ArgsWhole (roll-Args x)) is (args_case y))
      (λ x y is. subst (λ x. ExprWhole (roll-Expr x)) is (expr_case y))
      (λ x y is. subst (λ x. SelectWhole (roll-Select x)) is (select_case y))
      (λ x y is. subst (λ x. ChoiceWhole (roll-Choice x)) is (choice_case y))
      (λ x y is. subst (λ x. StepWhole (roll-Step x)) is (step_case y))

  select_whole : (x : Select) → (select_part names x).tree ≡ x
  select_whole = ind-Select ArgsWhole ExprWhole SelectWhole ChoiceWhole StepWhole
      (λ x y is. subst (λ x. ArgsWhole (roll-Args x)) is (args_case y))
      (λ x y is. subst (λ x. ExprWhole (roll-Expr x)) is (expr_case y))
      (λ x y is. subst (λ x. SelectWhole (roll-Select x)) is (select_case y))
      (λ x y is. subst (λ x. ChoiceWhole (roll-Choice x)) is (choice_case y))
      (λ x y is. subst (λ x. StepWhole (roll-Step x)) is (step_case y))

  selects_whole : (xs : List Select) → trees (map (select_part names) xs) ≡ xs
  selects_whole [] = refl
  selects_whole (x ∷ xs) = ap (λ t. t ∷ trees (map (select_part names) xs)) (select_whole x) ∙ ap (λ ts. x ∷ ts) (selects_whole xs)

  -- ---- the equations

  pub args-Empty : args_part names args.Empty ≡ args_layer names Args-F.Empty
  args-Empty = ap (args_part names) (sym (args.rolls-Empty)) ∙ args_rolled Args-F.Empty

  pub args-Listed : (first : Expr) (more : List Step) → args_part names (args.Listed first more) ≡ args_layer names (Args-F.Listed (expr_part names first) (map (step_part names) more))
  args-Listed first more = ap (args_part names) (sym (args.rolls-Listed first more)) ∙ args_rolled (Args-F.Listed first more)

  pub expr-Decimal : (t : Token) → expr_part names (expr.Decimal t) ≡ expr_layer names (Expr-F.Decimal t)
  expr-Decimal t = ap (expr_part names) (sym (expr.rolls-Decimal t)) ∙ expr_rolled (Expr-F.Decimal t)

  pub expr-Based : (t : Token) → expr_part names (expr.Based t) ≡ expr_layer names (Expr-F.Based t)
  expr-Based t = ap (expr_part names) (sym (expr.rolls-Based t)) ∙ expr_rolled (Expr-F.Based t)

  pub expr-Sized : (size : Token) (digits : Token) → expr_part names (expr.Sized size digits) ≡ expr_layer names (Expr-F.Sized size digits)
  expr-Sized size digits = ap (expr_part names) (sym (expr.rolls-Sized size digits)) ∙ expr_rolled (Expr-F.Sized size digits)

  pub expr-Fill : (t : Token) → expr_part names (expr.Fill t) ≡ expr_layer names (Expr-F.Fill t)
  expr-Fill t = ap (expr_part names) (sym (expr.rolls-Fill t)) ∙ expr_rolled (Expr-F.Fill t)

  pub expr-Name : (name : Token) (selects : List Select) → expr_part names (expr.Name name selects) ≡ expr_layer names (Expr-F.Name name (map (select_part names) selects))
  expr-Name name selects = ap (expr_part names) (sym (expr.rolls-Name name selects)) ∙ expr_rolled (Expr-F.Name name selects)

  pub expr-Paren : (opens : Token) (inner : Expr) (closes : Token) → expr_part names (expr.Paren opens inner closes) ≡ expr_layer names (Expr-F.Paren opens (expr_part names inner) closes)
  expr-Paren opens inner closes = ap (expr_part names) (sym (expr.rolls-Paren opens inner closes)) ∙ expr_rolled (Expr-F.Paren opens inner closes)

  pub expr-Concat : (opens : Token) (first : Expr) (more : List Step) (closes : Token) → expr_part names (expr.Concat opens first more closes) ≡ expr_layer names (Expr-F.Concat opens (expr_part names first) (map (step_part names) more) closes)
  expr-Concat opens first more closes = ap (expr_part names) (sym (expr.rolls-Concat opens first more closes)) ∙ expr_rolled (Expr-F.Concat opens first more closes)

  pub expr-Repeat : (opens : Token) (count : Expr) (inner_opens : Token) (first : Expr) (more : List Step) (inner_closes : Token) (closes : Token) → expr_part names (expr.Repeat opens count inner_opens first more inner_closes closes) ≡ expr_layer names (Expr-F.Repeat opens (expr_part names count) inner_opens (expr_part names first) (map (step_part names) more) inner_closes closes)
  expr-Repeat opens count inner_opens first more inner_closes closes = ap (expr_part names) (sym (expr.rolls-Repeat opens count inner_opens first more inner_closes closes)) ∙ expr_rolled (Expr-F.Repeat opens count inner_opens first more inner_closes closes)

  pub expr-Call : (name : Token) (opens : Token) (args : Args) (closes : Token) → expr_part names (expr.Call name opens args closes) ≡ expr_layer names (Expr-F.Call name opens (args_part names args) closes)
  expr-Call name opens args closes = ap (expr_part names) (sym (expr.rolls-Call name opens args closes)) ∙ expr_rolled (Expr-F.Call name opens args closes)

  pub expr-System : (name : Token) (opens : Token) (arg : Expr) (closes : Token) → expr_part names (expr.System name opens arg closes) ≡ expr_layer names (Expr-F.System name opens (expr_part names arg) closes)
  expr-System name opens arg closes = ap (expr_part names) (sym (expr.rolls-System name opens arg closes)) ∙ expr_rolled (Expr-F.System name opens arg closes)

  pub expr-Prefix : (marks : List Token) (operand : Expr) → expr_part names (expr.Prefix marks operand) ≡ expr_layer names (Expr-F.Prefix marks (expr_part names operand))
  expr-Prefix marks operand = ap (expr_part names) (sym (expr.rolls-Prefix marks operand)) ∙ expr_rolled (Expr-F.Prefix marks operand)

  pub expr-Level : (first : Expr) (more : List Step) → expr_part names (expr.Level first more) ≡ expr_layer names (Expr-F.Level (expr_part names first) (map (step_part names) more))
  expr-Level first more = ap (expr_part names) (sym (expr.rolls-Level first more)) ∙ expr_rolled (Expr-F.Level first more)

  pub expr-Choose : (choices : List Choice) (last : Expr) → expr_part names (expr.Choose choices last) ≡ expr_layer names (Expr-F.Choose (map (choice_part names) choices) (expr_part names last))
  expr-Choose choices last = ap (expr_part names) (sym (expr.rolls-Choose choices last)) ∙ expr_rolled (Expr-F.Choose choices last)

  pub select-Bit : (opens : Token) (at : Expr) (closes : Token) → select_part names (select.Bit opens at closes) ≡ select_layer names (Select-F.Bit opens (expr_part names at) closes)
  select-Bit opens at closes = ap (select_part names) (sym (select.rolls-Bit opens at closes)) ∙ select_rolled (Select-F.Bit opens at closes)

  pub select-Part : (opens : Token) (from : Expr) (mark : Token) (to : Expr) (closes : Token) → select_part names (select.Part opens from mark to closes) ≡ select_layer names (Select-F.Part opens (expr_part names from) mark (expr_part names to) closes)
  select-Part opens from mark to closes = ap (select_part names) (sym (select.rolls-Part opens from mark to closes)) ∙ select_rolled (Select-F.Part opens from mark to closes)

  pub choice-roll : (test : Expr) (question : Token) (value : Expr) (colon : Token)
      → choice_part names (roll-Choice (record { test = test; question = question; value = value; colon = colon })) ≡ choice_layer names (record { test = expr_part names test; question = question; value = expr_part names value; colon = colon })
  choice-roll test question value colon = choice_rolled (record { test = test; question = question; value = value; colon = colon })

  pub step-roll : (mark : Token) (operand : Expr) → step_part names (roll-Step (record { mark = mark; operand = operand })) ≡ step_layer names (record { mark = mark; operand = expr_part names operand })
  step-roll mark operand = step_rolled (record { mark = mark; operand = operand })

  -- ---- with the trees of the parts that are told whole

  pub events-Name : (name : Token) (selects : List Select) (constant : Bool)
      → events names (expr.Name name selects) constant ≡ Term ∷ Named name selects constant ∷ select_events names selects constant
  events-Name name selects constant =
      ap (λ p. p.events constant) (expr-Name name selects)
      ∙ ap (λ ts. Term ∷ Named name ts constant ∷ select_events names selects constant) (selects_whole selects)

  pub events-Call : (name opens : Token) (args : Args) (closes : Token) (constant : Bool)
      → events names (expr.Call name opens args closes) constant ≡ Term ∷ Called name args constant ∷ args_events names args constant
  events-Call name opens args closes constant =
      ap (λ p. p.events constant) (expr-Call name opens args closes)
      ∙ ap (λ t. Term ∷ Called name t constant ∷ args_events names args constant) (args_whole args)

  pub written-Name : (name : Token) (selects : List Select)
      → written_events names (expr.Name name selects) ≡ Written name selects ∷ select_events names selects false
  written-Name name selects =
      ap (λ p. p.written) (expr-Name name selects) ∙ ap (λ ts. Written name ts ∷ select_events names selects false) (selects_whole selects)
