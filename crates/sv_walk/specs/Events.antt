-- What a walk over an expression meets, in token order, and which places need a constant.
use Rattle.std.specs.Prelude.{ℕ, Bool, true, false, ◌||◌, List, [], ◌∷◌, ◌++◌, map, get_or, codes}
use Rattle.std.specs.List.{flat_map}
use Rattle.std.specs.Str.{bytes_eq}
use Rattle.sv_tree.specs.declared.token.Token.{Token}
use Rattle.sv_tree.specs.declared.tree.expr.Expr.{Expr}
use Rattle.sv_tree.specs.declared.tree.expr.Args.{Args}
use Rattle.sv_tree.specs.declared.tree.expr.Choice.{Choice}
use Rattle.sv_tree.specs.declared.tree.expr.Select.{Select}
use Rattle.sv_tree.specs.declared.tree.expr.Step.{Step}
use Rattle.sv_tree.specs.declared.tree.expr.Args.TheOpen.{Args-F, Expr-F, Select-F, Choice-F, Step-F}
use Rattle.sv_tree.specs.declared.tree.expr.Args.TheViews.{roll-Args, roll-Expr, roll-Select, roll-Choice, roll-Step}
use Rattle.sv_tree.specs.declared.tree.expr.Args.TheFolds as folds

-- what a visitor is told
pub data Event : Type 0 where
  -- a name that is read, with its selects, and whether its place needs a constant
  Named : (name : Token) → (selects : List Select) → (constant : Bool) → Event
  -- the call of an import, with its arguments, and whether its place needs a constant
  Called : (name : Token) → (args : Args) → (constant : Bool) → Event
  -- a name that is written, with its selects
  Written : (name : Token) → (selects : List Select) → Event
  -- a primary, an operator, a `?` or a select
  Term : Event

-- A part of an expression, and what is met in it: where it is read, by whether its place needs a constant, and where it is written.
pub record Part (A : Type 0) : Type 0 where
  pub tree : A
  pub events : Bool → List Event
  pub written : List Event

abbrev pub trees : {A : Type 0} → List (Part A) → List A
trees = map (λ part. part.tree)

-- one part after another
abbrev pub each : {A : Type 0} → List (Part A) → Bool → List Event
each parts constant = flat_map (λ part. part.events constant) parts

-- the same, an operator before each
abbrev pub each_after_operator : {A : Type 0} → List (Part A) → Bool → List Event
each_after_operator parts constant = flat_map (λ part. Term ∷ part.events constant) parts

-- one part after another, where they are written
abbrev pub each_written : {A : Type 0} → List (Part A) → List Event
each_written parts = flat_map (λ part. part.written) parts

-- a term for each operator
abbrev pub operators : List Token → List Event
operators marks = map (λ mark. Term) marks

-- ---- one layer of an expression, over what is met in its parts

abbrev pub ArgsLayer : Type 0
ArgsLayer = Args-F (Part Args) (Part Expr) (Part Select) (Part Choice) (Part Step)

abbrev pub ExprLayer : Type 0
ExprLayer = Expr-F (Part Args) (Part Expr) (Part Select) (Part Choice) (Part Step)

abbrev pub SelectLayer : Type 0
SelectLayer = Select-F (Part Args) (Part Expr) (Part Select) (Part Choice) (Part Step)

abbrev pub ChoiceLayer : Type 0
ChoiceLayer = Choice-F (Part Args) (Part Expr) (Part Select) (Part Choice) (Part Step)

abbrev pub StepLayer : Type 0
StepLayer = Step-F (Part Args) (Part Expr) (Part Select) (Part Choice) (Part Step)

-- where it is written: names with selects, and braces of such. All else is passed over.
abbrev pub expr_written : ExprLayer → List Event
expr_written (Expr-F.Name name selects) = Written name (trees selects) ∷ each selects false
expr_written (Expr-F.Concat opens first more closes) = first.written ++ each_written more
expr_written _ = []

abbrev pub args_met : ArgsLayer → Bool → List Event
args_met Args-F.Empty constant = []
args_met (Args-F.Listed first more) constant = first.events constant ++ each more constant

-- the `?` stands between the test and the value
abbrev pub choice_met : ChoiceLayer → Bool → List Event
choice_met x constant = x.test.events constant ++ Term ∷ x.value.events constant

module _ (names : List (List ℕ)) where
  -- by the table in which its number stands
  abbrev pub is_spelled : Token → List ℕ → Bool
  is_spelled t text = bytes_eq (get_or names t.name.0 []) text

  -- in this subset its argument needs a constant (20.8.1)
  abbrev pub is_ceiling_log : Token → Bool
  is_ceiling_log name = is_spelled name (codes "$clog2")

  -- both ends of `[m:l]` need a constant, where of `[e +: c]` and `[e -: c]` the width alone does (11.5.1)
  abbrev pub is_range : Token → Bool
  is_range mark = is_spelled mark (codes ":")

  -- the count of a replication needs a constant (11.4.12.1)
  abbrev pub expr_met : ExprLayer → Bool → List Event
  expr_met (Expr-F.Decimal t) constant = Term ∷ []
  expr_met (Expr-F.Based t) constant = Term ∷ []
  expr_met (Expr-F.Sized size digits) constant = Term ∷ []
  expr_met (Expr-F.Fill t) constant = Term ∷ []
  expr_met (Expr-F.Name name selects) constant = Term ∷ Named name (trees selects) constant ∷ each selects constant
  expr_met (Expr-F.Paren opens inner closes) constant = Term ∷ inner.events constant
  expr_met (Expr-F.Concat opens first more closes) constant = Term ∷ first.events constant ++ each more constant
  expr_met (Expr-F.Repeat opens count inner_opens first more inner_closes closes) constant =
      Term ∷ count.events true ++ (first.events constant ++ each more constant)
  expr_met (Expr-F.Call name opens args closes) constant = Term ∷ Called name args.tree constant ∷ args.events constant
  expr_met (Expr-F.System name opens arg closes) constant = Term ∷ arg.events (constant || is_ceiling_log name)
  expr_met (Expr-F.Prefix marks operand) constant = operators marks ++ operand.events constant
  expr_met (Expr-F.Level first more) constant = first.events constant ++ each_after_operator more constant
  expr_met (Expr-F.Choose choices last) constant = each choices constant ++ last.events constant

  abbrev pub select_met : SelectLayer → Bool → List Event
  select_met (Select-F.Bit opens at closes) constant = Term ∷ at.events constant
  select_met (Select-F.Part opens from mark to closes) constant = Term ∷ from.events (constant || is_range mark) ++ to.events true

  abbrev pub args_layer : ArgsLayer → Part Args
  args_layer x = record {
    tree = roll-Args (folds.map-Args (Part Args) (Part Expr) (Part Select) (Part Choice) (Part Step) Args Expr Select Choice Step (λ p. p.tree) (λ p. p.tree) (λ p. p.tree) (λ p. p.tree) (λ p. p.tree) x);
    events = args_met x;
    written = [];
  }

  abbrev pub expr_layer : ExprLayer → Part Expr
  expr_layer x = record {
    tree = roll-Expr (folds.map-Expr (Part Args) (Part Expr) (Part Select) (Part Choice) (Part Step) Args Expr Select Choice Step (λ p. p.tree) (λ p. p.tree) (λ p. p.tree) (λ p. p.tree) (λ p. p.tree) x);
    events = expr_met x;
    written = expr_written x;
  }

  abbrev pub select_layer : SelectLayer → Part Select
  select_layer x = record {
    tree = roll-Select (folds.map-Select (Part Args) (Part Expr) (Part Select) (Part Choice) (Part Step) Args Expr Select Choice Step (λ p. p.tree) (λ p. p.tree) (λ p. p.tree) (λ p. p.tree) (λ p. p.tree) x);
    events = select_met x;
    written = [];
  }

  abbrev pub choice_layer : ChoiceLayer → Part Choice
  choice_layer x = record {
    tree = roll-Choice (folds.map-Choice (Part Args) (Part Expr) (Part Select) (Part Choice) (Part Step) Args Expr Select Choice Step (λ p. p.tree) (λ p. p.tree) (λ p. p.tree) (λ p. p.tree) (λ p. p.tree) x);
    events = choice_met x;
    written = [];
  }

  -- of a mark and an operand, what is met in the operand
  abbrev pub step_layer : StepLayer → Part Step
  step_layer x = record {
    tree = roll-Step (folds.map-Step (Part Args) (Part Expr) (Part Select) (Part Choice) (Part Step) Args Expr Select Choice Step (λ p. p.tree) (λ p. p.tree) (λ p. p.tree) (λ p. p.tree) (λ p. p.tree) x);
    events = x.operand.events;
    written = x.operand.written;
  }

  -- ---- whole expressions

  unfoldable pub args_part : Args → Part Args
  args_part = folds.fold-Args (Part Args) (Part Expr) (Part Select) (Part Choice) (Part Step) args_layer expr_layer select_layer choice_layer step_layer

  unfoldable pub expr_part : Expr → Part Expr
  expr_part = folds.fold-Expr (Part Args) (Part Expr) (Part Select) (Part Choice) (Part Step) args_layer expr_layer select_layer choice_layer step_layer

  unfoldable pub select_part : Select → Part Select
  select_part = folds.fold-Select (Part Args) (Part Expr) (Part Select) (Part Choice) (Part Step) args_layer expr_layer select_layer choice_layer step_layer

  unfoldable pub choice_part : Choice → Part Choice
  choice_part = folds.fold-Choice (Part Args) (Part Expr) (Part Select) (Part Choice) (Part Step) args_layer expr_layer select_layer choice_layer step_layer

  unfoldable pub step_part : Step → Part Step
  step_part = folds.fold-Step (Part Args) (Part Expr) (Part Select) (Part Choice) (Part Step) args_layer expr_layer select_layer choice_layer step_layer

  -- what is met in an expression that is read
  abbrev pub events : Expr → Bool → List Event
  events e = (expr_part e).events

  -- in the arguments of a call
  abbrev pub args_events : Args → Bool → List Event
  args_events a = (args_part a).events

  -- in the selects of a name
  abbrev pub select_events : List Select → Bool → List Event
  select_events selects = each (map select_part selects)

  -- in an expression that is written
  abbrev pub written_events : Expr → List Event
  written_events e = (expr_part e).written
