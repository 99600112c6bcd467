-- How expressions read (IEEE 1800-2017 A.8.1 to A.8.4, 11.3.2).
use Rattle.std.specs.Prelude.{ℕ, suc, Bool, true, false, not, ◌&&◌, ◌==◌, nat_le, List, [], ◌∷◌, map}
use Rattle.sv_tree.specs.declared.symbol.Symbol.TheVariants as sym
use Rattle.sv_tree.specs.declared.token.Token.{Token}
use Rattle.sv_tree.specs.declared.tree.expr.Expr.{Expr}
use Rattle.sv_tree.specs.declared.tree.expr.Args.{Args}
use Rattle.sv_tree.specs.declared.tree.expr.Choice.{Choice}
use Rattle.sv_tree.specs.declared.tree.expr.Select.{Select}
use Rattle.sv_tree.specs.declared.tree.expr.Step.{Step}
use Rattle.sv_tree.specs.declared.tree.expr.Args.TheOpen.{Args-F, Expr-F, Select-F, Choice-F, Step-F}
use Rattle.sv_tree.specs.declared.tree.expr.Args.TheFolds as folds
use Rattle.sv_tree.specs.Symbol.{level_of, is_prefix, is_part}
use Rattle.sv_tree.specs.TreeRead.{Symbols, Read, any, one_of, token, ◌then◌, deeper, asks, nothing, each, all_of}

abbrev pub is_empty : {A : Type 0} → List A → Bool
is_empty [] = true
is_empty (x ∷ xs) = false

-- an expression, and how loosely it binds: 0 a primary, 1 with prefix operators, one more than the level of its operators, 12 with `?:`
pub record ExprRead : Type 0 where
  pub text : Read
  pub rank : Symbols → ℕ

-- a mark and the operand after it
pub record StepRead : Type 0 where
  pub mark : Token
  pub operand : ExprRead

-- ---- operators of one level

abbrev pub operators : List StepRead → Read
operators = each (λ x. any x.mark then x.operand.text)

abbrev pub first_level : Symbols → List StepRead → ℕ
first_level s [] = 0
first_level s (x ∷ xs) = level_of (s x.mark)

-- the marks are operators of the level, and their operands bind tighter
abbrev pub are_level : Symbols → ℕ → List StepRead → Bool
are_level s level [] = true
are_level s level (x ∷ xs) = level_of (s x.mark) == level && nat_le (x.operand.rank s) level && are_level s level xs

-- there is an operator, and it is of a level with all that follow, after an operand that binds tighter
abbrev pub is_level : ExprRead → List StepRead → Symbols → Bool
is_level first more s = nat_le 1 (first_level s more) && nat_le (first.rank s) (first_level s more) && are_level s (first_level s more) more

-- ---- one layer of an expression, over what its parts read as

abbrev pub primary : Read → ExprRead
primary a = record { text = a; rank = λ s. 0 }

-- further operands, each after a comma
abbrev pub listed : List StepRead → Read
listed = each (λ x. token sym.Comma x.mark then x.operand.text)

abbrev pub read_args : Args-F Read ExprRead Read Read StepRead → Read
read_args Args-F.Empty = nothing
read_args (Args-F.Listed first more) = first.text then listed more

abbrev pub read_select : Select-F Read ExprRead Read Read StepRead → Read
read_select (Select-F.Bit opens at closes) =
    deeper (token sym.BracketOpen opens then at.text then token sym.BracketClose closes)
read_select (Select-F.Part opens from mark to closes) =
    deeper (token sym.BracketOpen opens then from.text then one_of is_part mark then to.text then token sym.BracketClose closes)

-- the value stands in the choice, its marks beside it
abbrev pub read_choice : Choice-F Read ExprRead Read Read StepRead → Read
read_choice c =
    asks (λ s. nat_le (c.test.rank s) 11) then c.test.text then token sym.Question c.question
    then deeper c.value.text then token sym.Colon c.colon

abbrev pub read_step : Step-F Read ExprRead Read Read StepRead → StepRead
read_step x = record { mark = x.mark; operand = x.operand }

abbrev pub read_expr : Expr-F Read ExprRead Read Read StepRead → ExprRead
read_expr (Expr-F.Decimal t) = primary (token sym.Decimal t)
read_expr (Expr-F.Based t) = primary (token sym.Based t)
read_expr (Expr-F.Sized size digits) = primary (token sym.Decimal size then token sym.Based digits)
read_expr (Expr-F.Fill t) = primary (token sym.Fill t)
read_expr (Expr-F.Name name selects) = primary (token sym.Name name then all_of selects)
read_expr (Expr-F.Paren opens inner closes) =
    primary (deeper (token sym.ParenOpen opens then inner.text then token sym.ParenClose closes))
read_expr (Expr-F.Concat opens first more closes) =
    primary (deeper (token sym.BraceOpen opens then first.text then listed more then token sym.BraceClose closes))
read_expr (Expr-F.Repeat opens count inner_opens first more inner_closes closes) =
    primary (deeper (
    token sym.BraceOpen opens then count.text
    then deeper (token sym.BraceOpen inner_opens then first.text then listed more then token sym.BraceClose inner_closes)
    then token sym.BraceClose closes))
read_expr (Expr-F.Call name opens args closes) =
    primary (token sym.Name name then deeper (token sym.ParenOpen opens then args then token sym.ParenClose closes))
read_expr (Expr-F.System name opens arg closes) =
    primary (token sym.System name then deeper (token sym.ParenOpen opens then arg.text then token sym.ParenClose closes))
read_expr (Expr-F.Prefix marks operand) = record {
  text = asks (λ s. not (is_empty marks) && nat_le (operand.rank s) 0) then each (one_of is_prefix) marks then operand.text;
  rank = λ s. 1;
}
read_expr (Expr-F.Level first more) = record {
  text = asks (is_level first more) then first.text then operators more;
  rank = λ s. suc (first_level s more);
}
read_expr (Expr-F.Choose choices last) = record {
  text = asks (λ s. not (is_empty choices) && nat_le (last.rank s) 11) then all_of choices then last.text;
  rank = λ s. 12;
}

-- ---- whole expressions

unfoldable pub args_read : Args → Read
args_read = folds.fold-Args Read ExprRead Read Read StepRead read_args read_expr read_select read_choice read_step

unfoldable pub expr_read : Expr → ExprRead
expr_read = folds.fold-Expr Read ExprRead Read Read StepRead read_args read_expr read_select read_choice read_step

unfoldable pub select_read : Select → Read
select_read = folds.fold-Select Read ExprRead Read Read StepRead read_args read_expr read_select read_choice read_step

unfoldable pub choice_read : Choice → Read
choice_read = folds.fold-Choice Read ExprRead Read Read StepRead read_args read_expr read_select read_choice read_step

unfoldable pub step_read : Step → StepRead
step_read = folds.fold-Step Read ExprRead Read Read StepRead read_args read_expr read_select read_choice read_step

abbrev pub expr : Expr → Read
expr e = (expr_read e).text

abbrev pub selects : List Select → Read
selects chosen = all_of (map select_read chosen)

-- further operands of a list, each after a comma
abbrev pub steps : List Step → Read
steps more = listed (map step_read more)
