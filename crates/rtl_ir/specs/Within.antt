-- When an expression and a statement fit a design: every number in them names a variable, a memory or an import that is there.
use Rattle.std.specs.Prelude.{ℕ, suc, Bool, true, false, ◌&&◌, if◌then◌else◌, nat_lt, nat_le, ◌==◌, List, [], ◌∷◌, length, Option, Some, None}
use Rattle.vs_base.specs.declared.limits.TheConstants.{CALL_ARGUMENTS}
use Rattle.rtl_ir.specs.declared.counts.Counts.{Counts}
use Rattle.rtl_ir.specs.declared.expr.Expr.{Expr}
use Rattle.rtl_ir.specs.declared.expr.ExprNode.{ExprNode}
use Rattle.rtl_ir.specs.declared.expr.Choice.{Choice}
use Rattle.rtl_ir.specs.declared.expr.Call.{Call}
use Rattle.rtl_ir.specs.declared.expr.Target.{Target}
use Rattle.rtl_ir.specs.declared.expr.Select.{Select}
use Rattle.rtl_ir.specs.declared.expr.ExprNode.TheOpen.{Expr-F, ExprNode-F, Choice-F, Call-F, Target-F, Select-F}
use Rattle.rtl_ir.specs.declared.expr.ExprNode.TheFolds as exprs

-- all of them hold
abbrev pub all_true : List Bool → Bool
all_true [] = true
all_true (b ∷ more) = b && all_true more

-- where there is one, it holds
abbrev pub none_or : Option Bool → Bool
none_or (Some b) = b
none_or None = true

-- there is one, and it holds
abbrev pub some_true : Option Bool → Bool
some_true (Some b) = b
some_true None = false

abbrev pub is_none_of : Option Bool → Bool
is_none_of (Some b) = false
is_none_of None = true

module _ (counts : Counts) where
  -- ---- one layer, over whether its parts fit

  -- at most as many arguments as an import may have
  abbrev pub call_layer : Call-F (ℕ → Bool) Bool Bool Bool Bool Bool → Bool
  call_layer c = nat_lt c.import counts.imports && (nat_le (length c.args) CALL_ARGUMENTS && all_true c.args)

  abbrev pub choice_layer : Choice-F (ℕ → Bool) Bool Bool Bool Bool Bool → Bool
  choice_layer c = c.test && c.value

  abbrev pub select_layer : Select-F (ℕ → Bool) Bool Bool Bool Bool Bool → Bool
  select_layer s = s.at

  -- a memory is read and written by elements, a variable has none
  abbrev pub item_fits : Bool → ℕ → Option Bool → Bool
  item_fits mem item element = if mem then nat_lt item counts.mems && some_true element else nat_lt item counts.vars && is_none_of element

  abbrev pub target_layer : Target-F (ℕ → Bool) Bool Bool Bool Bool Bool → Bool
  target_layer t = item_fits t.mem t.item t.element && none_or t.select

  -- by the width of the expression: a constant is as wide; there is one operand more than operators of one level
  abbrev pub node_layer : ExprNode-F (ℕ → Bool) Bool Bool Bool Bool Bool → ℕ → Bool
  node_layer (ExprNode-F.Const value) width = value.width == width
  node_layer (ExprNode-F.Read target) width = target
  node_layer (ExprNode-F.Prefix operators operand) width = operand
  node_layer (ExprNode-F.Level operands operators) width = (length operands == suc (length operators)) && all_true operands
  node_layer (ExprNode-F.Choose choices last) width = all_true choices && last
  node_layer (ExprNode-F.Concat parts) width = all_true parts
  node_layer (ExprNode-F.Repeat count parts) width = all_true parts
  node_layer (ExprNode-F.Call call) width = call
  node_layer (ExprNode-F.Sign operand) width = operand

  abbrev pub expr_layer : Expr-F (ℕ → Bool) Bool Bool Bool Bool Bool → Bool
  expr_layer e = e.node e.width

  -- ---- whole expressions

  unfoldable pub node_fits : ExprNode → ℕ → Bool
  node_fits = exprs.fold-ExprNode (ℕ → Bool) Bool Bool Bool Bool Bool node_layer call_layer choice_layer expr_layer select_layer target_layer

  unfoldable pub call_fits : Call → Bool
  call_fits = exprs.fold-Call (ℕ → Bool) Bool Bool Bool Bool Bool node_layer call_layer choice_layer expr_layer select_layer target_layer

  unfoldable pub choice_fits : Choice → Bool
  choice_fits = exprs.fold-Choice (ℕ → Bool) Bool Bool Bool Bool Bool node_layer call_layer choice_layer expr_layer select_layer target_layer

  unfoldable pub expr_fits : Expr → Bool
  expr_fits = exprs.fold-Expr (ℕ → Bool) Bool Bool Bool Bool Bool node_layer call_layer choice_layer expr_layer select_layer target_layer

  unfoldable pub select_fits : Select → Bool
  select_fits = exprs.fold-Select (ℕ → Bool) Bool Bool Bool Bool Bool node_layer call_layer choice_layer expr_layer select_layer target_layer

  unfoldable pub target_fits : Target → Bool
  target_fits = exprs.fold-Target (ℕ → Bool) Bool Bool Bool Bool Bool node_layer call_layer choice_layer expr_layer select_layer target_layer
