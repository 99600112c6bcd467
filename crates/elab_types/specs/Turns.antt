-- The turns of loops (IEEE 1800-2017 12.7.1, 27.4).
use Rattle.std.specs.Prelude.{ℕ, Bool, true, false, if◌then◌else◌, List, Option, None}
use Rattle.vs_base.specs.declared.types.ValueType.{ValueType}
use Rattle.vs_base.specs.Number.{Number, kept, added}
use Rattle.vs_base.specs.Operators.{holds_true, subtracted}
use Rattle.sv_tree.specs.declared.symbol.Symbol.{Symbol}
use Rattle.sv_tree.specs.declared.symbol.Symbol.TheVariants as sym
use Rattle.sv_tree.specs.declared.token.Token.{Token}
use Rattle.sv_tree.specs.declared.tree.expr.Expr.{Expr}
use Rattle.sv_tree.specs.declared.tree.stmt.LoopStep.{LoopStep}
use Rattle.sv_tree.specs.declared.tree.stmt.LoopStep.TheVariants as step
use Rattle.sv_tree.specs.declared.tree.words.Setting.{Setting}
use Rattle.sv_tree.specs.Spelling.{symbol_of}
use Rattle.vs_base.specs.Types.{wider, in_context}
use Rattle.sv_expr.specs.declared.fault.WalkFault.{WalkFault}
use Rattle.sv_expr.specs.Environment.{Environment}
use Rattle.sv_expr.specs.Meaning.{TypeOf, FirstFault, ValueOf}
use Rattle.elab_types.specs.Value as values

-- `--` takes 1 from it, `++` adds 1
abbrev pub by_one : Symbol → Number → Number
by_one sym.MinusMinus value = subtracted value (kept 32 1)
by_one _ value = added value (kept 32 1)

abbrev pub stepped : List (List ℕ) → Token → Number → Number
stepped texts mark value = by_one (symbol_of texts mark) value

module _ (env : Environment) where
  -- a test holds where its value alone is not 0
  abbrev pub holds : Expr → Bool
  holds e = holds_true (ValueOf env e (TypeOf env e))

  -- the sum or the difference in the context of both
  abbrev pub moved : Expr → Number → Bool → Number
  moved e value down =
      let context : ValueType = wider values.counter (TypeOf env e) in
      values.cut_to 32 (if down then subtracted (in_context value context) (ValueOf env e context) else added (in_context value context) (ValueOf env e context))

  abbrev pub set_by : Symbol → Expr → Number → Number
  set_by sym.PlusAssign e value = moved e value false
  set_by sym.MinusAssign e value = moved e value true
  set_by _ e value = values.assigned env e 32

  abbrev pub set : Setting → Number → Number
  set setting value = set_by (symbol_of env.texts setting.mark) setting.value value

  abbrev pub next : LoopStep → Number → Number
  next (step.Set setting) value = set setting value
  next (step.After name mark) value = stepped env.texts mark value
  next (step.Before mark name) value = stepped env.texts mark value

  abbrev pub step_fault : LoopStep → Option WalkFault
  step_fault (step.Set setting) = FirstFault env setting.value
  step_fault (step.After name mark) = None
  step_fault (step.Before mark name) = None
