use Rattle.std.proofs.Common.{◌∙◌, ap}
use Rattle.sv_tree.specs.declared.symbol.Symbol.{Symbol}
use Rattle.sv_tree.specs.Spelling.{symbol_of}
use Rattle.sv_expr.specs.Operator.{prefixed}
use Rattle.sv_expr.proofs.Prefixes.{next_out}
use Rattle.sv_expr.proofs.prefix.prefixed_all.Goals as goal

pub loop-done-preserved : goal.loop-done-preserved
loop-done-preserved c =
    c.prefixed-value.ensures ∙ ap (λ (s : Symbol). prefixed s c.loop-done.value) c.symbol.ensures
    ∙ ap (prefixed _) c.loop-done.invariant ∙ next_out (symbol_of c.args.names.now) c.args.marks.now c.loop-done.done _ c.args.operand c.loop-done-test.true
