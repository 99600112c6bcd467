use Rattle.std.proofs.Common.{◌∙◌, ap}
use Rattle.sv_tree.specs.Symbol.{same}
use Rattle.parse_expr.proofs.Compared.{compared}
use Rattle.parse_expr.proofs.source.Source.sees.Goals as goal

pub returns : goal.returns
returns c = c.eq.ensures ∙ compared c.peek.result c.args.symbol ∙ ap (same c.args.symbol) c.peek.ensures
