use Rattle.std.proofs.Common.{◌≡◌, length, map}
use Rattle.sv_tree.specs.Spelling.{symbol_of}
use Rattle.sv_expr.specs.Meaning.{prefix_kind}
use Rattle.sv_expr.proofs.combine.prefix_kind.Given as goal

abbrev pub invariant-loop-rest : goal.invariant-loop-rest
invariant-loop-rest l = prefix_kind (map (symbol_of l.names) l.rest) l.kind ≡ prefix_kind (map (symbol_of l.names) l.marks) l.kind

abbrev pub decreases-loop-rest : goal.decreases-loop-rest
decreases-loop-rest l = length l.rest
