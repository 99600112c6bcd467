use Rattle.std.proofs.Common.{arith}
use Rattle.sv_pp.proofs.Tables.{keeps_filled}
use Rattle.sv_pp.proofs.macros.Table.new.Goals as goal

pub returns-clause-empty : goal.returns-clause-empty
returns-clause-empty c = keeps_filled (λ body. body.items) c.args.names.now c.loop-bodies.bodies.items c.len-in-loop-bodies.ensures.once c.loop-bodies.invariant.0 (omega arith)
