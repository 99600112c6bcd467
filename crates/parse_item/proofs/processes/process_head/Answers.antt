use Rattle.std.proofs.Common.{refl}
use Rattle.sv_tree.specs.declared.symbol.Symbol.TheVariants as symbol
use Rattle.parse_stmt.specs.BodyLaws.{takes_not}
use Rattle.parse_item.proofs.processes.process_head.Goals as goal

pub returns-clause-first : goal.returns-clause-first
returns-clause-first c = takes_not c.in_ok-word.ensures.token symbol.If refl
