use Rattle.parse_expr.specs.ParsedLaws.{◌and◌}
use Rattle.sv_parse.proofs.modules.module_rest.Goals as goal

pub returns-clause-reads : goal.returns-clause-reads
returns-clause-reads c = c.in_ok-ports.ensures.reads and c.in_ok-body.ensures.reads
