use Rattle.rtl_pieces.proofs.Finding.{few_items, placed_line}
use Rattle.rtl_pieces.proofs.expand.bits_written.Goals as goal

pub bits_of-requires-clause-placed : goal.bits_of-requires-clause-placed
bits_of-requires-clause-placed c = placed_line c.in_ok-line.line c.args.design.now.vars c.args.design.now.mems c.in_ok-line.ensures.value

pub bits_of-requires-clause-mems : goal.bits_of-requires-clause-mems
bits_of-requires-clause-mems c = few_items c.in_ok-line.line c.args.design.now.vars c.args.design.now.mems c.in_ok-line.ensures.value c.requires.mems
