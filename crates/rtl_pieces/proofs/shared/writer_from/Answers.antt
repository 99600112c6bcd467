use Rattle.std.proofs.Common.{None}
use Rattle.rtl_pieces.specs.Owned.{least_of}
use Rattle.rtl_pieces.proofs.Least.{least_all, least_end}
use Rattle.rtl_pieces.proofs.shared.writer_from.Goals as goal

pub returns : goal.returns
returns c =
    least_all c.args.least c.args.place c.args.all.now c.loop-rest.found
    (least_end c.args.least c.args.place c.loop-rest.found c.loop-rest.rest.now (least_of c.args.least c.args.place None c.args.all.now) c.in_default.len_below c.loop-rest.invariant)
