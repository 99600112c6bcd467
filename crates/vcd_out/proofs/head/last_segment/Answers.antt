use Rattle.vcd_out.proofs.Segments.{segment_starts}
use Rattle.vcd_out.proofs.head.last_segment.Goals as goal

pub bytes-init : goal.bytes-init
bytes-init c = segment_starts c.args.path.now
