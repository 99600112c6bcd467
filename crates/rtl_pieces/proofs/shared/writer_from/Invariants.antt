use Rattle.std.proofs.Common.{◌≡◌, None, length}
use Rattle.rtl_pieces.specs.Owned.{least_of}
use Rattle.rtl_pieces.proofs.shared.writer_from.Given as goal

abbrev pub invariant-loop-rest : goal.invariant-loop-rest
invariant-loop-rest l = least_of l.least l.place l.found l.rest ≡ least_of l.least l.place None l.all

abbrev pub decreases-loop-rest : goal.decreases-loop-rest
decreases-loop-rest l = length l.rest
