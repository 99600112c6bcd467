use Rattle.std.proofs.Common.{◌<◌, length, arith}
use Rattle.rtl_pieces.specs.Words.{noted}
use Rattle.rtl_pieces.proofs.Marking.{range_more}
use Rattle.rtl_pieces.proofs.writer.mark_range.Goals as goal

pub loop-place-preserved : goal.loop-place-preserved
loop-place-preserved c =
    let start = c.args.writers.now in
    let within : c.loop-place.place < length start = omega arith in (
      λ b. range_more (noted start b) (noted c.loop-place.writers b) (noted c.mark.new.writers b) b c.args.range.from c.loop-place.place (length start) c.args.proc c.loop-place.invariant.1 within (c.loop-place.invariant.0 b) (c.mark.ensures b),
      omega arith,
      omega arith,
    )
