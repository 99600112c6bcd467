use Rattle.std.proofs.Common.{◌≡◌, ap, ◌∙◌}
use Rattle.std.specs.Prelude.{◌==◌, ◌%◌}
use Rattle.vs_base.specs.declared.limits.TheConstants.{WORD}
use Rattle.rtl_pieces.specs.Words.{noted, marked, begins}
use Rattle.rtl_pieces.proofs.Cutting.{mark_more}
use Rattle.rtl_pieces.proofs.pieces.mark_element.Goals as goal

pub loop-bit-preserved : goal.loop-bit-preserved
loop-bit-preserved c =
    let writer = noted c.args.writers.now in
    let first = c.args.first in
    let bit = c.loop-bit.bit in (
      λ b. mark_more (begins writer first) (marked c.args.marks.now b) (marked c.loop-bit.marks b) (marked c.mark.new.marks b) b bit (c.loop-bit.same % WORD == 0) (ap (λ n. n % WORD == 0) c.loop-bit.invariant.1) (c.loop-bit.invariant.0 b) (c.mark.ensures b),
      c.same_below_next-same.ensures.same,
      c.same_below_next-same.ensures.few,
    )
