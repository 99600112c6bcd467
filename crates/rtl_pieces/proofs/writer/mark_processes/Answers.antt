use Rattle.rtl_pieces.specs.Bits.{writes}
use Rattle.rtl_pieces.specs.Words.{noted}
use Rattle.rtl_pieces.proofs.Marking.{writer_more}
use Rattle.rtl_pieces.proofs.writer.mark_processes.Goals as goal

pub loop-proc-preserved : goal.loop-proc-preserved
loop-proc-preserved c = λ b.
    writer_more (writes c.args.line.now c.args.design.now.procs) c.loop-proc.proc b (noted c.loop-proc.writers b) (noted c.mark_process.new.writers b) (c.loop-proc.invariant b) (c.in_ok-mark_process.ensures b)
