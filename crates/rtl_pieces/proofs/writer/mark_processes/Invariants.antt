use Rattle.std.proofs.Common.{◌≡◌, ℕ}
use Rattle.rtl_pieces.specs.Bits.{writes}
use Rattle.rtl_pieces.specs.Words.{noted, first_writer}
use Rattle.rtl_pieces.proofs.writer.mark_processes.Given as goal

abbrev pub invariant-loop-proc : goal.invariant-loop-proc
invariant-loop-proc l = (b : ℕ) → noted l.writers b ≡ first_writer (writes l.line l.design.procs) 0 l.proc b
