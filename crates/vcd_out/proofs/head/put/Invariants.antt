use Rattle.std.proofs.Common.{◌≡◌, ◌++◌, take}
use Rattle.vcd_out.specs.Header.{joined}
use Rattle.vcd_out.proofs.head.put.Given as goal

abbrev pub invariant-loop-piece : goal.invariant-loop-piece
invariant-loop-piece l = l.text.items ≡ l.fn.text.items ++ joined (take l.piece-index l.pieces)
