use Rattle.std.proofs.Common.{◌≡◌, ◌≤◌, ◌+◌, ◌++◌, length}
use Rattle.vcd_out.specs.Header.{declarations}
use Rattle.vcd_out.proofs.head.declare.Given as goal

abbrev pub invariant-lines : goal.invariant-lines
invariant-lines l = record {
  written : l.text.items ++ declarations l.design.vars l.design.scopes l.k l.rest ≡ l.fn.text.items ++ declarations l.design.vars l.design.scopes 0 l.lines;
  count : l.k + length l.rest ≤ length l.lines;
}

abbrev pub decreases-lines : goal.decreases-lines
decreases-lines l = length l.rest
