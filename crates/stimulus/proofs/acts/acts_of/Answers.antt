use Rattle.std.proofs.Common.{arith}
use Rattle.stimulus.specs.Stimulus.{design_ports}
use Rattle.stimulus.proofs.Turns.{starts}
use Rattle.stimulus.proofs.acts.acts_of.Goals as goal

pub lines-init : goal.lines-init
lines-init c = record {
  few = omega arith;
  short = omega arith;
  kept = rw c.new-acts.ensures.items (starts (design_ports c.args.design.now) c.args.bytes.now);
}
