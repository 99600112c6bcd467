use Rattle.std.proofs.Common.{◌≡◌, ◌≤◌, ◌-◌, None, length, replicate}
use Rattle.sv_pp.proofs.macros.Table.new.Given as goal

abbrev pub invariant-loop-bodies : goal.invariant-loop-bodies
invariant-loop-bodies l = (l.bodies.items ≡ replicate (length l.bodies.items) None) × (length l.bodies.items ≤ length l.names)

abbrev pub decreases-loop-bodies : goal.decreases-loop-bodies
decreases-loop-bodies l = length l.names - length l.bodies.items
