use Rattle.std.proofs.Common.{◌≡◌, ◌+◌, ◌≤◌, length}
use Rattle.vs_base.specs.declared.limits.TheConstants.{EVALS}
use Rattle.stimulus.specs.Stimulus.{design_ports, followed_by, stim_acts}
use Rattle.stimulus.proofs.Turns.{rest_acts}
use Rattle.stimulus.proofs.acts.acts_of.Given as goal

abbrev pub invariant-lines : goal.invariant-lines
invariant-lines l = record {
  few : l.evals ≤ EVALS;
  short : l.number + length l.rest ≤ length l.bytes + 1;
  kept : followed_by l.acts.items (rest_acts (design_ports l.design) l.number l.evals l.rest) ≡ stim_acts (design_ports l.design) l.bytes;
}

abbrev pub decreases-lines : goal.decreases-lines
decreases-lines l = length l.rest
