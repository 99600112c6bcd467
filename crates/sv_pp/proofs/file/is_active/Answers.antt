use Rattle.sv_pp.proofs.Places.{active_outside, active_taken, active_not_taken}
use Rattle.sv_pp.proofs.file.is_active.Goals as goal

pub returns-in_default : goal.returns-in_default
returns-in_default c bs stacked = active_outside c.args.branches.now bs stacked c.in_default.len_below

pub returns-then-last : goal.returns-then-last
returns-then-last c bs stacked = active_taken c.args.branches.now bs _ stacked c.in-len1-up.len_at_least c.if-last.true

pub returns-else-last : goal.returns-else-last
returns-else-last c bs stacked = active_not_taken c.args.branches.now bs _ stacked c.in-len1-up.len_at_least c.if-last.false
