use Rattle.std.proofs.Common.{◌≡◌}
use Rattle.rtl_lower.proofs.body.+stmt.Given as goal

abbrev pub invariant-arms_of-loop-arm : goal.invariant-arms_of-loop-arm
invariant-arms_of-loop-arm l = l.inside.table ≡ l.fn.inside.table

abbrev pub invariant-chain-loop-branch : goal.invariant-chain-loop-branch
invariant-chain-loop-branch l = l.inside.table ≡ l.fn.inside.table

abbrev pub invariant-default_of-loop-arm : goal.invariant-default_of-loop-arm
invariant-default_of-loop-arm l = l.inside.table ≡ l.fn.inside.table

abbrev pub invariant-statement-loop-inner : goal.invariant-statement-loop-inner
invariant-statement-loop-inner l = l.inside.table ≡ l.fn.inside.table

abbrev pub invariant-turns-loop : goal.invariant-turns-loop
invariant-turns-loop l = l.inside.table ≡ l.fn.inside.table
