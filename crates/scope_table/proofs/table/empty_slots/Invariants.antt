use Rattle.std.proofs.Common.{◌≡◌, replicate}
use Rattle.scope_table.proofs.table.empty_slots.Given as goal

abbrev pub invariant-loop : goal.invariant-loop
invariant-loop g l = l.slots.items ≡ replicate l.counter (record { what = l.nothing; level = 0 })
