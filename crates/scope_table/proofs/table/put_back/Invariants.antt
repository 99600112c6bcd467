use Rattle.std.proofs.Common.{◌≡◌, ◌≤◌, length, drop, take, vec_len}
use Rattle.scope_table.specs.Slots.{rewound}
use Rattle.scope_table.proofs.table.put_back.Given as goal

-- what is still to be put back makes of the slots what all of it makes of the first ones
abbrev pub invariant-loop-replaced : goal.invariant-loop-replaced
invariant-loop-replaced g l =
    record {
      slots : rewound (drop l.kept l.replaced.items) l.slots ≡ rewound (drop l.initial.kept l.initial.replaced.items) l.initial.slots;
      kept : take l.kept l.replaced.items ≡ take l.initial.kept l.initial.replaced.items;
      more : l.kept ≤ length l.replaced.items;
    }

abbrev pub decreases-loop-replaced : goal.decreases-loop-replaced
decreases-loop-replaced g l = vec_len l.replaced
