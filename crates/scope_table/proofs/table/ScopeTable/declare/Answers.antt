use Rattle.std.proofs.Common.{reverse, arith, ◌+◌}
use Rattle.scope_table.proofs.Steps.{scopes-past}
use Rattle.scope_table.proofs.Calls.{call-declared, call-declared_sound}
use Rattle.scope_table.proofs.table.ScopeTable.declare.Goals as goal

pub returns-then-place-len-clause-declares : goal.returns-then-place-len-clause-declares
returns-then-place-len-clause-declares g c =
    let s = c.self.inside in
    rw (← c.self.view_is)
    (scopes-past s.nothing s.file.items s.slots.items s.replaced.items (reverse s.frames.items) s.base c.args.name.0 c.args.what c.self.invariant (omega arith))

pub invariant_of-self-2 : goal.invariant_of-self-2
invariant_of-self-2 g c =
    let s = c.self.inside in
    call-declared_sound s.file.items s.slots.items s.replaced.items c.push.new.self.items s.frames.items s.base c.args.name.0 (c.len-level.result + 1) c.args.what c.index-slot.result.now
    c.in-Ok.ensures.items c.index-slot.ensures (omega arith) (omega arith) c.self.invariant

pub returns-clause-declares : goal.returns-clause-declares
returns-clause-declares g c =
    let s = c.self.inside in
    rw (← c.self.view_is)
    (call-declared s.nothing s.file.items s.slots.items s.replaced.items c.push.new.self.items s.frames.items s.base c.args.name.0 (c.len-level.result + 1) c.args.what c.index-slot.result.now
    c.in-Ok.ensures.items c.index-slot.ensures (omega arith) (omega arith) c.self.invariant)
