use Rattle.std.proofs.Common.{reverse, arith}
use Rattle.scope_table.proofs.Steps.{scopes-global_past}
use Rattle.scope_table.proofs.Calls.{call-global, call-global_sound, call-not_global}
use Rattle.scope_table.proofs.table.ScopeTable.declare_global.Goals as goal

pub returns-then-len-gt0 : goal.returns-then-len-gt0
returns-then-len-gt0 g c =
    let s = c.self.inside in
    rw (← c.self.view_is)
    (call-not_global s.nothing s.file.items s.slots.items s.replaced.items s.frames.items s.base c.args.name.0 c.args.what (omega arith))

pub returns-then-place-len : goal.returns-then-place-len
returns-then-place-len g c =
    let s = c.self.inside in
    rw (← c.self.view_is)
    (scopes-global_past s.nothing s.file.items s.slots.items s.replaced.items (reverse s.frames.items) s.base c.args.name.0 c.args.what c.self.invariant (omega arith))

pub invariant_of-self : goal.invariant_of-self
invariant_of-self g c =
    let s = c.self.inside in
    call-global_sound s.file.items s.slots.items s.replaced.items s.frames.items s.base c.args.name.0 c.args.what (omega arith) c.self.invariant

pub returns : goal.returns
returns g c =
    let s = c.self.inside in
    rw (← c.self.view_is)
    (call-global s.nothing s.file.items s.slots.items s.replaced.items s.frames.items s.base c.args.name.0 c.args.what (omega arith) c.self.invariant)
