use Rattle.std.proofs.Common.{◌∙◌, ◌+◌, arith}
use Rattle.scope_table.proofs.Calls.{call-module_entered, call-module_entered_sound}
use Rattle.scope_table.proofs.table.ScopeTable.enter_module.Goals as goal

pub invariant_of-self-2 : goal.invariant_of-self-2
invariant_of-self-2 g c =
    let s = c.self.inside in
    call-module_entered_sound s.file.items s.slots.items s.replaced.items s.frames.items c.push_frame.new.frames.items s.base c.len.result (c.len-2.result + 1)
    c.in_ok-push_frame.ensures.pushed (c.len.ensures ∙ s.replaced.ok.0) (omega arith) c.self.invariant

pub returns-clause-enters : goal.returns-clause-enters
returns-clause-enters g c =
    let s = c.self.inside in
    rw (← c.self.view_is)
    (call-module_entered s.nothing s.file.items s.slots.items s.replaced.items s.frames.items c.push_frame.new.frames.items s.base c.len.result (c.len-2.result + 1)
    c.in_ok-push_frame.ensures.pushed (c.len.ensures ∙ s.replaced.ok.0) (omega arith) c.self.invariant)
