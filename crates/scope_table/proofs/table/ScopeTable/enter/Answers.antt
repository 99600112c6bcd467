use Rattle.std.proofs.Common.{◌∙◌}
use Rattle.scope_table.proofs.Steps.{sound-base}
use Rattle.scope_table.proofs.Calls.{call-entered, call-entered_sound}
use Rattle.scope_table.proofs.table.ScopeTable.enter.Goals as goal

pub invariant_of-self-2 : goal.invariant_of-self-2
invariant_of-self-2 g c =
    let s = c.self.inside in
    call-entered_sound s.file.items s.slots.items s.replaced.items s.frames.items c.push_frame.new.frames.items s.base c.len.result
    c.in_ok-push_frame.ensures.pushed (c.len.ensures ∙ s.replaced.ok.0) (sound-base c.self.invariant) c.self.invariant

pub returns-clause-enters : goal.returns-clause-enters
returns-clause-enters g c =
    let s = c.self.inside in
    rw (← c.self.view_is)
    (call-entered s.nothing s.file.items s.slots.items s.replaced.items s.frames.items c.push_frame.new.frames.items s.base c.len.result
    c.in_ok-push_frame.ensures.pushed (c.len.ensures ∙ s.replaced.ok.0) c.self.invariant)
