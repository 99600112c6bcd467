use Rattle.std.proofs.Common.{◌≡◌, List, length, take, ap, arith}
use Rattle.task_eval.specs.declared.op.Op.{Op}
use Rattle.task_eval.specs.Codes.{Held}
use Rattle.task_eval.specs.Frames.{Running}
use Rattle.task_eval.proofs.Asking.{starts_ready, starts_going}
use Rattle.task_eval.proofs.frame.Frame.start.Goals as goal

pub returns-clause-ready : goal.returns-clause-ready
returns-clause-ready c =
    let cleared : c.clear.new.self.room ≡ c.self.inside.stack.room = ap (λ (h : Held). h.room) c.clear.ensures in
    let viewed : c.self.inside.stack.room ≡ c.args.self.now.room = ap (λ (f : Running). f.room) c.self.view_is in
    starts_ready c.args.code.now _ c.ops.ensures.sound (omega arith) (ap (λ (os : List Op). length os) c.ops.ensures.ops) (ap (λ (h : Held). h.values) c.clear.ensures)

pub returns-clause-begins : goal.returns-clause-begins
returns-clause-begins c =
    let i = c.self.inside in
    let f : Running = record { left = length c.ops.result.now; stack = c.clear.new.self.values; room = c.clear.new.self.room; awaits = i.awaits; args = take i.count i.args } in
    starts_going c.args.code.now f (ap (λ (os : List Op). length os) c.ops.ensures.ops) (ap (λ (h : Held). h.values) c.clear.ensures)
