use Rattle.std.proofs.Common.{arith, sym, subst, reverse, ◌≤◌}
use Rattle.task_eval.specs.Soundness.{OpWithin}
use Rattle.task_code.specs.Tails.{StoresIn}
use Rattle.task_code.proofs.Tailing.{put_plain}
use Rattle.task_code.proofs.tail.Tail.add.Goals as goal

pub invariant_of-self-2 : goal.invariant_of-self-2
invariant_of-self-2 c =
    let seen = sym c.self.view_is in
    let room = c.max-self-inside.ensures in
    put_plain c.self.inside.room c.max-self-inside.result c.self.inside.depth c.in-Some.depth c.args.takes c.args.puts c.self.inside.ops.items c.push.new.self.items
    (reverse c.self.inside.marks.items) c.self.inside.limits c.args.op c.self.invariant c.in_ok-push.ensures.items (omega (arith, room)) (omega (arith, room))
    c.requires.plain c.requires.takes c.requires.puts c.requires.shaped
    (subst (λ t. OpWithin t.held.limits.words t.held.limits.imports c.args.op) seen c.requires.within)
    (subst (λ t. StoresIn t.held.limits c.args.op) seen c.requires.stores)
    (subst (λ t. c.args.puts ≤ t.depth) seen c.requires.deep) c.in-Some.ensures.1
