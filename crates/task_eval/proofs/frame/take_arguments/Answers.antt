use Rattle.std.proofs.Common.{◌-◌, ℕ, take, drop, set, sym, ap, ◌∙◌, arith}
use Rattle.task_eval.proofs.Arguments.{args_step, stack_step}
use Rattle.task_eval.proofs.frame.take_arguments.Goals as goal

pub loop-left-preserved : goal.loop-left-preserved
loop-left-preserved c =
    let i = c.loop-left.invariant in
    let values = c.args.stack.now.values in
    let here = sym i.stack ∙ c.pop.ensures.value in
    record {
      within = omega arith;
      args = ap (λ (x : ℕ). drop (c.loop-left.left - 1) (take c.args.count (set c.loop-left.args (c.loop-left.left - 1) x))) c.low_bits.ensures
          ∙ args_step values c.pop.new.self.values c.loop-left.args c.pop.result c.args.count c.loop-left.left (omega arith) i.within (omega arith) here i.args;
      stack = stack_step values c.pop.new.self.values c.pop.result c.args.count c.loop-left.left (omega arith) i.within here;
      room = c.pop.ensures.room ∙ i.room;
    }
