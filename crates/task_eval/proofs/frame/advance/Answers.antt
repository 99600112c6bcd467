use Rattle.std.proofs.Common.{◌≡◌, ℕ, ◌+◌, ◌-◌, List, length, length-drop, sym, ap, ◌∙◌, subst, arith}
use Rattle.task_eval.specs.declared.op.Op.{Op}
use Rattle.task_eval.specs.Moves.{move}
use Rattle.task_eval.specs.Course.{course}
use Rattle.task_eval.specs.Soundness.{IsSoundFrom}
use Rattle.task_eval.specs.CourseLaws.{last_drop}
use Rattle.task_eval.specs.Frames.{last}
use Rattle.task_eval.proofs.Advancing.{skipped, halted, left_fewer}
use Rattle.task_eval.proofs.frame.advance.Goals as goal

pub after_skip-rest-requires : goal.after_skip-rest-requires
after_skip-rest-requires c =
    let i = c.loop-rest.invariant in
    let s = skipped c.args.stack.now.room c.loop-rest.rest.now c.index-rest-0.result c.loop-rest.stack.values c.perform.new.stack.values c.in-Goes.skip c.loop-rest-test.true (c.in-Goes.ensures.step ∙ ap (λ (o : Op). move o c.loop-rest.stack.values) c.index-rest-0.is) i.sound in
    s.2

pub loop-rest-preserved : goal.loop-rest-preserved
loop-rest-preserved c =
    let i = c.loop-rest.invariant in
    let rest = c.loop-rest.rest.now in
    let skip = c.in-Goes.skip in
    let after = c.perform.new.stack.values in
    let is = c.after_skip-rest.ensures in
    let s = skipped c.args.stack.now.room rest c.index-rest-0.result c.loop-rest.stack.values after skip c.loop-rest-test.true (c.in-Goes.ensures.step ∙ ap (λ (o : Op). move o c.loop-rest.stack.values) c.index-rest-0.is) i.sound in
    let left : length c.after_skip-rest.result.now ≡ length rest - (1 + skip) = ap (λ (os : List Op). length os) is ∙ length-drop (1 + skip) rest in
    let lands = s.2 in
    let within = i.within in
    record {
      same = ap (λ (os : List Op). course os 0 after) is ∙ s.0 ∙ i.same;
      sound = subst (λ (os : List Op). IsSoundFrom c.args.stack.now.room os 0 (length after)) (sym is) s.1;
      room = c.perform.ensures.room ∙ i.room;
      within = omega arith;
      is_last = is ∙ last_drop (1 + skip) rest c.args.ops.now lands within i.is_last ∙ ap (λ (n : ℕ). last n c.args.ops.now) (sym left);
    }

pub returns-in_default : goal.returns-in_default
returns-in_default c =
    let i = c.loop-rest.invariant in
    let rest = c.loop-rest.rest.now in
    let some = c.loop-rest-test.true in
    let within = i.within in
    let h = halted c.args.stack.now.room rest c.args.ops.now c.index-rest-0.result c.loop-rest.stack.values _ some within i.is_last (c.perform.ensures.step ∙ ap (λ (o : Op). move o c.loop-rest.stack.values) c.index-rest-0.is) i.sound in
    record {
      left = left_fewer c.perform.result (length rest - 1) (length c.args.ops.now) c.in_default.not-Goes (omega arith);
      sound = h.1;
      course = h.0 ∙ i.same;
      room = c.perform.ensures.room ∙ i.room;
    }
