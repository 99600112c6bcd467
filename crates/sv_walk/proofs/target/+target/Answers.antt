use Rattle.std.proofs.Common.{◌≡◌, Bool, true, false, suc, drop, sym, ap, ◌∙◌, add-one}
use Rattle.std.specs.Prelude.{◌&&◌}
use Rattle.sv_walk.specs.Targets.{is_target, step_targets}
use Rattle.sv_walk.specs.TargetLaws as law
use Rattle.sv_tree.specs.declared.tree.expr.Expr.{Expr}
use Rattle.sv_walk.proofs.Firsts.{targets_from}
use Rattle.sv_walk.proofs.target.+target.Goals as goal

by : {e f : Expr} {b : Bool} → e ≡ f → is_target f ≡ b → b ≡ is_target e
by is reads = sym (ap is_target is ∙ reads)

pub is_target-returns-in-Name : goal.is_target-returns-in-Name
is_target-returns-in-Name t c = by c.in-Name.is (law.target-Name _ _)

pub is_target-returns-in-Decimal : goal.is_target-returns-in-Decimal
is_target-returns-in-Decimal t c = by c.in-Decimal.is (law.target-Decimal _)

pub is_target-returns-in-Based : goal.is_target-returns-in-Based
is_target-returns-in-Based t c = by c.in-Based.is (law.target-Based _)

pub is_target-returns-in-Sized : goal.is_target-returns-in-Sized
is_target-returns-in-Sized t c = by c.in-Sized.is (law.target-Sized _ _)

pub is_target-returns-in-Fill : goal.is_target-returns-in-Fill
is_target-returns-in-Fill t c = by c.in-Fill.is (law.target-Fill _)

pub is_target-returns-in-Paren : goal.is_target-returns-in-Paren
is_target-returns-in-Paren t c = by c.in-Paren.is (law.target-Paren _ _ _)

pub is_target-returns-in-Repeat : goal.is_target-returns-in-Repeat
is_target-returns-in-Repeat t c = by c.in-Repeat.is (law.target-Repeat _ _ _ _ _ _ _)

pub is_target-returns-in-Call : goal.is_target-returns-in-Call
is_target-returns-in-Call t c = by c.in-Call.is (law.target-Call _ _ _ _)

pub is_target-returns-in-System : goal.is_target-returns-in-System
is_target-returns-in-System t c = by c.in-System.is (law.target-System _ _ _ _)

pub is_target-returns-in-Prefix : goal.is_target-returns-in-Prefix
is_target-returns-in-Prefix t c = by c.in-Prefix.is (law.target-Prefix _ _)

pub is_target-returns-in-Level : goal.is_target-returns-in-Level
is_target-returns-in-Level t c = by c.in-Level.is (law.target-Level _ _)

pub is_target-returns-in-Choose : goal.is_target-returns-in-Choose
is_target-returns-in-Choose t c = by c.in-Choose.is (law.target-Choose _ _)

pub is_target-returns-then-is_target : goal.is_target-returns-then-is_target
is_target-returns-then-is_target t c =
    let first : is_target c.in-Concat.first ≡ true = ap is_target (sym c.get.ensures) ∙ sym c.if-is_target.ensures in
    let more : c.are_targets.result ≡ step_targets c.in-Concat.more = c.are_targets.ensures ∙ ap step_targets c.as_slice.ensures in
    by c.in-Concat.is (law.target-Concat _ _ _ _ ∙ ap (λ b. b && step_targets c.in-Concat.more) first ∙ sym more)

pub is_target-returns-else-is_target : goal.is_target-returns-else-is_target
is_target-returns-else-is_target t c =
    let first : is_target c.in-Concat.first ≡ false = ap is_target (sym c.get.ensures) ∙ sym c.if-is_target.ensures in
    by c.in-Concat.is (law.target-Concat _ _ _ _ ∙ ap (λ b. b && step_targets c.in-Concat.more) first ∙ sym c.if-is_target.false)

pub are_targets-returns-then-not-is_target : goal.are_targets-returns-then-not-is_target
are_targets-returns-then-not-is_target t c =
    let i = c.loop-step.step-index in
    let x = c.step-item.result in
    ap (λ b. b && step_targets (drop (suc i) c.args.more.now)) c.if-not-is_target.ensures
    ∙ sym (targets_from c.args.more.now i x c.loop-step-test.true c.step-item.is) ∙ c.loop-step.invariant

pub are_targets-loop-step-preserved : goal.are_targets-loop-step-preserved
are_targets-loop-step-preserved t c =
    let i = c.loop-step.step-index in
    let x = c.step-item.result in
    rw add-one
    (ap (λ b. b && step_targets (drop (suc i) c.args.more.now)) c.if-not-is_target.ensures
    ∙ sym (targets_from c.args.more.now i x c.loop-step-test.true c.step-item.is) ∙ c.loop-step.invariant)
