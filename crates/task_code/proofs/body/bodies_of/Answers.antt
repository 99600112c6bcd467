use Rattle.std.proofs.Common.{subst, sym, take, length, [], ◌∷◌, ◌++◌, ◌<◌, ◌≡◌, get_or}
use Rattle.std.specs.List.{All}
use Rattle.task_eval.specs.Soundness.{IsWithin}
use Rattle.task_eval.specs.Codes.{Ops}
use Rattle.task_code.specs.Compiled.{Each, IsBody}
use Rattle.task_code.proofs.Bodies.{all_more, each_more, take_on}
use Rattle.task_code.proofs.body.bodies_of.Goals as goal

pub loop-process-preserved : goal.loop-process-preserved
loop-process-preserved c =
    let procs = c.args.base.now.design.now.procs in
    let Fine : Ops → Type 0 = λ code. IsWithin (length c.args.base.now.words.now) (length c.args.base.now.design.now.imports) code.ops in (
      subst (All Fine) (sym c.in_ok-push.ensures.items) (all_more Fine c.loop-process.codes.items c.in_ok-code.code c.loop-process.invariant.0 c.in_ok-code.ensures.within),
      subst (λ ps. Each (IsBody c.args.base.now.words.now) ps c.push.new.self.items) (sym (take_on procs c.loop-process.process-index c.process-item.result (subst (λ ps. c.loop-process.process-index < length ps) c.as_slice-process-items.ensures c.loop-process-test.true)
          (subst (λ ps. c.process-item.result ≡ get_or ps c.loop-process.process-index c.process-item.result) c.as_slice-process-items.ensures c.process-item.is)))
          (subst (λ cs. Each (IsBody c.args.base.now.words.now) (take c.loop-process.process-index procs ++ c.process-item.result ∷ []) cs) (sym c.in_ok-push.ensures.items)
          (each_more (IsBody c.args.base.now.words.now) (take c.loop-process.process-index procs) c.loop-process.codes.items c.process-item.result c.in_ok-code.code c.loop-process.invariant.1 c.in_ok-code.ensures.body)),
    )
