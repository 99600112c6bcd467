use Rattle.std.proofs.Common.{◌∙◌, ◌++◌, ℕ, List, [], ◌∷◌, Bool, cond, sym, ap, take, append-nil}
use Rattle.order_levels.specs.Serial.{clocked_procs, comb_procs}
use Rattle.order_levels.proofs.SerialLemmas.{numbers_more}
use Rattle.order_levels.proofs.serial.numbers_of.Goals.{then-clocked-i+in_ok-push, else-clocked-i}
use Rattle.order_levels.proofs.serial.numbers_of.Goals as goal

pub loop-i-preserved : goal.loop-i-preserved
loop-i-preserved c =
    let clocked = c.args.clocked.now in
    let i = c.loop-i.i in
    let so_far : List ℕ = cond c.args.kind (clocked_procs (take i clocked)) (comb_procs (take i clocked)) in
    let more = numbers_more c.args.kind clocked i c.loop-i-test.true in
    elim c.if-clocked-i.branch [
      | then-clocked-i+in_ok-push w ↦
          ap (λ v. v.items) w.numbers-is ∙ w.in_ok-push.ensures.items ∙ ap (λ (xs : List ℕ). xs ++ i ∷ []) c.loop-i.invariant
          ∙ sym (more ∙ ap (λ (b : Bool). so_far ++ cond b (i ∷ []) []) w.if-clocked-i.true)
      | else-clocked-i w ↦
          ap (λ v. v.items) w.numbers-is ∙ c.loop-i.invariant
          ∙ sym (more ∙ ap (λ (b : Bool). so_far ++ cond b (i ∷ []) []) w.if-clocked-i.false ∙ append-nil so_far)
    ]
