use Rattle.std.proofs.Common.{◌≡◌, ◌∙◌, ℕ, List, [], true, false, not, sym, ap, length, get_or, take}
use Rattle.std.proofs.lemmas.List.{get_or_default, take_more}
use Rattle.order_levels.specs.Settling.{first_below}
use Rattle.order_levels.specs.Sets.{unmarked}
use Rattle.order_levels.proofs.FirstLemmas.{first_none}
use Rattle.order_levels.proofs.EdgeLemmas.{and_false, below_at}
use Rattle.order_levels.proofs.StallLemmas.{holder_same, holder_more}
use Rattle.order_levels.proofs.stall.first_holder.Goals.{then-not-has_run-m, else-not-has_run-m}
use Rattle.order_levels.proofs.stall.first_holder.Goals as goal

pub loop-m-init : goal.loop-m-init
loop-m-init c =
    let marks = c.args.has_run.now in
    sym (first_none (unmarked marks []) (length marks) (λ m less. and_false (not (get_or marks m true))))

pub loop-m-preserved : goal.loop-m-preserved
loop-m-preserved c =
    let marks = c.args.has_run.now in
    let sources = c.args.sources.now in
    let i = c.loop-m.m-index in
    let m = get_or sources i 0 in
    let within = below_at (length marks) sources i m c.requires c.loop-m-test.true (get_or_default sources i 0 m c.loop-m-test.true) in
    let more = ap (λ (xs : List ℕ). first_below (unmarked marks xs) (length marks)) (sym (take_more sources i 0 c.loop-m-test.true)) in
    elim c.if-not-has_run-m.branch [
      | then-not-has_run-m w ↦
          let mark : get_or marks m true ≡ false = get_or_default marks m true false within ∙ w.if-not-has_run-m.true in
          w.least-is ∙ holder_more marks (take i sources) m (length marks) w.least_of.result c.loop-m.least within mark c.loop-m.invariant w.least_of.ensures ∙ more
      | else-not-has_run-m w ↦
          let mark : get_or marks m true ≡ true = get_or_default marks m true false within ∙ w.if-not-has_run-m.false in
          w.least-is ∙ c.loop-m.invariant ∙ sym (holder_same marks (take i sources) m (length marks) mark) ∙ more
    ]
