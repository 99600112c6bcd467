use Rattle.std.proofs.Common.{◌++◌, ◌∷◌, ℕ, List, [], sym, subst}
use Rattle.order_levels.specs.Running.{Running}
use Rattle.order_levels.proofs.RunLemmas.{can_run, running_on}
use Rattle.order_levels.proofs.running.Turns.run.Goals as goal

pub run_node-requires : goal.run_node-requires
run_node-requires c =
    let it = c.requires.ready in
    let t = c.args.self.now in
    can_run it.nodes it.edges it.ran t.targets.items t.waits.items t.ready.words.items c.args.n it.ends it.running it.ready

pub returns : goal.returns
returns c = record {
  running = λ nodes edges ran ends running.
      let n = c.args.n in
      let t = c.args.self.now in
      let u = c.run_node.new.turns in
      let done = c.run_node.ensures in
      subst (λ (xs : List (List ℕ)). Running nodes edges (ran ++ n ∷ []) xs u.waits.items u.ready.words.items) (sym done.targets)
      (running_on nodes edges ran t.targets.items t.waits.items u.waits.items t.ready.words.items u.ready.words.items n ends running c.requires.ready.ready done.waits_len done.words_len done.counts done.members);
}
