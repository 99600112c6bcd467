use Rattle.std.proofs.Common.{◌≡◌, ◌∙◌, ◌++◌, ◌+◌, ◌-◌, ℕ, List, [], ◌∷◌, sym, ap, subst, arith}
use Rattle.order_levels.specs.Settling.{run_turns}
use Rattle.order_levels.specs.Running.{Running}
use Rattle.order_levels.proofs.RunLemmas.{none_is_ready, first_is_ready, turn_with_none, turn_with, can_run, running_on}
use Rattle.order_levels.proofs.running.run_all.Goals as goal

pub returns-in_default : goal.returns-in_default
returns-in_default c =
    let t = c.loop-turn.turns in
    let none = none_is_ready c.args.nodes c.args.edges.now c.loop-turn.ran.items t.targets.items t.waits.items t.ready.words.items c.loop-turn.invariant.running c.in_default.ensures in
    sym (turn_with_none (c.args.nodes - c.loop-turn.turn) c.args.nodes c.args.edges.now c.loop-turn.ran.items none) ∙ c.loop-turn.invariant.rest

pub run_node-requires : goal.run_node-requires
run_node-requires c =
    let t = c.loop-turn.turns in
    can_run c.args.nodes c.args.edges.now c.loop-turn.ran.items t.targets.items t.waits.items t.ready.words.items c.in-Some.n c.requires c.loop-turn.invariant.running c.in-Some.ensures.0

pub loop-turn-preserved : goal.loop-turn-preserved
loop-turn-preserved c =
    let nodes = c.args.nodes in
    let edges = c.args.edges.now in
    let ran = c.loop-turn.ran.items in
    let n = c.in-Some.n in
    let t = c.loop-turn.turns in
    let u = c.run_node.new.turns in
    let done = c.run_node.ensures in
    let running = c.loop-turn.invariant.running in
    let pushed : c.push.new.self.items ≡ ran ++ n ∷ [] = c.in_ok-push.ensures.items in
    let on = running_on nodes edges ran t.targets.items t.waits.items u.waits.items t.ready.words.items u.ready.words.items n c.requires running c.in-Some.ensures.0 done.waits_len done.words_len done.counts done.members in
    let next = first_is_ready nodes edges ran t.targets.items t.waits.items t.ready.words.items n running c.in-Some.ensures.0 c.in-Some.ensures.1 in
    record {
      running =
          subst (λ (xs : List ℕ). Running nodes edges xs u.targets.items u.waits.items u.ready.words.items) (sym pushed)
          (subst (λ (xs : List (List ℕ)). Running nodes edges (ran ++ n ∷ []) xs u.waits.items u.ready.words.items) (sym done.targets) on);
      rest =
          ap (run_turns (nodes - (c.loop-turn.turn + 1)) nodes edges) pushed
          ∙ turn_with (nodes - c.loop-turn.turn) (nodes - (c.loop-turn.turn + 1)) nodes edges ran n (let more = c.loop-turn-test.true in omega arith) next
          ∙ c.loop-turn.invariant.rest;
    }
