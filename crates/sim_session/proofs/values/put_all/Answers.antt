use Rattle.std.proofs.Common.{◌∙◌, arith}
use Rattle.sim_session.proofs.Placing.{one_fewer, short_turn, put_turn}
use Rattle.sim_session.proofs.values.put_all.Goals as goal

pub words-preserved : goal.words-preserved
words-preserved g c =
    let some = c.in-len1-up.len_at_least in
    let i = c.words.invariant in
    let count = i.count in
    let all = c.requires.words in
    record {
      put = put_turn c.words.rest.now _ (g.R.Runner.machine c.args.runner.now).outside.words c.words.k c.word.result c.words.values c.put_word.new.values some (omega arith) c.word.ensures c.put_word.ensures ∙ i.put;
      short = short_turn c.words.rest.now some i.short;
      count = let fewer = one_fewer c.words.rest.now some in omega arith;
    }
