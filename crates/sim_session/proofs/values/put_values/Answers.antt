use Rattle.std.proofs.Common.{List, ap, ◌∙◌, arith}
use Rattle.vs_base.specs.Number.{Number}
use Rattle.rtl_ir.specs.declared.design.Var.{Var}
use Rattle.sim_session.specs.Values.{put_words, zeros_of}
use Rattle.sim_session.proofs.Placing.{all_put, spliced}
use Rattle.sim_session.proofs.values.put_values.Goals as goal

pub returns-clause-items : goal.returns-clause-items
returns-clause-items g c =
    let b = c.args.built.now in
    let found = (g.R.Runner.machine c.args.runner.now).outside.words in
    spliced c.put_all.new.values c.put_zeros.new.values.items c.put_zeros.new.values.len (omega arith) (omega arith)
    ∙ c.put_all.ensures
    ∙ ap (λ (l : List Number). put_words b.layout.words.items found l) (c.deref_mut.ensures.value ∙ c.put_zeros.ensures.items ∙ ap (λ (vars : List Var). zeros_of vars) c.as_slice.ensures)
    ∙ all_put b.design.vars b.layout.words.items found
