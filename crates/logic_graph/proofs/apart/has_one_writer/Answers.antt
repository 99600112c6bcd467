use Rattle.std.proofs.Common.{ℕ, List, sym, subst}
use Rattle.logic_graph.specs.Noting.{AllKeep}
use Rattle.logic_graph.proofs.ApartLemmas.{one_where_all_keep, all_keep_where_one}
use Rattle.logic_graph.proofs.apart.has_one_writer.Goals as goal

pub returns : goal.returns
returns c =
    let procs = c.args.procs.now in
    let w = c.in_ok-writers.writers in (
      λ t. one_where_all_keep c.as_slice.result.now procs (c.all_keep.ensures.0 t),
      λ one. c.all_keep.ensures.1
          (subst (λ (ow : List ℕ). AllKeep ow procs) (sym c.as_slice.ensures.value) (all_keep_where_one procs w.of_word.items w.run_end.items c.if-procs.false c.in_ok-writers.ensures one)),
    )
