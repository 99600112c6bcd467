use Rattle.std.proofs.Common.{◌≡◌, ◌∙◌, ◌+◌, ◌<◌, None, [], true, false, Option, List, ℕ, length, get_or, ap, sym}
use Rattle.std.proofs.lemmas.List.{get_or_read}
use Rattle.node_sets.specs.Sets.{is_member}
use Rattle.thread_pack.specs.declared.put.Put.{Put}
use Rattle.thread_pack.specs.Packing.{first_of}
use Rattle.thread_pack.specs.Tables.{row_choices}
use Rattle.thread_pack.proofs.TableLemmas.{choose_more}
use Rattle.thread_pack.proofs.choose.choose.Goals as goal
use Rattle.thread_pack.proofs.choose.choose.Goals.{then-has, else-has}

pub loop-t-preserved : goal.loop-t-preserved
loop-t-preserved c =
    let free = c.args.free.now in
    let arrive = c.args.arrive.now in
    let words = c.args.ready.now.words.items in
    let tail : ℕ → ℕ = λ k. get_or c.args.tails.now k 0 in
    let t = c.loop-t.t in
    elim c.if-has.branch [
      | then-has w ↦ (
          let row : w.as_slice.result.now ≡ get_or arrive t [] = w.as_slice.ensures ∙ get_or_read arrive t w.index-arrive-t.result c.loop-t-test.true w.index-arrive-t.is [] in
          w.best-is ∙ w.best_on-best.ensures
          ∙ (λ i. first_of tail (c.loop-t.invariant i) (row_choices t free (row i) (length free)))
          ∙ sym (choose_more tail free arrive (length free) words t true (sym c.has.ensures ∙ w.if-has.true))
          )
      | else-has w ↦ w.best-is ∙ c.loop-t.invariant ∙ sym (choose_more tail free arrive (length free) words t false (sym c.has.ensures ∙ w.if-has.false))
    ]
