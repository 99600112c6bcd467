use Rattle.std.proofs.lemmas.Result.{err_from_is_err_and}
use Rattle.vs_base.specs.declared.limits.TheConstants.{WORDS}
use Rattle.rtl_pieces.specs.Words.{noted, words_from}
use Rattle.rtl_pieces.proofs.Counting.{many_weaker, items_many}
use Rattle.rtl_pieces.proofs.layout.add_items.Goals as goal

pub returns-in_err-add_item-clause-many : goal.returns-in_err-add_item-clause-many
returns-in_err-add_item-clause-many c =
    let p = err_from_is_err_and c.from_residual.result c.from_residual.ensures.1 in
    let line = c.args.line.now in
    let writer = noted c.args.writers.now in
    rw (p.1, p.2) (many_weaker
    (items_many WORDS writer line c.loop-rest.number c.loop-rest.rest.now _ c.first_bit.result c.loop-rest.words.items c.args.words.now.items (words_from writer line.vars 0 line.items) c.in-len1-up.len_at_least c.first_bit.ensures c.loop-rest.invariant.0)
    c.in_err-add_item.field-0.0 c.in_err-add_item.ensures.many)
