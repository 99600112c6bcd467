use Rattle.std.proofs.lemmas.Result.{err_from_is_err_and}
use Rattle.vs_base.specs.declared.limits.TheConstants.{WORDS}
use Rattle.rtl_pieces.specs.Words.{word_of}
use Rattle.rtl_pieces.proofs.Counting.{many_weaker, pieces_many}
use Rattle.rtl_pieces.proofs.layout.add_element.Goals as goal

pub returns-in_err-add_word-clause-many : goal.returns-in_err-add_word-clause-many
returns-in_err-add_word-clause-many c =
    let p = err_from_is_err_and c.from_residual.result c.from_residual.ensures.1 in
    rw (p.1, p.2) (many_weaker
    (pieces_many WORDS (word_of c.args.lowest.mem c.args.lowest.item c.args.lowest.element) c.loop-rest.words.items c.args.words.now.items c.loop-rest.rest.now c.args.pieces.now c.in-len1-up.len_at_least c.loop-rest.invariant.0)
    c.in_err-add_word.field-0.0 c.in_err-add_word.ensures.many)
