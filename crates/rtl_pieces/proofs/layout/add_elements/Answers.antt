use Rattle.std.proofs.Common.{◌-◌, ◌+◌, map}
use Rattle.std.proofs.lemmas.Result.{err_from_is_err_and}
use Rattle.vs_base.specs.declared.limits.TheConstants.{WORDS}
use Rattle.rtl_pieces.specs.Words.{word_of, element_words}
use Rattle.rtl_pieces.proofs.Counting.{many_weaker, step, elements_many, element_next}
use Rattle.rtl_pieces.proofs.layout.add_elements.Goals as goal

pub returns-in_err-add_element-clause-many : goal.returns-in_err-add_element-clause-many
returns-in_err-add_element-clause-many c =
    let mem = c.args.lowest.mem in
    let item = c.args.lowest.item in
    let pieces = c.args.pieces.now in
    let e = c.loop-element.element in
    let n = c.args.elements in
    let p = err_from_is_err_and c.from_residual.result c.from_residual.ensures.1 in
    rw (p.1, p.2) (many_weaker
    (elements_many WORDS mem item pieces e n c.loop-element.words.items c.args.words.now.items c.loop-element-test.true c.loop-element.invariant.0)
    c.in_err-add_element.field-0.0 c.in_err-add_element.ensures.many)

pub loop-element-preserved : goal.loop-element-preserved
loop-element-preserved c =
    let mem = c.args.lowest.mem in
    let item = c.args.lowest.item in
    let pieces = c.args.pieces.now in
    let e = c.loop-element.element in
    let n = c.args.elements in (
      step c.loop-element.words.items c.add_element.new.words.items (map (word_of mem item e) pieces) (element_words mem item pieces (e + 1) (n - (e + 1))) (element_words mem item pieces e (n - e)) _
          c.in_ok-add_element.ensures.words (element_next mem item pieces e n c.loop-element-test.true) c.loop-element.invariant.0,
      c.in_ok-add_element.ensures.few,
    )
