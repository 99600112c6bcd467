use Rattle.std.proofs.Common.{◌≡◌, ◌++◌, ◌∷◌, [], ◌∙◌, List, ap}
use Rattle.std.proofs.lemmas.Result.{err_from_is_err_and}
use Rattle.rtl_pieces.specs.declared.layout.Word.{Word}
use Rattle.rtl_pieces.specs.Words.{table_word}
use Rattle.rtl_pieces.proofs.Counting.{many_weaker}
use Rattle.rtl_pieces.proofs.Whole.{whole, many_pieces, many_shadows}
use Rattle.rtl_pieces.proofs.layout.layout_of.Goals as goal

pub returns-in_err-add_items-clause-many : goal.returns-in_err-add_items-clause-many
returns-in_err-add_items-clause-many c =
    let p = err_from_is_err_and c.from_residual-in_err-add_items.result c.from_residual-in_err-add_items.ensures.1 in
    let first = c.add_word.new.words.items in
    let e : first ≡ table_word ∷ [] = c.in_ok-add_word.ensures.words ∙ ap (λ (ws : List Word). ws ++ table_word ∷ []) c.new-words.ensures.items in
    rw (p.1, p.2) (many_weaker
    (many_pieces c.args.line.now c.args.procs.now c.args.writers.now c.requires.writers first e)
    c.in_err-add_items.field-0.0 c.in_err-add_items.ensures.many)

pub returns-in_err-add_shadows-clause-many : goal.returns-in_err-add_shadows-clause-many
returns-in_err-add_shadows-clause-many c =
    let p = err_from_is_err_and c.from_residual-in_err-add_shadows.result c.from_residual-in_err-add_shadows.ensures.1 in
    let first = c.add_word.new.words.items in
    let e : first ≡ table_word ∷ [] = c.in_ok-add_word.ensures.words ∙ ap (λ (ws : List Word). ws ++ table_word ∷ []) c.new-words.ensures.items in
    rw (p.1, p.2) (many_weaker
    (many_shadows c.args.line.now c.args.procs.now c.args.writers.now c.requires.writers first c.add_items.new.words.items e c.in_ok-add_items.ensures.words)
    c.in_err-add_shadows.field-0.0 c.in_err-add_shadows.ensures.many)

pub returns-clause-words : goal.returns-clause-words
returns-clause-words c =
    let first = c.add_word.new.words.items in
    let e : first ≡ table_word ∷ [] = c.in_ok-add_word.ensures.words ∙ ap (λ (ws : List Word). ws ++ table_word ∷ []) c.new-words.ensures.items in
    whole c.args.line.now c.args.procs.now c.args.writers.now c.requires.writers first c.add_items.new.words.items c.add_shadows.new.words.items e c.in_ok-add_items.ensures.words c.in_ok-add_shadows.ensures.words
