use Rattle.std.proofs.Common.{ℕ, ◌∷◌, [], ◌++◌, List, false, sym, ap, ◌∙◌}
use Rattle.std.proofs.lemmas.List.{map_more}
use Rattle.rtl_pieces.specs.declared.layout.Word.{Word}
use Rattle.plain_runner.proofs.open.zeros.Goals as goal

abbrev any_word : Word
any_word = record { holds = record { mem = false; item = 0; element = 0; bit = 0 }; len = 0; shadow = false }

pub loop-word-preserved : goal.loop-word-preserved
loop-word-preserved c =
    c.in-Ok.ensures.items ∙ ap (λ (xs : List ℕ). xs ++ 0 ∷ []) c.loop-word.invariant ∙ sym (map_more (λ (w : Word). 0) c.args.words.now c.loop-word.word-index any_word c.loop-word-test.true)
