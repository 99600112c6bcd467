use Rattle.std.proofs.Common.{◌≡◌, take, map}
use Rattle.rtl_pieces.specs.declared.layout.Word.{Word}
use Rattle.plain_runner.proofs.open.zeros.Given as goal

abbrev pub invariant-loop-word : goal.invariant-loop-word
invariant-loop-word l = l.out.items ≡ map (λ (w : Word). 0) (take l.word-index l.words)
