use Rattle.std.proofs.Common.{◌<◌, length, arith}
use Rattle.std.proofs.lemmas.Bool.Decides.{nat_tests}
use Rattle.stimulus.proofs.WordCuts.{all_blank, first_word}
use Rattle.stimulus.proofs.words.next_word.Goals as goal

pub returns-then-after-eq0 : goal.returns-then-after-eq0
returns-then-after-eq0 c = all_blank c.args.line.now c.split_at.result.1.now c.space_len.result c.space_len.ensures.value c.split_at.ensures.back c.if-after-eq0.true

pub returns : goal.returns
returns c =
    let some : 0 < length c.split_at.result.1.now = grind (arith, nat_tests) in
    first_word c.args.line.now c.split_at.result.1.now c.split_at-2.result.0.now c.split_at-2.result.1.now c.space_len.result c.word_len.result
    c.space_len.ensures.value c.split_at.ensures.back some c.word_len.ensures.value c.split_at-2.ensures.front c.split_at-2.ensures.back c.split_at-2.ensures.front_len
