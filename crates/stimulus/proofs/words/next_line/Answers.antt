use Rattle.std.proofs.Common.{◌<◌, length, arith}
use Rattle.std.proofs.lemmas.Bool.Decides.{nat_tests}
use Rattle.stimulus.proofs.LineCuts.{last_line, inner_line}
use Rattle.stimulus.proofs.words.next_line.Goals as goal

pub returns-in-empty : goal.returns-in-empty
returns-in-empty c =
    let some : 0 < length c.args.text.now = grind (arith, nat_tests) in
    last_line c.args.text.now c.split_at.result.0.now c.split_at.result.1.now c.line_len.result some c.line_len.ensures.value c.split_at.ensures.front c.split_at.ensures.back c.in-empty.len_below

pub returns-in-len1-up : goal.returns-in-len1-up
returns-in-len1-up c =
    let some : 0 < length c.args.text.now = grind (arith, nat_tests) in
    inner_line c.args.text.now c.split_at.result.0.now c.split_at.result.1.now c.line_len.result some c.line_len.ensures.value c.split_at.ensures.front c.split_at.ensures.back
    c.trim_return.result.now c.trim_return.ensures c.in-len1-up.len_at_least
