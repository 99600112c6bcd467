use Rattle.std.proofs.Common.{◌<◌, ◌≤◌, ◌+◌, ◌*◌, ◌^◌, get_or, refl, arith}
use Rattle.std.specs.Int.{trailing_zeros, w64}
use Rattle.node_sets.proofs.SetLemmas.{least_from, none_from}
use Rattle.node_sets.proofs.search.first_from.Goals as goal

pub returns-then-word-ne0 : goal.returns-then-word-ne0
returns-then-word-ne0 c =
    let words = c.args.words.now in
    let from = c.args.from in
    let i = c.loop-i.i in
    let word = get_or words i 0 in
    let some : 0 < word = omega (arith, c.if-word-ne0.true) in
    let fits : word < 2 ^ 64 = omega arith in
    let past : from ≤ i = omega arith in
    least_from words from i word (i * 64 + trailing_zeros w64 word) past refl some fits c.loop-i.invariant refl

pub returns : goal.returns
returns c = none_from c.args.words.now c.args.from (λ k high less. c.loop-i.invariant k high (let end = c.loop-i-test.false in omega arith))
