use Rattle.std.proofs.Common.{◌<◌, ◌-◌, ◌+◌, ◌*◌, ◌^◌, get_or, refl, arith}
use Rattle.std.specs.Int.{leading_zeros, w64}
use Rattle.node_sets.proofs.SetLemmas.{greatest_below, none_below}
use Rattle.node_sets.proofs.search.last_below.Goals as goal

pub returns-then-word-ne0 : goal.returns-then-word-ne0
returns-then-word-ne0 c =
    let words = c.args.words.now in
    let i = c.down.i - 1 in
    let word = get_or words i 0 in
    let some : 0 < word = omega (arith, c.if-word-ne0.true) in
    let fits : word < 2 ^ 64 = omega arith in
    let within : i < c.args.end = let low = c.down-test.true in let most = c.down.invariant.within in omega arith in
    greatest_below words c.args.end i word (i * 64 + (63 - leading_zeros w64 word)) within refl some fits (λ k above less. c.down.invariant.none k (omega arith) less) refl

pub returns : goal.returns
returns c = none_below c.args.words.now c.args.end (λ k less. c.down.invariant.none k (let end = c.down-test.false in omega arith) less)
