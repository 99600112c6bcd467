use Rattle.std.proofs.Common.{◌==◌, length, arith}
use Rattle.std.proofs.lemmas.List.Sums.{position_or_len_is}
use Rattle.order_levels.proofs.stall.place_of.Goals as goal

pub returns-clause-place : goal.returns-clause-place
returns-clause-place c =
    let list = c.args.list.now in
    position_or_len_is (λ m. m == c.args.n) list (length list) 0 (omega arith) (λ k less. c.loop-i.invariant k (let end = c.loop-i-test.false in omega arith)) (λ less. absurd (omega arith))
