use Rattle.std.proofs.Common.{◌<◌, ◌+◌, ◌*◌, ◌^◌, arith, rules}
use Rattle.std.proofs.Math.IntN.{nat_abs}
use Rattle.std.proofs.lemmas.Int.{ints, to_z-of_z}
use Rattle.task_eval.proofs.Rows.{in_words}
use Rattle.task_eval.proofs.index.Elements.word.Goals as goal

pub overflow_mul-result : goal.overflow_mul-result
overflow_mul-result c =
    let s = c.args.self in
    let below : nat_abs c.place-place.result < s.count = grind (arith, ints) in
    let all : s.base + nat_abs c.place-place.result * s.stride < 2 ^ 32 = in_words s.base s.count s.stride (nat_abs c.place-place.result) below (search rules) c.requires in
    grind (arith, to_z-of_z)

pub overflow_add-result : goal.overflow_add-result
overflow_add-result c =
    let s = c.args.self in
    let below : nat_abs c.place-place.result < s.count = grind (arith, ints) in
    let all : s.base + nat_abs c.place-place.result * s.stride < 2 ^ 32 = in_words s.base s.count s.stride (nat_abs c.place-place.result) below (search rules) c.requires in
    grind (arith, to_z-of_z)
