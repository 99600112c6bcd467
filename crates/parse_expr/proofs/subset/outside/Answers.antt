use Rattle.std.proofs.Common.{◌≡◌, ◌-◌, length, take, drop, arith}
use Rattle.std.proofs.lemmas.Grind.{common_steps}
use Rattle.parse_expr.proofs.Spelled.{named_drop}
use Rattle.parse_expr.proofs.subset.outside.Goals as goal

pub starts_outside-requires : goal.starts_outside-requires
starts_outside-requires c =
    let e : take (length c.args.tokens.now - c.loop-at.at) (drop c.loop-at.at c.args.tokens.now) ≡ drop c.loop-at.at c.args.tokens.now = grind (arith, common_steps) in
    rw e (named_drop _ _ _ c.requires)
