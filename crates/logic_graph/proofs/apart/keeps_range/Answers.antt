use Rattle.std.proofs.Common.{refl, nat_lt, nat_le, arith}
use Rattle.std.proofs.lemmas.Bool.{and_parts, ltb-true, leb-true}
use Rattle.logic_graph.proofs.apart.keeps_range.Goals as goal

pub returns : goal.returns
returns c =
    let r = c.args.range in
    let done = c.loop-w-test.false in (
      λ _ w has.
          let parts = and_parts (nat_le r.first w) (nat_lt w r.end) has in
          let high = ltb-true w r.end parts.1 in
          c.loop-w.invariant w (leb-true r.first w parts.0) (omega arith),
      λ _. refl,
    )
