use Rattle.std.proofs.Common.{◌≡◌, Bool, ◌&&◌, ap, sym, ◌∙◌, subst}
use Rattle.std.specs.Prelude.{nat_lt}
use Rattle.std.proofs.lemmas.Result.{IfOk-weaker}
use Rattle.rtl_pieces.specs.Line.{has}
use Rattle.rtl_pieces.specs.Ranges.{Ascending, AllBelow, below}
use Rattle.rtl_pieces.proofs.Merging.{below_has, below_ascends, below_within}
use Rattle.rtl_pieces.proofs.sets.settled.Goals as goal

pub returns-clause-same : goal.returns-clause-same
returns-clause-same c =
    let end = c.args.line.now.bits in
    let ranges = c.in_ok-ranges.ranges.items in
    let e : below c.bits.result c.as_slice.result.now ≡ below end ranges = cc in
    IfOk-weaker c.below.result _ _
    (λ out h b. ap (has b) (h ∙ e) ∙ below_has b end ranges ∙ ap (λ (x : Bool). nat_lt b end && x) (c.in_ok-ranges.ensures.same b))
    c.below.ensures

pub returns-clause-ascending : goal.returns-clause-ascending
returns-clause-ascending c =
    let end = c.args.line.now.bits in
    let ranges = c.in_ok-ranges.ranges.items in
    let e : below c.bits.result c.as_slice.result.now ≡ below end ranges = cc in
    IfOk-weaker c.below.result _ _
    (λ out h. subst (Ascending 0) (sym (h ∙ e)) (below_ascends 0 end ranges c.in_ok-ranges.ensures.ascending))
    c.below.ensures

pub returns-clause-within : goal.returns-clause-within
returns-clause-within c =
    let end = c.args.line.now.bits in
    let ranges = c.in_ok-ranges.ranges.items in
    let e : below c.bits.result c.as_slice.result.now ≡ below end ranges = cc in
    IfOk-weaker c.below.result _ _
    (λ out h. subst (AllBelow end) (sym (h ∙ e)) (below_within end ranges))
    c.below.ensures
