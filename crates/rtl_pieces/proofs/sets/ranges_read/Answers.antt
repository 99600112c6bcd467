use Rattle.std.proofs.Common.{◌≡◌, Bool, ◌&&◌, not, ap, sym, ◌∙◌, subst}
use Rattle.std.proofs.lemmas.Result.{IfOk-weaker}
use Rattle.rtl_pieces.specs.Line.{has}
use Rattle.rtl_pieces.specs.Bits.{names}
use Rattle.rtl_pieces.specs.Ranges.{Ascending, AllBelow, minus}
use Rattle.rtl_pieces.proofs.Taking.{minus_has, minus_ascends, minus_within}
use Rattle.rtl_pieces.proofs.sets.ranges_read.Goals as goal

pub returns-clause-same : goal.returns-clause-same
returns-clause-same c =
    let line = c.args.line.now in
    let procs = c.args.design.now.procs in
    let named = c.in_ok-named.named.items in
    let written = c.in_ok-written.written.items in
    let e : minus c.as_slice.result.now c.as_slice-2.result.now ≡ minus named written = cc in
    IfOk-weaker c.minus.result _ _
    (λ out h b. ap (has b) (h ∙ e) ∙ minus_has b 0 0 named written c.in_ok-named.ensures.ascending c.in_ok-written.ensures.ascending
    ∙ ap (λ (x : Bool). x && not (has b written)) (c.in_ok-named.ensures.same b)
    ∙ ap (λ (x : Bool). names line procs c.args.proc b && not x) (c.in_ok-written.ensures.same b))
    c.minus.ensures

pub returns-clause-ascending : goal.returns-clause-ascending
returns-clause-ascending c =
    let named = c.in_ok-named.named.items in
    let written = c.in_ok-written.written.items in
    let e : minus c.as_slice.result.now c.as_slice-2.result.now ≡ minus named written = cc in
    IfOk-weaker c.minus.result _ _
    (λ out h. subst (Ascending 0) (sym (h ∙ e)) (minus_ascends 0 0 named written c.in_ok-named.ensures.ascending c.in_ok-written.ensures.ascending))
    c.minus.ensures

pub returns-clause-within : goal.returns-clause-within
returns-clause-within c =
    let named = c.in_ok-named.named.items in
    let written = c.in_ok-written.written.items in
    let e : minus c.as_slice.result.now c.as_slice-2.result.now ≡ minus named written = cc in
    IfOk-weaker c.minus.result _ _
    (λ out h. subst (AllBelow c.args.line.now.bits) (sym (h ∙ e)) (minus_within c.args.line.now.bits named written c.in_ok-named.ensures.within))
    c.minus.ensures
