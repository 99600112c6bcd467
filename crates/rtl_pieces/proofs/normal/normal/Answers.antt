use Rattle.std.proofs.Common.{◌≡◌, ap, sym, ◌∙◌, subst}
use Rattle.std.proofs.lemmas.Result.{IfOk-weaker}
use Rattle.std.proofs.lemmas.List.Sorted.{list_any-IsPermutation}
use Rattle.rtl_pieces.specs.Line.{has, inside}
use Rattle.rtl_pieces.specs.Ranges.{Ascending, empty, merged}
use Rattle.rtl_pieces.proofs.Merging.{merged_all_has, merged_all_ascends}
use Rattle.rtl_pieces.proofs.normal.normal.Goals as goal

pub returns-clause-same : goal.returns-clause-same
returns-clause-same c =
    let sorted = c.sort.new.ranges.items in
    let e : c.as_slice.result.now ≡ sorted = cc in
    IfOk-weaker c.merged.result _ _
    (λ out h b. ap (has b) (h ∙ ap (merged empty) e) ∙ merged_all_has b sorted c.sort.ensures.sorted ∙ sym (list_any-IsPermutation (inside b) c.args.ranges.items sorted c.sort.ensures.permutation))
    c.merged.ensures

pub returns-clause-ascending : goal.returns-clause-ascending
returns-clause-ascending c =
    let sorted = c.sort.new.ranges.items in
    let e : c.as_slice.result.now ≡ sorted = cc in
    IfOk-weaker c.merged.result _ _
    (λ out h. subst (Ascending 0) (sym (h ∙ ap (merged empty) e)) (merged_all_ascends sorted c.sort.ensures.sorted))
    c.merged.ensures
