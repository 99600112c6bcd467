use Rattle.std.proofs.Common.{◌≡◌, Bool, ◌||◌, ◌&&◌, eqb, map, ap, ◌∙◌}
use Rattle.std.proofs.lemmas.Result.{on_ok_weaker}
use Rattle.std.proofs.lemmas.List.Folds.{list_any-append}
use Rattle.rtl_pieces.specs.Owned.{of_process, owned_by, owns}
use Rattle.rtl_pieces.proofs.Owning.{owned_by_one}
use Rattle.rtl_pieces.proofs.owned.add_process.Goals as goal

pub returns : goal.returns
returns c =
    let ranges = c.in_ok-ranges.ranges.items in
    let old = c.args.all.now.items in
    let e : c.as_slice.result.now ≡ ranges = cc in
    on_ok_weaker c.add_owned.result
    (λ h p b. ap (owned_by p b) h ∙ list_any-append (owns p b) old (map (of_process c.args.proc) c.as_slice.result.now)
    ∙ ap (λ (x : Bool). owned_by p b old || x) (ap (λ rs. owned_by p b (map (of_process c.args.proc) rs)) e ∙ owned_by_one c.args.proc p b ranges ∙ ap (λ (x : Bool). eqb c.args.proc p && x) (c.in_ok-ranges.ensures.same b)))
    c.add_owned.ensures
