use Rattle.std.proofs.Common.{◌+◌, ℕ, List, length, sym, ap, ◌∙◌, subst}
use Rattle.task_eval.specs.Codes.{Ops}
use Rattle.plan_types.specs.Coded.{AllWithin}
use Rattle.model_build.proofs.Coding.{clocked_count, all_within}
use Rattle.model_build.proofs.code.codes_of.Goals as goal

pub returns-in-Ok-clause-count : goal.returns-in-Ok-clause-count
returns-in-Ok-clause-count c =
    ap (λ (codes : List Ops). length codes) c.from_vec.ensures
    ∙ c.in-Ok.ensures.count
    ∙ ap (λ (n : ℕ). length c.args.design.now.procs + n) (clocked_count 0 c.args.design.now.procs)

pub returns-in-Ok-clause-within : goal.returns-in-Ok-clause-within
returns-in-Ok-clause-within c =
    subst (λ (codes : List Ops). AllWithin (length c.args.layout.now.words.items) (length c.args.design.now.imports) codes) (sym c.from_vec.ensures)
    (all_within (length c.args.layout.now.words.items) (length c.args.design.now.imports) c.in-Ok.codes.items c.in-Ok.ensures.within)
