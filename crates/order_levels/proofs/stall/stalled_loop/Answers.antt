use Rattle.std.proofs.Common.{◌≡◌, ◌∙◌, ℕ, Bool, true, not, List, [], Some, None, sym, ap, subst, length, get_or, arith}
use Rattle.order_levels.specs.Settling.{first_below, after_run}
use Rattle.order_levels.specs.Sets.{each_below}
use Rattle.order_levels.proofs.FirstLemmas.{found}
use Rattle.order_levels.proofs.EdgeLemmas.{sources_each_below}
use Rattle.order_levels.proofs.StallLemmas.{first_unmarked_is_left, walk_is_loop}
use Rattle.order_levels.proofs.stall.stalled_loop.Goals as goal

pub returns-in_default : goal.returns-in_default
returns-in_default c =
    let slice = c.as_slice.result.now in
    let len : length slice ≡ c.args.nodes = ap length c.as_slice.ensures.value ∙ c.in_ok-has_run.ensures.len in
    let none : None ≡ first_below (λ m. not (get_or slice m true)) (length slice) = c.in_default.ensures in
    let left = none ∙ first_unmarked_is_left c.args.nodes c.args.ran.now slice len (λ m less. ap (λ (xs : List Bool). get_or xs m true) c.as_slice.ensures.value ∙ c.in_ok-has_run.ensures.marks m less) in
    ap (after_run c.args.nodes c.args.edges.now c.args.ran.now) (sym left)

pub walk-requires-clause-within : goal.walk-requires-clause-within
walk-requires-clause-within c =
    subst (λ (xs : List (List ℕ)). each_below (length xs) xs ≡ true) (sym c.as_slice-2.ensures.value)
    (sources_each_below c.args.nodes c.args.edges.now c.in_ok-sources.sources.items c.requires.ends c.in_ok-sources.ensures.len c.in_ok-sources.ensures.lists)

pub walk-requires-clause-start : goal.walk-requires-clause-start
walk-requires-clause-start c =
    let slice = c.as_slice.result.now in
    let some : Some c.in-Some.start ≡ first_below (λ m. not (get_or slice m true)) (length slice) = c.in-Some.ensures in
    let within = (found (λ m. not (get_or slice m true)) (length slice) c.in-Some.start (sym some)).0 in
    let marks : length slice ≡ c.args.nodes = ap length c.as_slice.ensures.value ∙ c.in_ok-has_run.ensures.len in
    let lists : length c.as_slice-2.result.now ≡ c.args.nodes = ap length c.as_slice-2.ensures.value ∙ c.in_ok-sources.ensures.len in
    omega arith

pub returns : goal.returns
returns c =
    let slice = c.as_slice.result.now in
    let len : length slice ≡ c.args.nodes = ap length c.as_slice.ensures.value ∙ c.in_ok-has_run.ensures.len in
    let some : Some c.in-Some.start ≡ first_below (λ m. not (get_or slice m true)) (length slice) = c.in-Some.ensures in
    let left = some ∙ first_unmarked_is_left c.args.nodes c.args.ran.now slice len (λ m less. ap (λ (xs : List Bool). get_or xs m true) c.as_slice.ensures.value ∙ c.in_ok-has_run.ensures.marks m less) in
    let lists = c.as_slice-2.ensures.value in
    let marks = c.as_slice-3.ensures.value in
    walk_is_loop c.args.nodes c.args.edges.now c.args.ran.now c.as_slice-2.result.now c.as_slice-3.result.now c.in-Some.start c.in_ok-found.found.items
    (ap length lists ∙ c.in_ok-sources.ensures.len)
    (λ n. ap (λ (xs : List (List ℕ)). get_or xs n []) lists ∙ c.in_ok-sources.ensures.lists n)
    (λ m less. ap (λ (xs : List Bool). get_or xs m true) marks ∙ c.in_ok-has_run.ensures.marks m less)
    c.in_ok-found.ensures (sym left)
