-- The first code is no deeper than the deepest.
use Rattle.std.proofs.Common.{◌≡◌, ◌≤◌, ℕ, List, [], ◌∷◌, length, get_or, fold, max, sym, ap, subst, arith}
use Rattle.task_eval.specs.Codes.{Ops, deepest}
use Rattle.build_tests.proofs.running.run_first.Goals as goal

grows : (codes : List Ops) (most : ℕ) → most ≤ fold (λ most (code : Ops). max most code.stack) most codes
grows [] most = omega arith
grows (code ∷ more) most = let rest = grows more (max most code.stack) in omega arith

first_fits : (codes : List Ops) (code : Ops) → 1 ≤ length codes → code ≡ get_or codes 0 code → code.stack ≤ deepest codes
first_fits [] code some is = absurd (omega arith)
first_fits (first ∷ more) code some is =
    let rest = grows more (max 0 first.stack) in
    let same : code.stack ≡ first.stack = ap (λ (o : Ops). o.stack) is in
    omega arith

pub run_node-requires-clause-room : goal.run_node-requires-clause-room
run_node-requires-clause-room c lifetimes =
    let fits = first_fits c.as_slice-codes.result.now c.code-item.result c.in-len1-up.len_at_least c.code-item.is in
    subst (λ (room : ℕ). c.code-item.result.stack ≤ room) (sym c.in_ok-frame.ensures) fits
