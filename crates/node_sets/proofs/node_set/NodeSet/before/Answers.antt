use Rattle.std.proofs.Common.{◌<◌, ◌-◌, ◌*◌, ◌/◌, ◌%◌, ◌^◌, List, ℕ, get_or, bit_and, refl, ap, subst, arith}
use Rattle.node_sets.proofs.SetLemmas.{last_here, none_lower, before_it, IsBefore}
use Rattle.node_sets.proofs.node_set.NodeSet.before.Goals as goal

pub returns-then-below-ne0 : goal.returns-then-below-ne0
returns-then-below-ne0 c =
    let words = c.as_slice-words.result.now in
    let n = c.args.n in
    let word = get_or words (n / 64) 0 in
    let below = bit_and word (1 * 2 ^ (n % 64) % 2 ^ 64 - 1) in
    let some : 0 < below = omega (arith, c.if-below-ne0.true) in
    let fits : word < 2 ^ 64 = omega arith in
    last_here c.args.self.now.words.items n word below (ap (λ (xs : List ℕ). get_or xs (n / 64) 0) c.as_slice-words.ensures.value) refl some fits

pub returns : goal.returns
returns c =
    let words = c.as_slice-words.result.now in
    let n = c.args.n in
    let none = c.if-below-ne0.false in
    subst (λ (ws : List ℕ). IsBefore ws n c.last_below.result) c.as_slice-words.ensures.value
    (before_it words n c.last_below.result (λ m high less. none_lower words n (get_or words (n / 64) 0) m refl (omega arith) high less) c.last_below.ensures)
