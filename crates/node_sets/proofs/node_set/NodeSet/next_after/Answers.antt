use Rattle.std.proofs.Common.{◌<◌, ◌/◌, ◌%◌, ◌^◌, List, ℕ, get_or, refl, ap, subst, arith}
use Rattle.node_sets.proofs.SetLemmas.{next_here, none_here, next_behind, IsNext}
use Rattle.node_sets.proofs.node_set.NodeSet.next_after.Goals as goal

pub overflow_add-result-then-above-ne0 : goal.overflow_add-result-then-above-ne0
overflow_add-result-then-above-ne0 c =
    let words = c.as_slice-words.result.now in
    let n = c.args.n in
    let word = get_or words (n / 64) 0 in
    let some : 0 < word / 2 ^ (n % 64) / 2 ^ 1 = omega (arith, c.if-above-ne0.true) in
    let fits : word < 2 ^ 64 = omega arith in
    let here = next_here words n word (word / 2 ^ (n % 64) / 2 ^ 1) refl refl some fits in
    let few = c.args.self.now.short in
    let within = c.requires.within in
    omega (arith, here.0)

pub returns-then-above-ne0 : goal.returns-then-above-ne0
returns-then-above-ne0 c =
    let words = c.as_slice-words.result.now in
    let n = c.args.n in
    let word = get_or words (n / 64) 0 in
    let some : 0 < word / 2 ^ (n % 64) / 2 ^ 1 = omega (arith, c.if-above-ne0.true) in
    let fits : word < 2 ^ 64 = omega arith in
    let here = next_here c.args.self.now.words.items n word (word / 2 ^ (n % 64) / 2 ^ 1) (ap (λ (xs : List ℕ). get_or xs (n / 64) 0) c.as_slice-words.ensures.value) refl some fits in
    (omega arith, here.1, here.2)

pub returns : goal.returns
returns c =
    let words = c.as_slice-words.result.now in
    let n = c.args.n in
    let none = c.if-above-ne0.false in
    subst (λ (ws : List ℕ). IsNext ws n c.first_from.result) c.as_slice-words.ensures.value
    (next_behind words n c.first_from.result (λ m after less. none_here words n (get_or words (n / 64) 0) m refl (omega arith) after less) c.first_from.ensures)
