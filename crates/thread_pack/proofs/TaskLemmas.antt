-- Where each task is put, told from the last placement to the first.
use Rattle.std.proofs.Common.{◌≡◌, ◌+◌, ◌-◌, ◌<◌, ◌≤◌, ◌==◌, ℕ, zero, suc, List, [], ◌∷◌, length, map, drop, get_or, set, Bool, true, false, cond, refl, sym, ap, ◌∙◌, inl, inr, ◌⊎◌, arith}
use Rattle.std.specs.List.{range_with_len}
use Rattle.std.proofs.lemmas.Bool.{cases_eq, eq-eqb, ne_eqb}
use Rattle.plan_graph.specs.declared.task.Task.{Task}
use Rattle.thread_pack.specs.declared.put.Put.{Put}
use Rattle.thread_pack.specs.Packing.{task_in}

pub last_dropped : (puts : List Put) → drop (length puts) puts ≡ []
last_dropped [] = refl
last_dropped (p ∷ puts) = last_dropped puts

pub one_taken : (puts : List Put) (i : ℕ) (d : Put) → 0 < i → i ≤ length puts → drop (i - 1) puts ≡ get_or puts (i - 1) d ∷ drop i puts
one_taken puts i d some low = opened puts (i - 1) d (omega arith) ∙ ap (λ (k : ℕ). get_or puts (i - 1) d ∷ drop k puts) next
  where
    next : suc (i - 1) ≡ i
    next = omega arith

    opened : (ps : List Put) (k : ℕ) (d : Put) → k < length ps → drop k ps ≡ get_or ps k d ∷ drop (suc k) ps
    opened [] k d within = absurd (omega arith)
    opened (p ∷ ps) zero d within = refl
    opened (p ∷ ps) (suc k) d within = opened ps k d (omega arith)

map_same : (f g : ℕ → Task) (n a : ℕ) → ((k : ℕ) → a ≤ k → k < a + n → f k ≡ g k) → map f (range_with_len a n) ≡ map g (range_with_len a n)
map_same f g zero a same = refl
map_same f g (suc n) a same = (λ i. same a (omega arith) (omega arith) i ∷ map_same f g n (a + 1) (λ k low high. same k (omega arith) (omega arith)) i)

at_other : (p : Put) (puts : List Put) (k : ℕ) → (p.task ≡ k → ⊥) → task_in puts k ≡ task_in (p ∷ puts) k
at_other p puts k other = sym (ap (λ (b : Bool). cond b (record { thread = p.thread; start = p.start }) (task_in puts k)) (ne_eqb p.task k other))

at_task : (p : Put) (puts : List Put) (k : ℕ) → p.task ≡ k → record { thread = p.thread; start = p.start } ≡ task_in (p ∷ puts) k
at_task p puts k same = sym (ap (λ (b : Bool). cond b (record { thread = p.thread; start = p.start }) (task_in puts k)) (eq-eqb p.task k same))

set_from : (p : Put) (puts : List Put) (n a i : ℕ) → p.task ≡ a + i → i < n → set (map (task_in puts) (range_with_len a n)) i (record { thread = p.thread; start = p.start }) ≡ map (task_in (p ∷ puts)) (range_with_len a n)
set_from p puts zero a i is within = absurd (omega arith)
set_from p puts (suc n) a zero is within =
    (λ j. at_task p puts a (omega arith) j ∷ map_same (task_in puts) (task_in (p ∷ puts)) n (a + 1) (λ k low high. at_other p puts k (λ e. omega arith)) j)
set_from p puts (suc n) a (suc i) is within =
    (λ j. at_other p puts a (λ e. omega arith) j ∷ set_from p puts n (a + 1) i (omega arith) (omega arith) j)

pub one_set : (p : Put) (puts : List Put) (n : ℕ) → p.task < n → set (map (task_in puts) (range_with_len 0 n)) p.task (record { thread = p.thread; start = p.start }) ≡ map (task_in (p ∷ puts)) (range_with_len 0 n)
one_set p puts n within = set_from p puts n 0 p.task (omega arith) within

pub none_set : (p : Put) (puts : List Put) (n : ℕ) → n ≤ p.task → map (task_in puts) (range_with_len 0 n) ≡ map (task_in (p ∷ puts)) (range_with_len 0 n)
none_set p puts n past = map_same (task_in puts) (task_in (p ∷ puts)) n 0 (λ k low high. at_other p puts k (λ e. omega arith))

pub tasks_len : (puts : List Put) (n a : ℕ) → length (map (task_in puts) (range_with_len a n)) ≡ n
tasks_len puts zero a = refl
tasks_len puts (suc n) a = ap suc (tasks_len puts n (a + 1))
