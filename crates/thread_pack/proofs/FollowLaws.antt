-- A thread's list has its tasks in the order of their placement.
use Rattle.std.proofs.Common.{◌≡◌, ◌==◌, ℕ, List, [], ◌∷◌, map, Bool, true, false, not, cond, ◌&&◌, ◌||◌, Option, Some, None, refl, sym, ap, ◌∙◌}
use Rattle.std.specs.List.{filter}
use Rattle.std.proofs.lemmas.Bool.{eq-eqb, ne_eqb, and_parts, or_parts, not-true, both_ways}
use Rattle.plan_graph.specs.declared.node.Edge.{Edge}
use Rattle.plan_graph.specs.Graphs.{has_edge, is_among, HasNoCycle}
use Rattle.thread_pack.specs.declared.put.Put.{Put}
use Rattle.thread_pack.specs.Packing.{order_of, on_thread, packed}
use Rattle.plan_graph.specs.ListLaws.{is_distinct}

-- the thread of a task, where it is placed
abbrev pub thread_of : List Put → ℕ → Option ℕ
thread_of [] t = None
thread_of (p ∷ puts) t = cond (p.task == t) (Some p.thread) (thread_of puts t)

abbrev pub is_thread : ℕ → Option ℕ → Bool
is_thread k (Some thread) = thread == k
is_thread k None = false

abbrev Agrees : List Put → List Put → Type 0
Agrees whole [] = Unit {0}
Agrees whole (p ∷ puts) = (thread_of whole p.task ≡ Some p.thread) × Agrees whole puts

one_before : (q : Put) (whole puts : List Put) → is_among q.task (order_of puts) ≡ false → Agrees whole puts → Agrees (q ∷ whole) puts
one_before q whole [] away agrees = record {}
one_before q whole (p ∷ puts) away agrees =
    let apart = or_parts (p.task == q.task) (is_among q.task (order_of puts)) away in (
      ap (λ (b : Bool). cond b (Some q.thread) (thread_of whole p.task)) (ne_eqb q.task p.task (λ e. both_ways (p.task == q.task) apart.0 (eq-eqb p.task q.task (sym e)))) ∙ agrees.0,
      one_before q whole puts apart.1 agrees.1,
    )

agrees_all : (puts : List Put) → is_distinct (order_of puts) ≡ true → Agrees puts puts
agrees_all [] distinct = record {}
agrees_all (p ∷ puts) distinct =
    let parts = and_parts (not (is_among p.task (order_of puts))) (is_distinct (order_of puts)) distinct in (
      ap (λ (b : Bool). cond b (Some p.thread) (thread_of puts p.task)) (eq-eqb p.task p.task refl),
      one_before p puts puts (not-true (is_among p.task (order_of puts)) parts.0) (agrees_all puts parts.1),
    )

follow : (whole : List Put) (k : ℕ) (puts : List Put) → Agrees whole puts → on_thread puts k ≡ filter (λ (t : ℕ). is_thread k (thread_of whole t)) (order_of puts)
follow whole k [] agrees = refl
follow whole k (p ∷ puts) agrees =
    by_test (p.thread == k) (follow whole k puts agrees.1)
    ∙ ap (λ (o : Option ℕ). cond (is_thread k o) (p.task ∷ filter (λ (t : ℕ). is_thread k (thread_of whole t)) (order_of puts)) (filter (λ (t : ℕ). is_thread k (thread_of whole t)) (order_of puts))) (sym agrees.0)
  where
    by_test : (b : Bool) → on_thread puts k ≡ filter (λ (t : ℕ). is_thread k (thread_of whole t)) (order_of puts)
        → order_of (cond b (p ∷ filter (λ (q : Put). q.thread == k) puts) (filter (λ (q : Put). q.thread == k) puts))
        ≡ cond b (p.task ∷ filter (λ (t : ℕ). is_thread k (thread_of whole t)) (order_of puts)) (filter (λ (t : ℕ). is_thread k (thread_of whole t)) (order_of puts))
    by_test true more = ap (λ (ts : List ℕ). p.task ∷ ts) more
    by_test false more = more

pub lists_follow : (puts : List Put) (k : ℕ) → is_distinct (order_of puts) ≡ true → on_thread puts k ≡ filter (λ (t : ℕ). is_thread k (thread_of puts t)) (order_of puts)
lists_follow puts k distinct = follow puts k puts (agrees_all puts distinct)
