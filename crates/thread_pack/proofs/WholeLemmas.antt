-- What holds of an answer, from the parts that are told of it.
use Rattle.std.proofs.Common.{◌≡◌, ◌<◌, ◌==◌, ℕ, List, [], ◌∷◌, Bool, true, ◌&&◌, nat_lt, Result, Ok, Err, IfOk, refl}
use Rattle.std.specs.List.{list_all}
use Rattle.std.proofs.lemmas.Bool.{eq-eqb, and_from, or_left, or_right, lt-ltb}
use Rattle.plan_graph.specs.declared.node.Edge.{Edge}
use Rattle.plan_graph.specs.Graphs.{has_edge, joins}
use Rattle.plan_graph.specs.Groupings.{place_in, keeps}

pub ok_all : {T E : Type 0} (r : Result T E) (P Q R S : T → Type 0) → ((v : T) → P v → Q v → R v → S v) → IfOk r P → IfOk r Q → IfOk r R → IfOk r S
ok_all (Ok v) P Q R S goes p q r = goes v p q r
ok_all (Err e) P Q R S goes p q r = p

pub keeps_all : (order : List ℕ) (edges : List Edge) → ((i j : ℕ) → has_edge edges i j ≡ true → place_in order i < place_in order j) → list_all (keeps order) edges ≡ true
keeps_all order [] each = refl
keeps_all order (e ∷ edges) each =
    and_from (keeps order e) (list_all (keeps order) edges)
    (lt-ltb (place_in order e.from) (place_in order e.to)
    (each e.from e.to (or_left (joins e.from e.to e) (has_edge edges e.from e.to) (and_from (e.from == e.from) (e.to == e.to) (eq-eqb e.from e.from refl) (eq-eqb e.to e.to refl)))))
    (keeps_all order edges (λ i j edge. each i j (or_right (joins i j e) (has_edge edges i j) edge)))
