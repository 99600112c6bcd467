-- What follows for an outcome from two facts of it.
use Rattle.std.proofs.Common.{Result, Ok, Err, IfOk}

pub both_hold : {X Y : Type 0} (r : Result X Y) (P Q R : X → Type 0) → ((x : X) → P x → Q x → R x) → IfOk r P → IfOk r Q → IfOk r R
both_hold (Ok x) P Q R f p q = f x p q
both_hold (Err e) P Q R f p q = tt
