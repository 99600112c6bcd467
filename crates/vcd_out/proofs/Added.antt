-- Texts that are added one after another.
use Rattle.std.proofs.Common.{◌≡◌, ℕ, List, ◌++◌, ◌∙◌, ap, append_assoc}
use Rattle.std.specs.Prelude.{Result, Ok, Err, OnOk, is_ok, if◌then◌else◌}

pub third_added : {A E : Type 0} (r : Result A E) (t0 t1 t2 t3 a b z : List ℕ) → t1 ≡ t0 ++ a → t2 ≡ t1 ++ b → OnOk r (t3 ≡ t2 ++ z) → OnOk r (t3 ≡ t0 ++ (a ++ (b ++ z)))
third_added (Ok v) t0 t1 t2 t3 a b z is1 is2 is3 =
    is3 ∙ ap (λ (t : List ℕ). t ++ z) (is2 ∙ ap (λ (t : List ℕ). t ++ b) is1) ∙ append_assoc (t0 ++ a) b z ∙ append_assoc t0 a (b ++ z)
third_added (Err f) t0 t1 t2 t3 a b z is1 is2 is3 = tt

pub where_ok : {A E : Type 0} (r : Result A E) (t t' z : List ℕ) → t' ≡ (if is_ok r then t ++ z else t) → OnOk r (t' ≡ t ++ z)
where_ok (Ok v) t t' z h = h
where_ok (Err f) t t' z h = tt
