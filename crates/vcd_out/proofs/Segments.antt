-- The last segment of a path, from the front.
use Rattle.std.proofs.Common.{◌≡◌, ℕ, List, [], ◌∷◌, Bool, true, false, cond, refl}
use Rattle.std.specs.List.{list_any}
use Rattle.vcd_out.specs.Header.{is_dot, segment}

-- where no dot is left, the whole is its own last segment
pub segment_starts : (path : List ℕ) → cond (list_any is_dot path) (segment path) path ≡ segment path
segment_starts [] = refl
segment_starts (b ∷ more) = by (list_any is_dot (b ∷ more))
  where
    by : (t : Bool) → cond t (cond t (segment more) (b ∷ more)) (b ∷ more) ≡ cond t (segment more) (b ∷ more)
    by true = refl
    by false = refl
