-- What the makers of records compute, over plain lists.
use Rattle.std.proofs.Common.{◌≡◌, ◌≤◌, ℕ, List, [], ◌∷◌, length, slice_index, refl, arith}
use Rattle.dpi_host.specs.Calls.{padded}

-- the first 8 numbers of a list, 0 where it has ended
abbrev pub first_eight : List ℕ → List ℕ
first_eight xs = slice_index xs 0 ∷ slice_index xs 1 ∷ slice_index xs 2 ∷ slice_index xs 3 ∷ slice_index xs 4 ∷ slice_index xs 5 ∷ slice_index xs 6 ∷ slice_index xs 7 ∷ []

pub first_eight_is : (xs : List ℕ) → length xs ≤ 8 → first_eight xs ≡ padded xs
first_eight_is [] few = refl
first_eight_is (a ∷ []) few = refl
first_eight_is (a ∷ b ∷ []) few = refl
first_eight_is (a ∷ b ∷ c ∷ []) few = refl
first_eight_is (a ∷ b ∷ c ∷ d ∷ []) few = refl
first_eight_is (a ∷ b ∷ c ∷ d ∷ e ∷ []) few = refl
first_eight_is (a ∷ b ∷ c ∷ d ∷ e ∷ f ∷ []) few = refl
first_eight_is (a ∷ b ∷ c ∷ d ∷ e ∷ f ∷ g ∷ []) few = refl
first_eight_is (a ∷ b ∷ c ∷ d ∷ e ∷ f ∷ g ∷ h ∷ []) few = refl
first_eight_is (a ∷ b ∷ c ∷ d ∷ e ∷ f ∷ g ∷ h ∷ x ∷ xs) few = absurd (omega arith)
