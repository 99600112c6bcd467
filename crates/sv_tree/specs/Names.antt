-- A table of names: the list of its texts, each once, in the order in which they came.
use Rattle.std.specs.Prelude.{◌≡◌, ◌⊎◌, ◌≤◌, ◌^◌, ℕ, List, [], ◌∷◌, ◌++◌, length, slice_get, Some}

-- no text stands at two places
abbrev pub EachOnce : List (List ℕ) → Type 0
EachOnce names = (i j : ℕ) → (text : List ℕ) → slice_get names i ≡ Some text → slice_get names j ≡ Some text → i ≡ j

-- the text stands at no place
abbrev pub IsAbsent : List (List ℕ) → List ℕ → Type 0
IsAbsent names text = (i : ℕ) → slice_get names i ≡ Some text → ⊥

-- the table has the names that it had under the same numbers, and perhaps further ones
abbrev pub Grows : List (List ℕ) → List (List ℕ) → Type 0
Grows old new = (more : List (List ℕ)) × (new ≡ old ++ more)

-- the text was there under this number and nothing changed, or it was nowhere and now stands at the end under this number
abbrev pub Interns : List (List ℕ) → List (List ℕ) → List ℕ → ℕ → Type 0
Interns old new text id = ((new ≡ old) × (slice_get old id ≡ Some text)) ⊎ ((new ≡ old ++ text ∷ []) × (id ≡ length old) × IsAbsent old text)

-- what each table of names keeps: its texts are apart, and each place is a number of 32 bits
pub record IsTable (names : List (List ℕ)) : Type 0 where
  pub once : EachOnce names
  pub few : length names ≤ 2 ^ 32
