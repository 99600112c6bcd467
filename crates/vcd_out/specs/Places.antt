-- Places in lists of keys: of variables by their scopes, of scopes by the scopes round them.
use Rattle.std.specs.Prelude.{◌≡◌, ◌<◌, ℕ, suc, ◌==◌, Bool, true, ◌&&◌, nat_le, List, [], ◌∷◌, drop, get_or, map, length, Option, Some, None, if◌then◌else◌}
use Rattle.rtl_ir.specs.declared.design.Var.{Var}
use Rattle.rtl_ir.specs.declared.design.FlatScope.{FlatScope}

-- the scopes of variables
abbrev pub owners_of : List Var → List ℕ
owners_of vars = map (λ v. v.scope) vars

-- the number of the scope round one, and one; 0 where there is none
abbrev pub outer_of : Option ℕ → ℕ
outer_of None = 0
outer_of (Some parent) = suc parent

abbrev pub outers_of : List FlatScope → List ℕ
outers_of scopes = map (λ s. outer_of s.parent) scopes

-- the places of a key in a list whose first place has number n
abbrev pub places_from : ℕ → List ℕ → ℕ → List ℕ
places_from n [] key = []
places_from n (k ∷ more) key = if k == key then n ∷ places_from (suc n) more key else places_from (suc n) more key

-- the first of them
abbrev pub place_from : ℕ → List ℕ → ℕ → Option ℕ
place_from n [] key = None
place_from n (k ∷ more) key = if k == key then Some n else place_from (suc n) more key

-- each scope stands after the one round it; the first of these has number n
abbrev pub are_first : ℕ → List ℕ → Bool
are_first n [] = true
are_first n (outer ∷ more) = nat_le outer n && are_first (suc n) more

-- the first place of each key, and for each place the next one that has its key
pub record IsLinked (keys : List ℕ) (first next : List (Option ℕ)) : Type 0 where
  pub first_is : (key : ℕ) → key < length first → get_or first key None ≡ place_from 0 keys key
  pub next_is : (place : ℕ) → place < length keys → get_or next place None ≡ place_from (suc place) (drop (suc place) keys) (get_or keys place 0)
  pub next_length : length next ≡ length keys
