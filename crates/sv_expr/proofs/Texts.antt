-- A number that a table does not have gives no text.
use Rattle.std.proofs.Common.{◌≡◌, ◌≤◌, ℕ, List, [], length, get_or}
use Rattle.std.proofs.lemmas.List.{get_or_past}

pub no_text : (texts : List (List ℕ)) (i : ℕ) → length texts ≤ i → get_or texts i [] ≡ []
no_text texts i h = get_or_past texts i [] h
