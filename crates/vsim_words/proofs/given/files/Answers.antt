use Rattle.std.proofs.Common.{◌≡◌, ◌∙◌, List, ℕ, [], map, refl, ap}
use Rattle.std.specs.Prelude.{Option, Some, None, unwrap_or}
use Rattle.std.specs.Option.{option_map, option_map_or}
use Rattle.std.specs.Borrow.{Bor}
use Rattle.clap.specs.Words.{found_of}
use Rattle.clap.proofs.WalkLemmas.{raw_values-rows}
use Rattle.vsim_words.proofs.given.files.Goals as goal

-- none is taken for the empty list, before or after the texts are read
listed : (o : Option (Bor (List (Bor (List ℕ)))))
    → option_map_or (λ s. map (λ (t : Bor (List ℕ)). t.now) s.now) o [] ≡ unwrap_or (option_map (λ s. map (λ (t : Bor (List ℕ)). t.now) s.now) o) []
listed None = refl
listed (Some s) = refl

pub returns : goal.returns
returns c =
    listed c.get_strs.result ∙ ap (λ (o : Option (List (List ℕ))). unwrap_or o []) (c.get_strs.ensures ∙ raw_values-rows (found_of c.args.matches.now) _)
