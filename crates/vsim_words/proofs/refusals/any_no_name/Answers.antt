use Rattle.std.proofs.Common.{◌∙◌, List, ℕ, rules, tests}
use Rattle.std.specs.Borrow.{Bor}
use Rattle.std.proofs.lemmas.Iterator.{YieldsList-from_slice}
use Rattle.std.proofs.lemmas.Iterator.Search.{any_from_yields_List}
use Rattle.clap.proofs.WalkLemmas.{list_any-map}
use Rattle.vsim_words.specs.Settings.{is_no_name}
use Rattle.vsim_words.proofs.refusals.any_no_name.Goals as goal

pub returns : goal.returns
returns c =
    any_from_yields_List (λ (s : Bor (List ℕ)). is_no_name s.now) _ _ _ c.any.ensures.ran (YieldsList-from_slice c.args.names.now cc) (λ x b q k. search (rules, tests))
    ∙ list_any-map is_no_name (λ (s : Bor (List ℕ)). s.now) c.args.names.now
