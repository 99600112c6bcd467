use Rattle.std.proofs.Common.{◌≡◌, ◌-◌, ◌≤◌, ◌++◌, map, drop, length, List, ℕ}
use Rattle.sv_tree.specs.declared.token.Token.{Token}
use Rattle.sv_tree.specs.Names.{Grows}
use Rattle.vsim_cli.specs.Lexing.{first_fault, AreTokens}
use Rattle.vsim_cli.proofs.lexing.lex_files.Given as goal

abbrev pub invariant-loop-at : goal.invariant-loop-at
invariant-loop-at l = record {
  within : l.at ≤ length l.files;
  clean : first_fault l.at (drop l.at (map (λ f. f.items) l.files)) ≡ first_fault 0 (map (λ f. f.items) l.files);
  tokens : (table : List (List ℕ)) (more : List (List Token)) → Grows l.names table → AreTokens table l.at more (drop l.at (map (λ f. f.items) l.files)) → AreTokens table 0 (map (λ t. t.items) l.tokens.items ++ more) (map (λ f. f.items) l.files);
}

abbrev pub decreases-loop-at : goal.decreases-loop-at
decreases-loop-at l = length l.files - l.at
