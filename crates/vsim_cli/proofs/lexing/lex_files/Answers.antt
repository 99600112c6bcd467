use Rattle.std.proofs.Common.{◌≡◌, ◌++◌, ◌∷◌, [], map, ap, ◌∙◌, subst, List, ℕ, ◌<◌, length, get_or, arith, sym}
use Rattle.std.specs.Prelude.{Vec, ◌≤◌}
use Rattle.std.proofs.lemmas.List.{map-append, length-map, get_or-map}
use Rattle.std.specs.declared.alloc.Global.{Global}
use Rattle.sv_tree.specs.declared.token.Token.{Token}
use Rattle.sv_lex.specs.Answer.{FaultIs, LexesTo}
use Rattle.sv_lex.specs.Cut.{cut, start}
use Rattle.vsim_cli.specs.Lexing.{AreTokens}
use Rattle.vsim_cli.specs.LexingLaws.{lexed_whole, fault_here, fault_later, tokens_later, tokens_all, fault_none}
use Rattle.vsim_cli.proofs.lexing.lex_files.Goals as goal

abbrev texts : List (Vec ℕ Global) → List (List ℕ)
texts l = map (λ (v : Vec ℕ Global). v.items) l

pub returns-in-Err-clause-fault : goal.returns-in-Err-clause-fault
returns-in-Err-clause-fault c =
    let files = texts c.args.files.now in
    let within : c.loop-at.at < length files = omega (arith, length-map c.args.files.now (λ (v : Vec ℕ Global). v.items), c.loop-at-test.true) in
    let here : c.deref.result.now ≡ get_or files c.loop-at.at [] = c.deref.ensures.value ∙ ap (λ (v : Vec ℕ Global). v.items) c.index-files-at.is ∙ sym (get_or-map (λ (v : Vec ℕ Global). v.items) c.args.files.now c.loop-at.at _ [] c.loop-at-test.true) in
    fault_here files c.loop-at.at within c.in-Err.fault (subst (λ (b : List ℕ). FaultIs 1000000 c.in-Err.fault (cut (start c.loop-at.at) b)) here c.in-Err.ensures.fault) c.loop-at.invariant.clean

pub loop-at-preserved : goal.loop-at-preserved
loop-at-preserved c =
    let files = texts c.args.files.now in
    let within : c.loop-at.at < length files = omega (arith, length-map c.args.files.now (λ (v : Vec ℕ Global). v.items), c.loop-at-test.true) in
    let here : c.deref.result.now ≡ get_or files c.loop-at.at [] = c.deref.ensures.value ∙ ap (λ (v : Vec ℕ Global). v.items) c.index-files-at.is ∙ sym (get_or-map (λ (v : Vec ℕ Global). v.items) c.args.files.now c.loop-at.at _ [] c.loop-at-test.true) in
    let lexed = subst (λ (b : List ℕ). LexesTo 1000000 c.lex.new.names c.in-Ok.found.items (cut (start c.loop-at.at) b)) here c.in-Ok.ensures.tokens in
    let grown : map (λ (t : Vec Token Global). t.items) c.push.new.self.items ≡ map (λ (t : Vec Token Global). t.items) c.loop-at.tokens.items ++ c.in-Ok.found.items ∷ []
    = ap (map (λ (t : Vec Token Global). t.items)) c.in-Ok-push.ensures.items ∙ map-append (λ (t : Vec Token Global). t.items) c.loop-at.tokens.items (c.in-Ok.found ∷ []) in
    record {
      within = omega arith;
      clean = fault_later files c.loop-at.at within (lexed_whole c.lex.new.names c.in-Ok.found.items (cut (start c.loop-at.at) (get_or files c.loop-at.at [])) lexed) c.loop-at.invariant.clean;
      tokens = λ table more further are. subst (λ (l : List (List Token)). AreTokens table 0 (l ++ more) files) (sym grown)
          (tokens_later files c.loop-at.at within c.loop-at.names c.lex.new.names (map (λ (t : Vec Token Global). t.items) c.loop-at.tokens.items) c.in-Ok.found.items c.lex.ensures.grows lexed.shows c.loop-at.invariant.tokens table more further are);
    }

pub returns-clause-tokens : goal.returns-clause-tokens
returns-clause-tokens c =
    let files = texts c.args.files.now in
    let past : length files ≤ c.loop-at.at = omega (arith, length-map c.args.files.now (λ (v : Vec ℕ Global). v.items), c.loop-at-test.false) in
    record {
      whole = fault_none files c.loop-at.at past c.loop-at.invariant.clean;
      shown = tokens_all files c.loop-at.at c.loop-at.names (map (λ (t : Vec Token Global). t.items) c.loop-at.tokens.items) past c.loop-at.invariant.tokens;
    }
