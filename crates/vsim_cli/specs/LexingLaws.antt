-- How the tokens of the files are found one file after another.
use Rattle.std.proofs.Common.{◌≡◌, ◌≤◌, ◌<◌, ℕ, ◌+◌, List, [], ◌∷◌, ◌++◌, length, drop, get_or, Option, Some, None, cond, sym, ap, ◌∙◌, subst, add-one, append_assoc, append-nil}
use Rattle.std.proofs.lemmas.Bool.{le-ltb, lt-ltb}
use Rattle.std.proofs.lemmas.List.{drop_more}
use Rattle.std.proofs.Math.ListN.{drop_of_length-le}
use Rattle.sv_tree.specs.declared.token.Token.{Token}
use Rattle.sv_tree.specs.Names.{Grows}
use Rattle.sv_tree.specs.NameLaws.{grows_same, grows_further}
use Rattle.sv_lex.specs.Answer.{ShowsAll, LexesTo, FaultIs}
use Rattle.sv_lex.specs.Cut.{Cut, cut, start}
use Rattle.sv_lex.specs.CutLaws.{shows_grown, shows_named}
use Rattle.sv_pp.specs.Answer.{AllNamed}
use Rattle.sv_lex.specs.declared.file.LexFault.{LexFault}
use Rattle.sv_lex.specs.declared.file.LexFault.TheVariants as fault
use Rattle.run_status.specs.Lines.{Text}
use Rattle.run_input.specs.Input.{Bytes}
use Rattle.vsim_cli.specs.Lexing.{most_tokens, cut_fault, file_fault, or_else, first_fault, AreTokens, FirstFault}

-- ---- one file

few_by : (c : Cut) → length c.tokens ≤ most_tokens → file_fault c ≡ cut_fault c.fault
few_by c few = ap (λ b. cond b (Some fault.TooMany) (cut_fault c.fault)) (le-ltb most_tokens (length c.tokens) few)

pub lexed_whole : (names : List Text) (ts : List Token) (c : Cut) → LexesTo 1000000 names ts c → file_fault c ≡ None
lexed_whole names ts c h = few_by c h.few ∙ ap cut_fault h.whole

abbrev HasFault : Option LexFault → LexFault → Type 0
HasFault o fault.NoMemory = Unit {0}
HasFault o f = o ≡ Some f

pub lexed_fault : (f : LexFault) (c : Cut) → FaultIs 1000000 f c → HasFault (file_fault c) f
lexed_fault fault.NoMemory c h = tt
lexed_fault fault.TooMany c h = ap (λ b. cond b (Some fault.TooMany) (cut_fault c.fault)) (lt-ltb most_tokens (length c.tokens) h)
lexed_fault (fault.BadChar at) c h = few_by c h.1 ∙ ap cut_fault h.0
lexed_fault (fault.OpenComment at) c h = few_by c h.1 ∙ ap cut_fault h.0
lexed_fault (fault.OpenString at) c h = few_by c h.1 ∙ ap cut_fault h.0

-- ---- one file after another

or_has : (f : LexFault) (o rest : Option LexFault) (files : List Bytes) → HasFault o f → or_else o rest ≡ first_fault 0 files → FirstFault files f
or_has fault.NoMemory o rest files h is = tt
or_has fault.TooMany o rest files h is = sym is ∙ ap (λ x. or_else x rest) h
or_has (fault.BadChar at) o rest files h is = sym is ∙ ap (λ x. or_else x rest) h
or_has (fault.OpenComment at) o rest files h is = sym is ∙ ap (λ x. or_else x rest) h
or_has (fault.OpenString at) o rest files h is = sym is ∙ ap (λ x. or_else x rest) h

module _ (files : List Bytes) (at : ℕ) (within : at < length files) where
  abbrev here : Cut
  here = cut (start at) (get_or files at [])

  abbrev rest : List Bytes
  rest = drop (at + 1) files

  at_file : first_fault at (drop at files) ≡ or_else (file_fault here) (first_fault (at + 1) rest)
  at_file = ap (first_fault at) (drop_more files at [] within) ∙ ap (λ n. or_else (file_fault here) (first_fault n rest)) (sym (add-one at))

  -- the file has none
  pub fault_later : file_fault here ≡ None → first_fault at (drop at files) ≡ first_fault 0 files → first_fault (at + 1) rest ≡ first_fault 0 files
  fault_later none is = ap (λ x. or_else x (first_fault (at + 1) rest)) (sym none) ∙ sym at_file ∙ is

  -- the file's is the first
  pub fault_here : (f : LexFault) → FaultIs 1000000 f here → first_fault at (drop at files) ≡ first_fault 0 files → FirstFault files f
  fault_here f h is = or_has f (file_fault here) (first_fault (at + 1) rest) files (lexed_fault f here h) (sym at_file ∙ is)

  -- the tokens found so far, and those of the files that are left, whatever the table grows to
  pub tokens_later : (old new : List Text) (done : List (List Token)) (ts : List Token) → Grows old new → ShowsAll new ts here.tokens
      → ((table : List Text) (more : List (List Token)) → Grows old table → AreTokens table at more (drop at files) → AreTokens table 0 (done ++ more) files)
      → (table : List Text) (more : List (List Token)) → Grows new table → AreTokens table (at + 1) more rest → AreTokens table 0 ((done ++ ts ∷ []) ++ more) files
  tokens_later old new done ts grows shown before table more further are =
      subst (λ l. AreTokens table 0 l files) (sym (append_assoc done (ts ∷ []) more))
      (before table (ts ∷ more) (grows_further old new table grows further)
      (subst (AreTokens table at (ts ∷ more)) (sym (drop_more files at [] within)) (shows_grown new table further ts here.tokens shown, subst (λ n. AreTokens table n more rest) (add-one at) are)))

-- nothing is left
pub tokens_all : (files : List Bytes) (at : ℕ) (table : List Text) (done : List (List Token)) → length files ≤ at
    → ((grown : List Text) (more : List (List Token)) → Grows table grown → AreTokens grown at more (drop at files) → AreTokens grown 0 (done ++ more) files) → AreTokens table 0 done files
tokens_all files at table done past before =
    subst (λ l. AreTokens table 0 l files) (append-nil done) (before table [] (grows_same table) (subst (AreTokens table at []) (sym (drop_of_length-le files past)) tt))

pub fault_none : (files : List Bytes) (at : ℕ) → length files ≤ at → first_fault at (drop at files) ≡ first_fault 0 files → first_fault 0 files ≡ None
fault_none files at past is = sym is ∙ ap (first_fault at) (drop_of_length-le files past)

-- ---- names of tokens

tokens_named : (table : List Text) (k : ℕ) (tokens : List (List Token)) (files : List Bytes) → AreTokens table k tokens files → AllNamed table tokens
tokens_named table k [] files are = tt
tokens_named table k (ts ∷ tokens) [] are = absurd are
tokens_named table k (ts ∷ tokens) (bytes ∷ files) are = (shows_named table ts (cut (start k) bytes).tokens are.0, tokens_named table _ tokens files are.1)

pub all_named : (table : List Text) (tokens : List (List Token)) (files : List Bytes) → AreTokens table 0 tokens files → AllNamed table tokens
all_named table tokens files are = tokens_named table 0 tokens files are
