-- Each command line has an answer, whatever the files hold.
use Rattle.std.proofs.Common.{◌≡◌, ◌⊎◌, ◌≤◌, ◌<◌, ℕ, zero, suc, ◌+◌, List, [], ◌∷◌, ◌++◌, length, map, Option, Some, None, refl, ◌∙◌, subst, inl, inr, arith, append_assoc, length-append, add-one}
use Rattle.std.specs.Prelude.{Bool, true, false, codes, nat_lt, slice_get}
use Rattle.std.proofs.lemmas.Bool.{ltb-true, ltb-false}
use Rattle.std.specs.List.{position_from}
use Rattle.vs_world.specs.Outside.{Files}
use Rattle.sv_tree.specs.declared.token.Token.{Token}
use Rattle.sv_lex.specs.Answer.{ShowsAll}
use Rattle.sv_lex.specs.Cut.{Lexed as LexedToken, cut, start}
use Rattle.sv_lex.specs.Number.{is_no_number}
use Rattle.sv_lex.specs.declared.file.LexFault.{LexFault}
use Rattle.sv_pp.specs.Active.{reading}
use Rattle.sv_pp.specs.declared.fault.PpFault.{PpFault}
use Rattle.parse_expr.specs.Outside.{starts_outside, outside_at, IsFirstOutside}
use Rattle.parse_expr.specs.declared.fault.ParseFault.TheVariants as parsing
use Rattle.sv_parse.specs.Faults.{NoneOutside}
use Rattle.run_status.specs.Lines.{Text}
use Rattle.run_status.specs.Answer.{Refused, Unread}
use Rattle.run_status.specs.Stages.{HasAnswer}
use Rattle.run_input.specs.Input.{Bytes, NotRead, Missing, Long}
use Rattle.fault_text.specs.FaultText.{usage, too_long, lexing_text, preprocessing_text, bad_number, parsing_text}
use Rattle.vsim_words.specs.Settings.{Settings, settings_of}
use Rattle.vsim_cli.specs.Case.{Command, HostView, command_of}
use Rattle.vsim_cli.specs.Inputs.{Inputs, inputs_read}
use Rattle.vsim_cli.specs.Lexing.{most_tokens, first_fault, AreTokens, AreLexed}
use Rattle.vsim_cli.specs.Front.{Unlexed, TooMany, Faulty, AreActive, NoNumber, Outside, NoTree}
use Rattle.vsim_cli.specs.RefusalLaws.{position_within}
use Rattle.vsim_cli.specs.Answers.{CheckRefused, BadBytes, BadTokens, Faulty as FaultyBytes, InputsAnswer, IsCommandAnswer, SettingsAnswer, IsAnswer}

-- ---- some table has the spellings of all tokens: the list of them all, in order

abbrev spellings : List LexedToken → List Text
spellings xs = map (λ (x : LexedToken). x.text) xs

abbrev numbered : ℕ → List LexedToken → List Token
numbered n [] = []
numbered n (x ∷ xs) = record { kind = x.kind; name = record { 0 = n }; at = x.at } ∷ numbered (suc n) xs

get_after : (before : List Text) (t : Text) (more : List Text) → slice_get (before ++ t ∷ more) (length before) ≡ Some t
get_after [] t more = refl
get_after (b ∷ before) t more = get_after before t more

shows_numbered : (before : List Text) (xs : List LexedToken) (more : List Text) (table : List Text) → before ++ (spellings xs ++ more) ≡ table → ShowsAll table (numbered (length before) xs) xs
shows_numbered before [] more table is = tt
shows_numbered before (x ∷ xs) more table is = (
  record { kind = refl; text = subst (λ t. slice_get t (length before) ≡ Some x.text) is (get_after before x.text (spellings xs ++ more)); at = refl },
  subst (λ n. ShowsAll table (numbered n xs) xs) (length-append before (x.text ∷ []) ∙ add-one (length before)) (shows_numbered (before ++ x.text ∷ []) xs more table (append_assoc before (x.text ∷ []) (spellings xs ++ more) ∙ is)),
)

-- the files' tokens over the table of all spellings
abbrev all_spellings : ℕ → List Bytes → List Text
all_spellings k [] = []
all_spellings k (bytes ∷ files) = spellings (cut (start k) bytes).tokens ++ all_spellings (suc k) files

abbrev all_numbered : ℕ → ℕ → List Bytes → List (List Token)
all_numbered n k [] = []
all_numbered n k (bytes ∷ files) = numbered n (cut (start k) bytes).tokens ∷ all_numbered (n + length (spellings (cut (start k) bytes).tokens)) (suc k) files

tokens_numbered : (before : List Text) (k : ℕ) (files : List Bytes) (table : List Text) → before ++ all_spellings k files ≡ table → AreTokens table k (all_numbered (length before) k files) files
tokens_numbered before k [] table is = tt
tokens_numbered before k (bytes ∷ files) table is =
    let here = spellings (cut (start k) bytes).tokens in (
      shows_numbered before (cut (start k) bytes).tokens (all_spellings (suc k) files) table is,
      subst (λ n. AreTokens table (suc k) (all_numbered n (suc k) files) files) (length-append before here)
          (tokens_numbered (before ++ here) (suc k) files table (append_assoc before here (all_spellings (suc k) files) ∙ is)),
    )

-- ---- some answer

-- some token is the first outside, or none is
abbrev Decided : List Text → List Token → Type 0
Decided table ts = ((k : ℕ) × IsFirstOutside table ts k) ⊎ NoneOutside table ts

outside_or_none : (table : List Text) (ts : List Token) → Decided table ts
outside_or_none table [] = inr (λ k. none k)
  where
    none : (k : ℕ) → outside_at table [] k ≡ false
    none zero = refl
    none (suc k) = refl
outside_or_none table (t ∷ ts) = by (starts_outside table (t ∷ ts)) refl (outside_or_none table ts)
  where
    later : (P : ℕ → Type 0) → P 0 → ((k : ℕ) → P (suc k)) → (k : ℕ) → P k
    later P here more zero = here
    later P here more (suc k) = more k

    first : (j : ℕ) → starts_outside table (t ∷ ts) ≡ false → ((i : ℕ) → i < j → outside_at table ts i ≡ false) → (i : ℕ) → i < suc j → outside_at table (t ∷ ts) i ≡ false
    first j here more zero h = here
    first j here more (suc i) h = more i (omega (arith, h))

    by : (b : Bool) → starts_outside table (t ∷ ts) ≡ b → Decided table ts → Decided table (t ∷ ts)
    by true is more = inl (0, record { outside = is; first = λ j h. absurd (omega (arith, h)) })
    by false is (inl found) = inl (suc found.0, record { outside = found.1.outside; first = first found.0 is found.1.first })
    by false is (inr none) = inr (later (λ k. outside_at table (t ∷ ts) k ≡ false) is none)

some_token : (ts : List Token) (k : ℕ) → k < length ts → (t : Token) × (slice_get ts k ≡ Some t)
some_token [] k within = absurd (omega (arith, within))
some_token (t ∷ ts) zero within = (t, refl)
some_token (t ∷ ts) (suc k) within = some_token ts k (omega (arith, within))

-- some refusal of any bytes has a cause, as far as the relations tell it
module _ (c : Command) (h : HostView) (contents : List Bytes) where
  abbrev SomeLine : Type 0
  SomeLine = (line : Text) × CheckRefused c h contents line

  by_tokens : (table : List Text) (ts : List Token) → AreActive contents table ts → (o : Option ℕ) → position_from (is_no_number table) 0 ts ≡ o → Decided table ts → SomeLine
  by_tokens table ts active (Some k) is decided =
      let found = some_token ts k (omega (arith, position_within (is_no_number table) 0 ts k is)) in (bad_number c.files found.0.at, BadTokens table ts active (NoNumber k found.0 is found.1 refl))
  by_tokens table ts active None is (inl outside) =
      (parsing_text c.files table (slice_get ts outside.0) (parsing.Construct outside.0), BadTokens table ts active (Outside outside.0 is outside.1 refl))
  by_tokens table ts active None is (inr none) = (parsing_text c.files table (slice_get ts 0) (parsing.Syntax 0), BadTokens table ts active (NoTree 0 is none (omega arith) refl))

  by_fault : (table : List Text) (tokens : List (List Token)) → AreLexed contents table tokens → (reading table tokens).count ≤ most_tokens → (f : Option PpFault) → (reading table tokens).fault ≡ f → SomeLine
  by_fault table tokens lexed few (Some f) is = (preprocessing_text c.files table f, BadBytes (Faulty table tokens lexed few f is refl))
  by_fault table tokens lexed few None is =
      let ts = (reading table tokens).tokens in
      by_tokens table ts (record { tokens = tokens; lexed = lexed; few = few; whole = is; active = refl }) (position_from (is_no_number table) 0 ts) refl (outside_or_none table ts)

  by_count : (table : List Text) (tokens : List (List Token)) → AreLexed contents table tokens → (b : Bool) → nat_lt most_tokens (reading table tokens).count ≡ b → SomeLine
  by_count table tokens lexed true is = (codes "too many tokens", BadBytes (TooMany table tokens lexed (ltb-true most_tokens (reading table tokens).count is) refl))
  by_count table tokens lexed false is = by_fault table tokens lexed (ltb-false most_tokens (reading table tokens).count is) (reading table tokens).fault refl

  by_lexing : (f : Option LexFault) → first_fault 0 contents ≡ f → SomeLine
  by_lexing (Some f) is = (lexing_text c.files f, BadBytes (Unlexed f is refl))
  by_lexing None is =
      let table = all_spellings 0 contents in
      let tokens = all_numbered 0 0 contents in
      by_count table tokens (record { whole = is; shown = tokens_numbered [] 0 contents table refl }) (nat_lt most_tokens (reading table tokens).count) refl

  pub some_line : SomeLine
  some_line = by_lexing (first_fault 0 contents) refl

some_read : (c : Command) (h : HostView) (read : NotRead ⊎ Inputs) → HasAnswer (InputsAnswer c h read)
some_read c h (inl (Missing name)) = record { answer = Unread name; allowed = refl; quiet = refl }
some_read c h (inl (Long name)) = record { answer = Refused (too_long name); allowed = refl; quiet = refl }
some_read c h (inr i) = let some = some_line c h i.files in record { answer = Refused some.0; allowed = FaultyBytes some.0 some.1 refl; quiet = refl }

-- some answer of a command
pub some_command_answer : (c : Command) (h : HostView) (told : Option Files) → HasAnswer (IsCommandAnswer c h told)
some_command_answer c h None = record { answer = Refused usage; allowed = tt; quiet = refl }
some_command_answer c h (Some world) = some_read c h (inputs_read world c)

-- and of each command line
by_settings : (s : Option Settings) (h : HostView) (told : Option Files) → HasAnswer (SettingsAnswer s h told)
by_settings None h told = record { answer = Refused usage; allowed = refl; quiet = refl }
by_settings (Some s) h told = some_command_answer (command_of s) h told

pub some_answer : (words : List Text) (h : HostView) (told : Option Files) → HasAnswer (IsAnswer words h told)
some_answer words h told = by_settings (settings_of words) h told
