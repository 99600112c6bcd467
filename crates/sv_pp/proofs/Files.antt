-- Whole files: what lasts from token to token and from file to file.
use Rattle.std.specs.Prelude.{◌≡◌, ◌≤◌, ◌<◌, ℕ, zero, suc, ◌-◌, Bool, true, false, not, ◌&&◌, if◌then◌else◌, List, [], ◌∷◌, length, get_or, take, drop, map}
use Rattle.std.proofs.Common.{refl, sym, ap, ◌∙◌, subst, arith, append-nil}
use Rattle.std.proofs.lemmas.List.Sums.{prefix_len-le-length}
use Rattle.sv_tree.specs.declared.token.Token.{Token}
use Rattle.sv_tree.specs.Tokens.{AreNamed}
use Rattle.sv_pp.specs.declared.fault.PpFault.{PpFault}
use Rattle.sv_pp.specs.declared.fault.PpFault.TheVariants as fault
use Rattle.sv_pp.specs.declared.file.Open.{Open}
use Rattle.sv_pp.specs.declared.file.Place.{Place}
use Rattle.sv_pp.specs.declared.reading.Going.{Going}
use Rattle.sv_pp.specs.declared.directive.Role.{Role}
use Rattle.sv_pp.specs.declared.directive.Role.TheVariants.{Define, Undef, Ifdef, Ifndef, Else, Endif, Ignored, Refused, Use}
use Rattle.sv_pp.specs.Directive.{Text, role_of}
use Rattle.sv_pp.specs.Reading.{Reading, Macros, no_macros, joined, silent, stopped, named_by, is_directive, is_name}
use Rattle.sv_pp.specs.Active.{Branch, State, Step, is_active, is_on, at_start, file_reading, files_reading, reading, step, plain_step, quiet, faulty, line_length, define_as, named_step, define_step, undef_as, open_as, if_step, same, is_undefinable, else_by, endif_by, skipped_step, directive_step, end_reading}
use Rattle.sv_pp.specs.Answer.{so_far, ReadsAs}
use Rattle.sv_pp.specs.Table.{Keeps}
use Rattle.sv_pp.specs.Shown.{read_by, Stops, Remains, Stacked, Shows, Stepped, Ended}
use Rattle.sv_pp.proofs.Laws.{split_first, nothing_left, passed_over, remains_on, remains_wrong}
use Rattle.sv_pp.proofs.Places.{stacked_none, end_open}

-- ---- a step takes no more than there is

named_within : (s : State) (t : Token) (with_name : Token → Step) (rest : List Token) → ((name : Token) → (with_name name).more ≤ 1) → (named_step s t with_name rest).more ≤ length rest
named_within s t with_name [] most = omega arith
named_within s t with_name (name ∷ rest) most = by (is_name name.kind)
  where
    by : (b : Bool) → (if b then with_name name else record { reading = stopped 1 (fault.Directive t.at t.name); more = 0; after = s }).more ≤ length (name ∷ rest)
    by true = omega (arith, most name)
    by false = omega arith

define_within : (names : List Text) (s : State) (t : Token) (rest : List Token) → (define_step names s t rest).more ≤ length rest
define_within names s t [] = omega arith
define_within names s t (name ∷ rest) = by (is_name name.kind && is_on t.at.line name) (is_undefinable names name rest)
  where
    by : (there refused : Bool) → (if there then (if refused then faulty 1 (fault.Directive t.at t.name) s else define_as names s name rest (line_length t.at.line rest)) else faulty 0 (fault.Directive t.at t.name) s).more ≤ length (name ∷ rest)
    by true true = omega arith
    by true false = omega (arith, prefix_len-le-length (is_on t.at.line) rest)
    by false refused = omega arith

else_takes_none : (bs : List Branch) (s : State) (t : Token) → (else_by bs s t).more ≡ 0
else_takes_none [] s t = refl
else_takes_none (b ∷ bs) s t = by b.is_else
  where
    by : (again : Bool) → (if again then faulty 0 (fault.StrayElse t.at) s else quiet 0 (record { macros = s.macros; branches = record { at = b.at; taken = not b.taken; is_else = true } ∷ bs })).more ≡ 0
    by true = refl
    by false = refl

endif_takes_none : (bs : List Branch) (s : State) (t : Token) → (endif_by bs s t).more ≡ 0
endif_takes_none [] s t = refl
endif_takes_none (b ∷ bs) s t = refl

module _ (names : List Text) (s : State) (t : Token) (rest : List Token) where
  if_within : (test : Bool → Bool) → (if_step names test s t rest).more ≤ length rest
  if_within test = named_within s t (open_as names test s t) rest (λ name. omega arith)

  directive_within : (role : Role) → (directive_step names s role t rest).more ≤ length rest
  directive_within Define = define_within names s t rest
  directive_within Undef = named_within s t (undef_as names s) rest (λ name. omega arith)
  directive_within Ifdef = if_within same
  directive_within Ifndef = if_within not
  directive_within Else = omega (arith, else_takes_none s.branches s t)
  directive_within Endif = omega (arith, endif_takes_none s.branches s t)
  directive_within Ignored = prefix_len-le-length (is_on t.at.line) rest
  directive_within Refused = omega arith
  directive_within Use = omega arith

  skipped_within : (role : Role) → (skipped_step names s role t rest).more ≤ length rest
  skipped_within Define = omega arith
  skipped_within Undef = omega arith
  skipped_within Ifdef = if_within same
  skipped_within Ifndef = if_within not
  skipped_within Else = omega (arith, else_takes_none s.branches s t)
  skipped_within Endif = omega (arith, endif_takes_none s.branches s t)
  skipped_within Ignored = omega arith
  skipped_within Refused = omega arith
  skipped_within Use = omega arith

  pub step_within : (step names s t rest).more ≤ length rest
  step_within = by (is_directive t.kind) (is_active s)
    where
      by : (directive on : Bool)
          → (if directive then (if on then directive_step names s (role_of (named_by names t)) t rest else skipped_step names s (role_of (named_by names t)) t rest) else plain_step s t).more ≤ length rest
      by true true = directive_within (role_of (named_by names t))
      by true false = skipped_within (role_of (named_by names t))
      by false on = omega arith

pub named_after : (names : List Text) (n : ℕ) (ts : List Token) → AreNamed names ts → AreNamed names (drop n ts)
named_after names zero ts named = named
named_after names (suc n) [] named = tt
named_after names (suc n) (t ∷ ts) named = named_after names n ts named.1

-- ---- within a file

-- the place shows a state in which the tokens that are left come to what the file comes to, whatever follows it
pub record Left (names : List Text) (before now : Going) (place : Place) (rest : List Token) (macros : Macros) (tokens : List Token) : Type 0 where
  pub state : State
  pub shows : Shows names place state
  pub remains : (next : Macros → Reading) → Remains before now (file_reading names next 0 state rest) (file_reading names next 0 (at_start macros) tokens)

module _ (names : List Text) (before now : Going) (place : Place) (rest : List Token) (macros : Macros) (tokens : List Token) (left : Left names before now place rest macros tokens) where
  abbrev whole : (Macros → Reading) → Reading
  whole next = file_reading names next 0 (at_start macros) tokens

  module _ (d : Token) (some : 1 ≤ length rest) where
    abbrev tail : List Token
    tail = take (length rest - 1) (drop 1 rest)

    abbrev token_step : Step
    token_step = step names left.state (get_or rest 0 d) tail

    parts : (next : Macros → Reading) → Remains before now (joined token_step.reading (file_reading names next token_step.more token_step.after tail)) (whole next)
    parts next = subst (λ ts. Remains before now (file_reading names next 0 left.state ts) (whole next)) (split_first rest d some) (left.remains next)

    -- a step takes no more than there is
    pub within : (after : Going) (place' : Place) (more : ℕ) → Stepped names now after place' more (step names left.state (get_or rest 0 d) (take (length rest - 1) (drop 1 rest))) → more ≤ length (take (length rest - 1) (drop 1 rest))
    within after place' more stepped = omega (arith, stepped.more_is, step_within names left.state (get_or rest 0 d) tail)

    -- a step was taken
    pub left_on : (after : Going) (place' : Place) (more : ℕ) → Stepped names now after place' more (step names left.state (get_or rest 0 d) (take (length rest - 1) (drop 1 rest))) → Left names before after place' (drop more (take (length rest - 1) (drop 1 rest))) macros tokens
    left_on after place' more stepped =
        subst (λ n. Left names before after place' (drop n tail) macros tokens) (sym stepped.more_is) (record {
          state = token_step.after;
          shows = stepped.shows;
          remains = λ next.
              subst (λ r. Remains before after r (whole next)) (passed_over names next token_step.more token_step.after tail)
              (remains_on before now after token_step.reading (file_reading names next token_step.more token_step.after tail) (whole next) (parts next) stepped.went);
        })

    -- a step's fault is the file's
    pub left_wrong : (f : PpFault) → Stops now (step names left.state (get_or rest 0 d) (take (length rest - 1) (drop 1 rest))).reading f → (next : Macros → Reading) → Stops before (file_reading names next 0 (at_start macros) tokens) f
    left_wrong f stops next = remains_wrong before now token_step.reading (file_reading names next token_step.more token_step.after tail) (whole next) f (parts next) stops

  module _ (none : length rest < 1) where
    at_end : (next : Macros → Reading) → Remains before now (end_reading left.state.branches (next left.state.macros)) (whole next)
    at_end next = subst (λ ts. Remains before now (file_reading names next 0 left.state ts) (whole next)) (nothing_left rest none) (left.remains next)

    -- a branch is open at the end
    pub left_open : (opens : List Open) (d : Open) → opens ≡ place.branches.items → 1 ≤ length opens → (next : Macros → Reading) → Stops before (file_reading names next 0 (at_start macros) tokens) (fault.OpenIf (get_or opens 0 d).at)
    left_open opens d is some next =
        let stacked : Stacked opens left.state.branches = subst (λ xs. Stacked xs left.state.branches) (sym is) left.shows.stacked in
        let opened : Remains before now (stopped 0 (fault.OpenIf (get_or opens 0 d).at)) (whole next) =
        subst (λ r. Remains before now r (whole next)) (end_open opens left.state.branches d (next left.state.macros) stacked some) (at_end next) in
        remains_wrong before now (stopped 0 (fault.OpenIf (get_or opens 0 d).at)) (silent 0) (whole next) (fault.OpenIf (get_or opens 0 d).at) opened (refl, omega (arith, opened.few))

    -- each branch is closed
    pub left_end : length place.branches.items < 1 → Ended names before now place macros tokens
    left_end closed =
        let outside = stacked_none place.branches.items left.state.branches left.shows.stacked closed in
        record {
          macros_after = left.state.macros;
          shows = record { kept = left.shows.kept; stacked = subst (Stacked place.branches.items) outside left.shows.stacked };
          remains = λ next. subst (λ bs. Remains before now (end_reading bs (next left.state.macros)) (whole next)) outside (at_end next);
        }

-- ---- from file to file

-- what a list of files shows of the first and of those after it
pub first_file : {A : Type 0} (f : A → List Token) (xs : List A) (x : A) (file : List Token) → 1 ≤ length xs → x ≡ get_or xs 0 x → file ≡ f x → map f xs ≡ file ∷ map f (take (length xs - 1) (drop 1 xs))
first_file f xs x file some is same = ap (map f) (split_first xs x some) ∙ ap (λ y. f y ∷ map f (take (length xs - 1) (drop 1 xs))) (sym is) ∙ ap (λ ts. ts ∷ map f (take (length xs - 1) (drop 1 xs))) (sym same)

joined_first : (r : Reading) → joined (so_far [] 0) r ≡ r
joined_first r = ap (λ n. let whole : Reading = record { tokens = r.tokens; count = n; fault = r.fault } in whole) (omega arith)

-- the table keeps the macros with which the files that are left come to what all come to
pub record FilesLeft (names : List Text) (most : ℕ) (now : Going) (place : Place) (rest files : List (List Token)) : Type 0 where
  pub macros : Macros
  pub shows : Shows names place (at_start macros)
  pub is : joined (read_by now) (files_reading names macros rest) ≡ reading names files
  pub few : now.count ≤ now.most
  pub same_most : now.most ≡ most

pub files_whole : (names : List Text) (most : ℕ) (now : Going) (place : Place) (files : List (List Token)) → Keeps names place.table no_macros → place.branches.items ≡ [] → now.tokens.items ≡ [] → now.count ≡ 0 → now.most ≡ most → FilesLeft names most now place files files
unfolding reading
files_whole names most now place files kept closed empty none same_most = record {
  macros = no_macros;
  shows = record { kept = kept; stacked = closed };
  is = ap (λ ts. joined (so_far ts now.count) (files_reading names no_macros files)) empty ∙ ap (λ n. joined (so_far [] n) (files_reading names no_macros files)) none ∙ joined_first (files_reading names no_macros files);
  few = omega arith;
  same_most = same_most;
}

module _ (names : List Text) (most : ℕ) (now : Going) (place : Place) (file : List Token) (rest files : List (List Token)) (left : FilesLeft names most now place (file ∷ rest) files) where
  abbrev following : Macros → Reading
  following after = files_reading names after rest

  -- a file was read
  pub files_on : (after : Going) (place' : Place) → Ended names now after place' left.macros file → FilesLeft names most after place' rest files
  files_on after place' ended = record {
    macros = ended.macros_after;
    shows = ended.shows;
    is = (ended.remains following).is ∙ left.is;
    few = (ended.remains following).few;
    same_most = (ended.remains following).same_most ∙ left.same_most;
  }

-- each file was read
pub files_end : {A : Type 0} (f : A → List Token) (names : List Text) (most : ℕ) (now : Going) (place : Place) (rest : List A) (files : List (List Token)) → length rest < 1 → FilesLeft names most now place (map f rest) files → ReadsAs most now.tokens.items (reading names files)
files_end f names most now place rest files none some =
    let left = subst (λ xs. FilesLeft names most now place (map f xs) files) (nothing_left rest none) some in
    subst (λ r. ReadsAs most now.tokens.items r) left.is (record { whole = refl; few = omega (arith, left.few, left.same_most); tokens_are = sym (append-nil now.tokens.items) })
