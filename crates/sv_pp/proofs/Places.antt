-- Steps of the code in a file: what the place shows after each.
use Rattle.std.specs.Prelude.{◌≡◌, ◌≤◌, ◌<◌, ℕ, zero, suc, ◌+◌, ◌-◌, Bool, true, false, not, ◌&&◌, if◌then◌else◌, List, [], ◌∷◌, ◌++◌, length, get_or, slice_index_or, slice_get, take, set, Option, Some, None}
use Rattle.std.specs.List.{list_all}
use Rattle.std.specs.Option.{option_map, is_some}
use Rattle.std.proofs.Common.{refl, sym, ap, ◌∙◌, subst, arith, length-append}
use Rattle.std.proofs.lemmas.List.{get_or_push}
use Rattle.sv_tree.specs.declared.token.TokenKind.{TokenKind}
use Rattle.sv_tree.specs.declared.token.TokenKind.TheVariants as kind
use Rattle.sv_tree.specs.contracts.token.TokenKind.{the_type}
use denote.Enum.Bare.{sameb}
use mathlib.Core.Bool.{beq}
use Rattle.sv_tree.specs.declared.token.Token.{Token}
use Rattle.sv_tree.specs.NameLaws.{get_or-slice_get}
use Rattle.sv_tree.specs.Tokens.{AreNamed}
use Rattle.sv_pp.specs.declared.fault.PpFault.TheVariants as fault
use Rattle.sv_pp.specs.declared.file.Open.{Open}
use Rattle.sv_pp.specs.declared.file.Place.{Place}
use Rattle.sv_pp.specs.declared.reading.Going.{Going}
use Rattle.sv_pp.specs.Directive.{Text}
use Rattle.sv_pp.specs.Reading.{Reading, silent, stopped, text_of, with_macro, is_name}
use Rattle.sv_pp.specs.Active.{Branch, State, Step, is_taken, quiet, faulty, line_length, define_as, named_step, undef_as, open_as, is_defined, outermost, end_reading}
use Rattle.sv_pp.specs.Table.{Keeps}
use Rattle.sv_pp.specs.Shown.{Went, Stacked, Shows, Stepped, branch_of, test_of}
use Rattle.sv_pp.proofs.Laws.{split_first, first_named}
use Rattle.sv_pp.proofs.Tables.{keeps_set}

-- ---- the open branches

pub stacked_none : (opens : List Open) (bs : List Branch) → Stacked opens bs → length opens < 1 → bs ≡ []
stacked_none opens [] stacked none = refl
stacked_none opens (b ∷ bs) stacked none = absurd (omega (arith, ap length stacked.2, length-append stacked.1 (stacked.0 ∷ [])))

pub active_outside : (opens : List Open) (bs : List Branch) → Stacked opens bs → length opens < 1 → true ≡ list_all is_taken bs
active_outside opens bs stacked none = ap (list_all is_taken) (sym (stacked_none opens bs stacked none))

module _ (opens : List Open) (bs : List Branch) (d : Open) (stacked : Stacked opens bs) (some : 1 ≤ length opens) where
  active_inside : (bs : List Branch) → Stacked opens bs → ((slice_index_or opens (length opens - 1) d).taken && (slice_index_or opens (length opens - 1) d).outer) ≡ list_all is_taken bs
  active_inside [] stacked = absurd (omega (arith, some, ap length stacked))
  active_inside (b ∷ bs) stacked =
      let last : slice_index_or opens (length opens - 1) d ≡ stacked.0 =
      ap (λ xs. slice_index_or xs (length opens - 1) d) stacked.2 ∙ get_or_push stacked.1 stacked.0 d (length opens - 1) (omega (arith, ap length stacked.2, length-append stacked.1 (stacked.0 ∷ []))) in
      ap (λ (o : Open). o.taken && o.outer) last ∙ ap (λ outer. stacked.0.taken && outer) stacked.4 ∙ ap (λ (c : Branch). c.taken && list_all is_taken bs) (sym stacked.3)

  pub active_taken : (slice_index_or opens (length opens - 1) d).taken ≡ true → (slice_index_or opens (length opens - 1) d).outer ≡ list_all is_taken bs
  active_taken is = ap (λ taken. taken && (slice_index_or opens (length opens - 1) d).outer) (sym is) ∙ active_inside bs stacked

  pub active_not_taken : (slice_index_or opens (length opens - 1) d).taken ≡ false → (slice_index_or opens (length opens - 1) d).taken ≡ list_all is_taken bs
  active_not_taken is = is ∙ ap (λ taken. taken && (slice_index_or opens (length opens - 1) d).outer) (sym is) ∙ active_inside bs stacked

first_of_more : (xs : List Open) (o d : Open) → 1 ≤ length xs → get_or (xs ++ o ∷ []) 0 d ≡ get_or xs 0 d
first_of_more [] o d some = absurd (omega arith)
first_of_more (x ∷ xs) o d some = refl

first_is_outermost : (bs : List Branch) (b : Branch) (opens : List Open) (d : Open) → Stacked opens (b ∷ bs) → (get_or opens 0 d).at ≡ outermost b bs
first_is_outermost [] b opens d stacked =
    ap (λ xs. (get_or xs 0 d).at) (stacked.2 ∙ ap (λ xs. xs ++ stacked.0 ∷ []) stacked.5) ∙ ap (λ (c : Branch). c.at) (sym stacked.3)
first_is_outermost (c ∷ cs) b opens d stacked =
    let round : Stacked stacked.1 (c ∷ cs) = stacked.5 in
    ap (λ xs. (get_or xs 0 d).at) stacked.2
    ∙ ap (λ (o : Open). o.at) (first_of_more stacked.1 stacked.0 d (omega (arith, ap length round.2, length-append round.1 (round.0 ∷ []))))
    ∙ first_is_outermost cs c stacked.1 d round

-- a branch that is open at a file's end
pub end_open : (opens : List Open) (bs : List Branch) (d : Open) (next : Reading) → Stacked opens bs → 1 ≤ length opens → end_reading bs next ≡ stopped 0 (fault.OpenIf (get_or opens 0 d).at)
end_open opens [] d next stacked some = absurd (omega (arith, ap length stacked))
end_open opens (b ∷ bs) d next stacked some = ap (λ at. stopped 0 (fault.OpenIf at)) (sym (first_is_outermost bs b opens d stacked))

-- ---- steps

-- so many tokens were read, and the place shows the state after them
pub stepped_quietly : (names : List Text) (going going' : Going) (place' : Place) (n m more : ℕ) (after : State) → n ≡ suc m → more ≡ m → Went going going' (silent n) → Shows names place' after → Stepped names going going' place' more (quiet m after)
stepped_quietly names going going' place' n m more after count same went shows = record { went = subst (λ k. Went going going' (silent k)) count went; more_is = same; shows = shows }

-- ---- definitions

pub some_same : {xs ys : List Token} → Some xs ≡ Some ys → xs ≡ ys
some_same is = cc

pub named_front : (names : List Text) (n : ℕ) (ts : List Token) → AreNamed names ts → AreNamed names (take n ts)
named_front names zero ts named = tt
named_front names (suc n) [] named = tt
named_front names (suc n) (t ∷ ts) named = (named.0, named_front names n ts named.1)

module _ (names : List Text) (place place' : Place) (s : State) (name : Token) (inside : name.name.0 < length names) (shows : Shows names place s) (same_branches : place'.branches.items ≡ place.branches.items) where
  pub shows_body : (body : Option (List Token)) → ((new : List Token) → body ≡ Some new → AreNamed names new) → place'.table ≡ set place.table name.name.0 body → Shows names place' (record { macros = with_macro s.macros (text_of names name) body; branches = s.branches })
  shows_body body named is = record {
    kept = subst (λ table. Keeps names table (with_macro s.macros (text_of names name) body)) (sym is) (keeps_set names place.table s.macros name.name.0 body shows.kept inside named);
    stacked = subst (λ opens. Stacked opens s.branches) (sym same_branches) shows.stacked;
  }

-- a name gets its text
pub defined : (names : List Text) (place place' : Place) (going going' : Going) (s : State) (name : Token) (line : ℕ) (rest : List Token) (more : ℕ) → Shows names place s → name.name.0 < length names → AreNamed names rest → more ≡ line_length line rest
    → place'.table ≡ set place.table name.name.0 (Some (take more rest)) → place'.branches.items ≡ place.branches.items → Went going going' (silent (more + 2)) → Stepped names going going' place' (more + 1) (define_as names s name rest (line_length line rest))
defined names place place' going going' s name line rest more shows inside named is table branches went =
    subst (λ n. Stepped names going going' place' (more + 1) (define_as names s name rest n)) is
    (stepped_quietly names going going' place' (more + 2) (suc more) (more + 1) _ (omega arith) (omega arith) went
    (shows_body names place place' s name inside shows branches (Some (take more rest)) (λ new same. subst (AreNamed names) (some_same same) (named_front names more rest named)) table))

-- ---- a directive that wants a name

-- the code's test of a kind is that of the definition
is_name-sameb : (k : TokenKind) → sameb the_type k kind.Name ≡ is_name k
is_name-sameb kind.Name = refl
is_name-sameb kind.Word = refl
is_name-sameb kind.Decimal = refl
is_name-sameb kind.Based = refl
is_name-sameb kind.Fill = refl
is_name-sameb kind.Text = refl
is_name-sameb kind.System = refl
is_name-sameb kind.Directive = refl
is_name-sameb kind.Mark = refl

pub is_a_name : (k : TokenKind) (differs : Bool) → differs ≡ not (sameb the_type k kind.Name) → differs ≡ false → is_name k ≡ true
is_a_name k differs is same = sym (is_name-sameb k) ∙ sym (not_not (sameb the_type k kind.Name)) ∙ ap not (sym is ∙ same)
  where
    not_not : (b : Bool) → not (not b) ≡ b
    not_not true = refl
    not_not false = refl

name_there : (s : State) (t d : Token) (with_name : Token → Step) (rest : List Token) → 1 ≤ length rest → is_name (get_or rest 0 d).kind ≡ true → with_name (get_or rest 0 d) ≡ named_step s t with_name rest
name_there s t d with_name rest some is_there =
    sym (ap (named_step s t with_name) (split_first rest d some) ∙ ap (λ b. if b then with_name (get_or rest 0 d) else faulty 0 (fault.Directive t.at t.name) s) is_there)

-- a name's text is forgotten
pub undefined : (names : List Text) (place place' : Place) (going going' : Going) (s : State) (t : Token) (rest : List Token) (d : Token) → 1 ≤ length rest → is_name (get_or rest 0 d).kind ≡ true → Shows names place s → AreNamed names rest
    → place'.table ≡ set place.table (get_or rest 0 d).name.0 None → place'.branches.items ≡ place.branches.items → Went going going' (silent 2) → Stepped names going going' place' 1 (named_step s t (undef_as names s) rest)
undefined names place place' going going' s t rest d some is_there shows named table branches went =
    subst (Stepped names going going' place' 1) (name_there s t d (undef_as names s) rest some is_there)
    (stepped_quietly names going going' place' 2 1 1 _ refl refl went (shows_body names place place' s (get_or rest 0 d) (first_named rest d some names named) shows branches None (λ new same. cc) table))

-- ---- `ifdef` and `ifndef`

-- a name is defined where the table has its text
pub defined_as_found : {A : Type 0} (f : A → List Token) (names : List Text) (s : State) (name : Token) (text : Text) (found : Option A) → option_map f found ≡ s.macros text → slice_get names name.name.0 ≡ Some text → is_some found ≡ is_defined names s name
defined_as_found {A = A} f names s name text found is at = kept found ∙ ap is_some is ∙ ap (λ name. is_some (s.macros name)) (sym (get_or-slice_get names name.name.0 text at))
  where
    kept : (o : Option A) → is_some o ≡ is_some (option_map f o)
    kept None = refl
    kept (Some x) = refl

-- the test of `ifdef` and `ifndef`
pub tested : (defined wanted : Bool) → beq defined wanted ≡ test_of wanted defined
tested true true = refl
tested true false = refl
tested false true = refl
tested false false = refl

pub if_opened : (names : List Text) (place place' : Place) (going going' : Going) (test : Bool → Bool) (s : State) (t name : Token) (o : Open) → Shows names place s → place'.table ≡ place.table → place'.branches.items ≡ place.branches.items ++ o ∷ [] → Went going going' (silent 2)
    → o.outer ≡ list_all is_taken s.branches → branch_of o ≡ record { at = t.at; taken = test (is_defined names s name); is_else = false } → Stepped names going going' place' 1 (open_as names test s t name)
if_opened names place place' going going' test s t name o shows same_table pushed went outer same = record {
  went = went;
  more_is = refl;
  shows = record {
    kept = subst (λ table. Keeps names table s.macros) (sym same_table) shows.kept;
    stacked = (o, place.branches.items, pushed, sym same, outer, shows.stacked);
  };
}
