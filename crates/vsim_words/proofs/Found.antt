-- From what `clap` says of the parse to what is found.
use Rattle.std.proofs.Common.{◌≡◌, ◌∙◌, List, [], ◌∷◌, true, refl, sym, ap, subst}
use Rattle.std.specs.Prelude.{Some, None}
use Rattle.clap.specs.Words.{App, IsAmong, Kinds, Row, Text, fault_of, is_simple, is_simple_and_free, matches_of}
use Rattle.clap.specs.declared.error.kind.ErrorKind.{ErrorKind}
use Rattle.vsim_words.specs.Command.{command, found, where_faultless}

command_is_simple : is_simple command ≡ true
command_is_simple = refl

command_is_free : is_simple_and_free command ≡ true
command_is_free = refl

pub simple_at : (app : App) → app ≡ command → is_simple app ≡ true
simple_at app is = ap is_simple is ∙ command_is_simple

pub free_at : (app : App) → app ≡ command → is_simple_and_free app ≡ true
free_at app is = ap is_simple_and_free is ∙ command_is_free

some_chosen : (faults : Kinds) (rows here : List Row) → faults ≡ [] → here ≡ rows → where_faultless faults rows ≡ Some here
some_chosen faults rows here none same = ap (λ (k : Kinds). where_faultless k rows) none ∙ ap Some (sym same)

none_chosen : (faults : Kinds) (rows : List Row) (k : ErrorKind) → IsAmong k faults → where_faultless faults rows ≡ None
none_chosen [] rows k among = absurd among
none_chosen (x ∷ xs) rows k among = refl

pub found_some : (app : App) (words : List Text) (rows : List Row) → app ≡ command → fault_of app words ≡ [] → rows ≡ matches_of app words → found words ≡ Some rows
unfolding found
found_some app words rows is none same =
    some_chosen (fault_of command words) (matches_of command words) rows (ap (λ (a : App). fault_of a words) (sym is) ∙ none)
    (same ∙ ap (λ (a : App). matches_of a words) is)

pub found_none : (app : App) (words : List Text) (k : ErrorKind) → app ≡ command → IsAmong k (fault_of app words) → found words ≡ None
unfolding found
found_none app words k is among =
    none_chosen (fault_of command words) (matches_of command words) k (subst (λ (a : App). IsAmong k (fault_of a words)) is among)
