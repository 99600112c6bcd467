-- The table of the inputs' names.
use Rattle.std.proofs.Common.{◌≡◌, ℕ, ◌+◌, ◌-◌, ◌≤◌, List, [], ◌∷◌, ◌++◌, length, map, get_or, take, drop, Bool, true, false, cond, refl, sym, ap, ◌∙◌, subst, arith}
use Rattle.std.specs.Prelude.{◌&&◌, Option, Some, None, is_some, nat_lt}
use Rattle.std.specs.List.{position_from, list_all}
use Rattle.std.specs.Map.{lookup}
use Rattle.std.specs.Str.{bytes_eq}
use Rattle.std.proofs.lemmas.Bool.{and_parts}
use Rattle.std.proofs.lemmas.Slice.Eq.{bytes_eq-Decides}
use Rattle.indexmap.specs.IndexMap.{insert_entry}
use Rattle.rtl_ir.specs.declared.design.Var.{Var}
use Rattle.rtl_ir.specs.declared.design.Port.{Port}
use Rattle.rtl_ir.specs.WithinDesign.{port_fits}
use Rattle.stimulus.specs.StimulusText.{Text}
use Rattle.stimulus.specs.Stimulus.{StimPort, stim_port, stim_ports, is_input, place_of}
use Rattle.stimulus.specs.Inputs.{Entries, place_in, with_name, with_port}
use Rattle.stimulus.proofs.Tails.{tail_is}

-- ---- the keys of the map are seen as texts

abbrev pub seen : {K : Type 0} → (K → Text) → List (K × ℕ) → Entries
seen f es = map (λ e. (f e.0, e.1)) es

-- a look-up by text
pub looked_up : {K : Type 0} (f : K → Text) (q : Text) (es : List (K × ℕ)) → lookup (λ t. bytes_eq q t) (seen f es) ≡ lookup (λ k. bytes_eq q (f k)) es
looked_up f q [] = refl
looked_up f q (e ∷ es) = ap (λ (r : Option ℕ). cond (bytes_eq q (f e.0)) (Some e.1) r) (looked_up f q es)

-- a new name goes last
pub put_last : {K : Type 0} (f : K → Text) (k : K) (place : ℕ) (es : List (K × ℕ)) → is_some (place_in (seen f es) (f k)) ≡ false
    → seen f (insert_entry (λ a b. bytes_eq (f a) (f b)) es k place) ≡ seen f es ++ (f k, place) ∷ []
put_last f k place [] none = refl
put_last {K} f k place (e ∷ es) none = by (bytes_eq (f k) (f e.0)) none (λ h. put_last f k place es h)
  where
    by : (b : Bool) → is_some (cond b (Some e.1) (place_in (seen f es) (f k))) ≡ false
        → (is_some (place_in (seen f es) (f k)) ≡ false
        → seen f (insert_entry (λ a b. bytes_eq (f a) (f b)) es k place) ≡ seen f es ++ (f k, place) ∷ [])
        → seen f (cond b ((e.0, place) ∷ es) (e ∷ insert_entry (λ a b. bytes_eq (f a) (f b)) es k place)) ≡ (f e.0, e.1) ∷ (seen f es ++ (f k, place) ∷ [])
    by true h later = cc
    by false h later = ap (λ (l : Entries). (f e.0, e.1) ∷ l) (later h)

module _ (table : Entries) (name : Text) (place : ℕ) where
  name_new : is_some (place_in table name) ≡ false → table ++ (name, place) ∷ [] ≡ with_name table name place
  name_new none = sym (ap (λ (b : Bool). cond b table (table ++ (name, place) ∷ [])) none)

-- a new name goes into the map's entries
pub put_in : {K : Type 0} (f : K → Text) (k : K) (name : Text) (place : ℕ) (es new : List (K × ℕ)) (table : Entries) → seen f es ≡ table → f k ≡ name → is_some (place_in table name) ≡ false
    → new ≡ insert_entry (λ a b. bytes_eq (f a) (f b)) es k place → seen f new ≡ with_name table name place
put_in f k name place es new table is_table is_name none is_new =
    let absent : is_some (place_in (seen f es) (f k)) ≡ false = (λ i. is_some (place_in (is_table i) (is_name i))) ∙ none in
    ap (seen f) is_new ∙ put_last f k place es absent ∙ (λ i. is_table i ++ (is_name i, place) ∷ []) ∙ name_new table name place none

-- ---- look-ups in a table that grows

abbrev pub first_some : Option ℕ → Option ℕ → Option ℕ
first_some None later = later
first_some (Some place) later = Some place

some_none : (r : Option ℕ) → r ≡ first_some r None
some_none None = refl
some_none (Some place) = refl

pushed : (table : Entries) (name q : Text) (place : ℕ) → place_in (table ++ (name, place) ∷ []) q ≡ first_some (place_in table q) (cond (bytes_eq q name) (Some place) None)
pushed [] name q place = refl
pushed (e ∷ es) name q place = by (bytes_eq q e.0) (pushed es name q place)
  where
    by : (b : Bool) → place_in (es ++ (name, place) ∷ []) q ≡ first_some (place_in es q) (cond (bytes_eq q name) (Some place) None)
        → cond b (Some e.1) (place_in (es ++ (name, place) ∷ []) q) ≡ first_some (cond b (Some e.1) (place_in es q)) (cond (bytes_eq q name) (Some place) None)
    by true later = refl
    by false later = later

named : (table : Entries) (name q : Text) (place : ℕ) → place_in (with_name table name place) q ≡ first_some (place_in table q) (cond (bytes_eq q name) (Some place) None)
named table name q place = by (place_in table name) refl
  where
    there : (i : ℕ) → place_in table name ≡ Some i → (b : Bool) → bytes_eq q name ≡ b → place_in table q ≡ first_some (place_in table q) (cond b (Some place) None)
    there i at false e = some_none (place_in table q)
    there i at true e =
        let same : q ≡ name = (bytes_eq-Decides q name).0 e in
        let found : place_in table q ≡ Some i = ap (place_in table) same ∙ at in
        subst (λ (r : Option ℕ). r ≡ first_some r (Some place)) (sym found) refl

    by : (r : Option ℕ) → place_in table name ≡ r → place_in (cond (is_some r) table (table ++ (name, place) ∷ [])) q ≡ first_some (place_in table q) (cond (bytes_eq q name) (Some place) None)
    by None at = pushed table name q place
    by (Some i) at = there i at (bytes_eq q name) refl

ported : (table : Entries) (p : StimPort) (q : Text) (place : ℕ) → place_in (with_port table p place) q ≡ first_some (place_in table q) (cond (is_input q p) (Some place) None)
ported table p q place = by p.input
  where
    by : (b : Bool) → place_in (cond b (with_name table p.name place) table) q ≡ first_some (place_in table q) (cond (b && bytes_eq q p.name) (Some place) None)
    by true = named table p.name q place
    by false = some_none (place_in table q)

-- one port more
grown : (table : Entries) (p : StimPort) (ps : List StimPort) (q : Text) (place : ℕ)
    → first_some (place_in (with_port table p place) q) (position_from (is_input q) (place + 1) ps) ≡ first_some (place_in table q) (position_from (is_input q) place (p ∷ ps))
grown table p ps q place = ap (λ (r : Option ℕ). first_some r (position_from (is_input q) (place + 1) ps)) (ported table p q place) ∙ by (place_in table q) (is_input q p)
  where
    by : (r : Option ℕ) (b : Bool) → first_some (first_some r (cond b (Some place) None)) (position_from (is_input q) (place + 1) ps) ≡ first_some r (cond b (Some place) (position_from (is_input q) (place + 1) ps))
    by None true = refl
    by None false = refl
    by (Some i) b = refl

-- ---- the loop over the ports

-- the places so far, and those of the ports to come
abbrev pub Grows : List Var → List Port → Entries → ℕ → List Port → Type 0
Grows vars ports table place rest = (name : Text) → first_some (place_in table name) (position_from (is_input name) place (stim_ports vars rest)) ≡ place_of (stim_ports vars ports) name

pub port_grown : (vars : List Var) (ports : List Port) (table new : Entries) (place next : ℕ) (rest : List Port) (d : Port) → 1 ≤ length rest
    → new ≡ with_port table (stim_port vars (get_or rest 0 d)) place → next ≡ place + 1 → Grows vars ports table place rest
    → Grows vars ports new next (take (length rest - 1) (drop 1 rest))
port_grown vars ports table new place next [] d one is_new is_next h = absurd (omega arith)
port_grown vars ports table new place next (p ∷ rest) d one is_new is_next h = λ name.
    (λ i. first_some (place_in (is_new i) name) (position_from (is_input name) (is_next i) (stim_ports vars (tail_is p rest i))))
    ∙ grown table (stim_port vars p) (stim_ports vars rest) name place ∙ h name

pub rest_fit : (n : ℕ) (rest : List Port) → 1 ≤ length rest → list_all (port_fits n) rest ≡ true → list_all (port_fits n) (take (length rest - 1) (drop 1 rest)) ≡ true
rest_fit n [] one h = absurd (omega arith)
rest_fit n (p ∷ rest) one h = subst (λ (l : List Port). list_all (port_fits n) l ≡ true) (sym (tail_is p rest)) (and_parts (nat_lt p.var n) (list_all (port_fits n) rest) h).1
