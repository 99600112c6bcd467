-- Laws of what a stimulus says, for the crates above.
use Rattle.std.specs.Prelude.{◌≡◌, ℕ, ◌+◌, ◌^◌, ◌≤◌, List, [], ◌∷◌, Option, Some, None, Result, Ok, Err, Bool, true, false, ◌&&◌, cond, nat_le, nat_lt, codes}
use Rattle.std.specs.List.{position_from, list_all}
use Rattle.std.specs.Str.{bytes_eq}
use Rattle.std.proofs.Common.{refl, ap, ◌∙◌, subst, arith, zero, suc}
use Rattle.std.proofs.lemmas.Bool.{and_parts, leb-true, ltb-true, eq-eqb}
use Rattle.std.proofs.Math.Nat.{mod-eq_of_lt}
use Rattle.vs_base.specs.Number.{kept}
use Rattle.vs_base.specs.declared.act.Act.{Act}
use Rattle.vs_base.specs.declared.act.Act.TheVariants.{Set, Eval, Clock}
use Rattle.vs_base.specs.declared.limits.TheConstants.{EVALS}
use Rattle.stimulus.specs.declared.fault.StimFault.{StimFault}
use Rattle.stimulus.specs.declared.fault.StimFault.TheVariants.{BadLine, ValueTooWide, TooManyEvals}
use Rattle.stimulus.specs.StimulusText.{Text, without_returns, lines_of, words_of, begins_comment, is_hex, hex_value, is_count, count_value}
use Rattle.stimulus.specs.Stimulus.{StimPort, is_input, place_of, width_at, set_input, set_act, clock_input, clock_act, act_of, line_act, evals_of, followed_by, after_line, lines_acts, evals_in, stim_acts, is_input_at, act_fits}

-- ---- the place of a name is that of an input

input_from : (name : Text) (k : ℕ) (ports : List StimPort) (place : ℕ) → position_from (is_input name) k ports ≡ Some place → (j : ℕ) × (place ≡ k + j) × (is_input_at ports j ≡ true)
input_from name k [] place h = cc
input_from name k (p ∷ ports) place h = by (is_input name p) refl h (λ later. input_from name (k + 1) ports place later)
  where
    by : (b : Bool) → is_input name p ≡ b → cond b (Some k) (position_from (is_input name) (k + 1) ports) ≡ Some place
        → (position_from (is_input name) (k + 1) ports ≡ Some place → (j : ℕ) × (place ≡ k + 1 + j) × (is_input_at ports j ≡ true)) → (j : ℕ) × (place ≡ k + j) × (is_input_at (p ∷ ports) j ≡ true)
    by true e h later = let same : k ≡ place = cc in (zero, omega (arith, same), (and_parts p.input (bytes_eq name p.name) e).0)
    by false e h later = let r = later h in (suc r.0, omega (arith, r.1), r.2)

pub place_is_input : (ports : List StimPort) (name : Text) (place : ℕ) → place_of ports name ≡ Some place → is_input_at ports place ≡ true
place_is_input ports name place h =
    let r = input_from name 0 ports place h in
    let same : r.0 ≡ place = omega (arith, r.1) in
    subst (λ (n : ℕ). is_input_at ports n ≡ true) same r.2

-- ---- each act fits

carried : (ports : List StimPort) (act found : Act) → act ≡ found → act_fits ports act ≡ true → act_fits ports found ≡ true
carried ports act found same h = subst (λ (a : Act). act_fits ports a ≡ true) same h

set_fits : (ports : List StimPort) (n : ℕ) (name hex : Text) (found : Act) → set_act ports n name hex ≡ Ok (Some found) → act_fits ports found ≡ true
set_fits ports n name hex found h = by_hex (is_hex hex) h
  where
    by_value : (place : ℕ) → place_of ports name ≡ Some place → (b : Bool) → nat_lt (hex_value hex) (2 ^ width_at ports place) ≡ b
        → cond b (Ok (Some (Set place (kept (width_at ports place) (hex_value hex))))) (Err (ValueTooWide n)) ≡ Ok (Some found) → act_fits ports found ≡ true
    by_value place at false wide h = cc
    by_value place at true below h =
        let whole : (kept (width_at ports place) (hex_value hex)).value ≡ hex_value hex = mod-eq_of_lt (ltb-true (hex_value hex) (2 ^ width_at ports place) below) in
        let same : Set place (kept (width_at ports place) (hex_value hex)) ≡ found = cc in
        carried ports (Set place (kept (width_at ports place) (hex_value hex))) found same
        (λ i. place_is_input ports name place at i && eq-eqb (width_at ports place) (width_at ports place) refl i && (ap (λ (v : ℕ). nat_lt v (2 ^ width_at ports place)) whole ∙ below) i)

    by_place : (r : Option ℕ) → place_of ports name ≡ r → set_input ports n (hex_value hex) r ≡ Ok (Some found) → act_fits ports found ≡ true
    by_place None at h = cc
    by_place (Some place) at h = by_value place at (nat_lt (hex_value hex) (2 ^ width_at ports place)) refl h

    by_hex : (b : Bool) → cond b (set_input ports n (hex_value hex) (place_of ports name)) (Err (BadLine n)) ≡ Ok (Some found) → act_fits ports found ≡ true
    by_hex true h = by_place (place_of ports name) refl h
    by_hex false h = cc

clock_fits : (ports : List StimPort) (n : ℕ) (name count : Text) (found : Act) → clock_act ports n name count ≡ Ok (Some found) → act_fits ports found ≡ true
clock_fits ports n name count found h = by_count (is_count count) h
  where
    by_place : (r : Option ℕ) → place_of ports name ≡ r → clock_input n (count_value count) r ≡ Ok (Some found) → act_fits ports found ≡ true
    by_place None at h = cc
    by_place (Some place) at h = let same : Clock place (count_value count) ≡ found = cc in carried ports (Clock place (count_value count)) found same (place_is_input ports name place at)

    by_count : (b : Bool) → cond b (clock_input n (count_value count) (place_of ports name)) (Err (BadLine n)) ≡ Ok (Some found) → act_fits ports found ≡ true
    by_count true h = by_place (place_of ports name) refl h
    by_count false h = cc

act_of_fits : (ports : List StimPort) (n : ℕ) (verb : Text) (words : List Text) (found : Act) → act_of ports n verb words ≡ Ok (Some found) → act_fits ports found ≡ true
act_of_fits ports n verb [] found h = by (bytes_eq verb (codes "eval")) h
  where
    by : (b : Bool) → cond b (Ok (Some Eval)) (Err (BadLine n)) ≡ Ok (Some found) → act_fits ports found ≡ true
    by true h = let same : Eval ≡ found = cc in carried ports Eval found same refl
    by false h = cc
act_of_fits ports n verb (name ∷ []) found h = cc
act_of_fits ports n verb (name ∷ digits ∷ []) found h = by (bytes_eq verb (codes "set")) (bytes_eq verb (codes "clock")) h
  where
    by : (a b : Bool) → cond a (set_act ports n name digits) (cond b (clock_act ports n name digits) (Err (BadLine n))) ≡ Ok (Some found) → act_fits ports found ≡ true
    by true b h = set_fits ports n name digits found h
    by false true h = clock_fits ports n name digits found h
    by false false h = cc
act_of_fits ports n verb (name ∷ digits ∷ more ∷ rest) found h = cc

line_fits : (ports : List StimPort) (n : ℕ) (words : List Text) (found : Act) → line_act ports n words ≡ Ok (Some found) → act_fits ports found ≡ true
line_fits ports n [] found h = cc
line_fits ports n (verb ∷ words) found h = by (begins_comment verb) h
  where
    by : (b : Bool) → cond b (Ok None) (act_of ports n verb words) ≡ Ok (Some found) → act_fits ports found ≡ true
    by true h = cc
    by false h = act_of_fits ports n verb words found h

-- ---- the acts of all lines

-- what holds of the acts of some lines, before which there were so many evals
record Fits (ports : List StimPort) (evals : ℕ) (acts : List Act) : Type 0 where
  fit : list_all (act_fits ports) acts ≡ true
  few : evals + evals_in acts ≤ EVALS

one_more : (ports : List StimPort) (evals : ℕ) (act : Act) (said : Result (List Act) StimFault) (found : List Act) → act_fits ports act ≡ true
    → ((acts : List Act) → said ≡ Ok acts → Fits ports (evals + evals_of act) acts) → followed_by (act ∷ []) said ≡ Ok found → Fits ports evals found
one_more ports evals act (Err fault) found fits rest h = cc
one_more ports evals act (Ok acts) found fits rest h =
    let same : act ∷ acts ≡ found = cc in
    let r = rest acts refl in
    let sum : evals + (evals_of act + evals_in acts) ≤ EVALS = omega (arith, r.few) in
    subst (Fits ports evals) same (record { fit = λ i. fits i && r.fit i; few = sum })

within_fits : (ports : List StimPort) (n evals : ℕ) (act : Act) (said : Result (List Act) StimFault) (found : List Act) (b : Bool) → nat_le (evals + evals_of act) EVALS ≡ b → act_fits ports act ≡ true
    → ((acts : List Act) → evals + evals_of act ≤ EVALS → said ≡ Ok acts → Fits ports (evals + evals_of act) acts)
    → cond b (followed_by (act ∷ []) said) (Err (TooManyEvals n)) ≡ Ok found → Fits ports evals found
within_fits ports n evals act said found false is fits rest h = cc
within_fits ports n evals act said found true is fits rest h =
    one_more ports evals act said found fits (λ acts e. rest acts (leb-true (evals + evals_of act) EVALS is) e) h

after_fits : (ports : List StimPort) (n evals : ℕ) (ls : List Text) (said : Result (Option Act) StimFault) (found : List Act) → evals ≤ EVALS
    → ((act : Act) → said ≡ Ok (Some act) → act_fits ports act ≡ true)
    → ((sum : ℕ) (acts : List Act) → sum ≤ EVALS → lines_acts ports (n + 1) sum ls ≡ Ok acts → Fits ports sum acts)
    → after_line n evals said (λ sum. lines_acts ports (n + 1) sum ls) ≡ Ok found → Fits ports evals found
after_fits ports n evals ls (Err fault) found few fits rest h = cc
after_fits ports n evals ls (Ok None) found few fits rest h = rest evals found few h
after_fits ports n evals ls (Ok (Some act)) found few fits rest h =
    within_fits ports n evals act (lines_acts ports (n + 1) (evals + evals_of act) ls) found (nat_le (evals + evals_of act) EVALS) refl (fits act refl)
    (λ acts within e. rest (evals + evals_of act) acts within e) h

lines_fit : (ports : List StimPort) (n evals : ℕ) (lines : List Text) (found : List Act) → evals ≤ EVALS → lines_acts ports n evals lines ≡ Ok found → Fits ports evals found
lines_fit ports n evals [] found few h =
    let same : [] ≡ found = cc in
    let none : evals + 0 ≤ EVALS = omega (arith, few) in
    subst (Fits ports evals) same (record { fit = refl; few = none })
lines_fit ports n evals (l ∷ ls) found few h =
    after_fits ports n evals ls (line_act ports n (words_of l)) found few (line_fits ports n (words_of l)) (λ sum. lines_fit ports (n + 1) sum ls) h

-- each act of a stimulus fits the ports
pub acts_fit : (ports : List StimPort) (bytes : Text) (acts : List Act) → stim_acts ports bytes ≡ Ok acts → list_all (act_fits ports) acts ≡ true
unfolding stim_acts
acts_fit ports bytes acts h = (lines_fit ports 1 0 (lines_of (without_returns bytes)) acts (omega arith) h).fit

-- and a stimulus has at most so many evals
pub evals_few : (ports : List StimPort) (bytes : Text) (acts : List Act) → stim_acts ports bytes ≡ Ok acts → evals_in acts ≤ EVALS
unfolding stim_acts
evals_few ports bytes acts h = let few = (lines_fit ports 1 0 (lines_of (without_returns bytes)) acts (omega arith) h).few in omega arith
