-- What is set keeps its widths.
use Rattle.std.proofs.Common.{◌≡◌, ℕ, zero, suc, true, List, [], ◌∷◌, map, refl, sym, ap, ◌∙◌, length, ◌+◌, ◌*◌, arith, subst, ◌<◌, ◌≤◌, ◌-◌, ◌++◌, take, drop}
use Rattle.std.specs.List.{list_all}
use Rattle.std.proofs.Math.Seq.{take-length}
use Rattle.std.specs.Prelude.{slice_set, slice_get, slice_index_or, Option, Some, None, vec_capacity}
use Rattle.std.specs.Option.{option_map_or}
use Rattle.std.proofs.lemmas.Bool.{and_parts, eqb-true}
use Rattle.vs_base.specs.Number.{Number}
use Rattle.vs_base.specs.declared.act.Act.{Act}
use Rattle.vs_base.specs.declared.act.Act.TheVariants.{Set, Eval, Clock}
use Rattle.rtl_ir.specs.declared.design.Var.{Var}
use Rattle.rtl_ir.specs.declared.design.Port.{Port}
use Rattle.rtl_ir.specs.declared.whole.Design.{Design}
use Rattle.plan_types.specs.declared.built.Built.{Built}
use Rattle.plan_types.specs.Machine as machine
use Rattle.plan_types.specs.Machine.{Machine}
use Rattle.vs_world.specs.Outside.{Told}
use Rattle.stimulus.specs.Stimulus as stim
use Rattle.sim_session.specs.Inputs.{port_width, width_at, lowered, turn_inputs, turns_inputs, after_turns, act_inputs, after_act, inputs_from, opening_ports}
use Rattle.sim_session.specs.Ends.{stand}
use Rattle.sim_session.specs.Ready.{HasRoom, IsReady, Keeps}
use Rattle.sim_session.specs.declared.session.Output.{Output}
use Rattle.sim_session.specs.declared.session.Session.{Session}
use Rattle.sim_session.specs.declared.texts.Texts.{Texts}

abbrev head_of : ℕ → List ℕ → ℕ
head_of d [] = d
head_of d (n ∷ ns) = n

abbrev tail_of : List ℕ → List ℕ
tail_of [] = []
tail_of (n ∷ ns) = ns

abbrev widths : List Number → List ℕ
widths values = map (λ (n : Number). n.width) values

-- a value of the width of its port
pub set_width : (vars : List Var) (ports : List Port) (values : List Number) (place : ℕ) (v : Number) → widths values ≡ map (port_width vars) ports
    → v.width ≡ width_at vars ports place → widths (slice_set values place v) ≡ map (port_width vars) ports
set_width vars ports [] place v h w = h
set_width vars [] (x ∷ values) place v h w = cc
set_width vars (port ∷ ports) (x ∷ values) zero v h w = (λ i. w i ∷ ap tail_of h i)
set_width vars (port ∷ ports) (x ∷ values) (suc place) v h w = (λ i. ap (head_of 0) h i ∷ set_width vars ports values place v (ap tail_of h) w i)

-- so a session stays ready
module _ (s s' : Session) (k : Keeps s s') where
  pub ready_set : (texts : Texts) (b : Built) (m : Machine) (place : ℕ) (v : Number) → IsReady texts b s m → s'.set.items ≡ slice_set s.set.items place v
      → v.width ≡ width_at b.design.vars b.design.ports place → IsReady texts b s' m
  ready_set texts b m place v r e w = record {
    set = ap widths e ∙ set_width b.design.vars b.design.ports s.set.items place v r.set w;
    before = (λ i. (k.before i).items) ∙ r.before;
    inputs_room = let same = ap vec_capacity k.inputs in let room = r.inputs_room in omega (arith, same, room);
    before_room = let same = ap vec_capacity k.before in let room = r.before_room in omega (arith, same, room);
    after_room = let same = ap vec_capacity k.after in let room = r.after_room in omega (arith, same, room);
    out = subst (λ (o : Output). HasRoom texts b o) (sym k.out) r.out;
    count = let done = ap (λ (o : Output). o.done) k.out in let number = k.number in let few = r.count in omega (arith, done, number, few);
    words = r.words;
    ordinary = r.ordinary;
  }

  -- and it stands where it stood
  pub stands : (m : Machine) (told : Told) → stand s' m told ≡ stand s m told
  stands m told = λ i. record { number = k.number i; machine = m; mark = record { done = (k.out i).done; told = told } }

-- entries are counted
pub ready_counted : (texts : Texts) (b : Built) (s : Session) (m : Machine) (n : ℕ) → IsReady texts b s m → n ≤ 3 * s.number + 3 → IsReady texts b (record s { out = record s.out { done = n } }) m
ready_counted texts b s m n r few = record {
  set = r.set;
  before = r.before;
  inputs_room = r.inputs_room;
  before_room = r.before_room;
  after_room = r.after_room;
  out = record { line = r.out.line; log = r.out.log; changes = r.out.changes };
  count = few;
  words = r.words;
  ordinary = r.ordinary;
}

-- the width that a stimulus sees
var_same : (o : Option Var) → option_map_or (λ (v : Var). v.width) o 1 ≡ machine.width_if o
var_same (Some x) = refl
var_same None = refl

width_same : (vars : List Var) (ports : List Port) (place : ℕ) → stim.width_at (stim.stim_ports vars ports) place ≡ width_at vars ports place
width_same vars [] place = refl
width_same vars (port ∷ ports) zero = var_same (slice_get vars port.var)
width_same vars (port ∷ ports) (suc place) = width_same vars ports place

pub fits_width : (b : Built) (place : ℕ) (v : Number) → stim.act_fits (stim.design_ports b.design) (Set place v) ≡ true → v.width ≡ width_at b.design.vars b.design.ports place
fits_width b place v h =
    eqb-true v.width _ (and_parts _ _ (and_parts _ _ h).0).1 ∙ width_same b.design.vars b.design.ports place

-- ---- how many evals

turns_length : (d : Design) (place turns : ℕ) (values : List Number) → length (turns_inputs d place turns values) ≡ 2 * turns
turns_length d place zero values = refl
turns_length d place (suc turns) values = let e = turns_length d place turns (lowered d place values) in omega (arith, e)

pub act_length : (d : Design) (act : Act) (values : List Number) → length (act_inputs d act values) ≡ stim.evals_of act
act_length d (Set place v) values = refl
act_length d Eval values = refl
act_length d (Clock place turns) values = turns_length d place turns values

-- ---- one turn, and the rest of them

-- where no turn is left there is no further input
pub turns_end : (d : Design) (place turns : ℕ) (values : List Number) → turns ≤ 0 → turns_inputs d place turns values ≡ []
turns_end d place zero values none = refl
turns_end d place (suc turns) values none = let never : ⊥ = omega (arith, none) in absurd never

pub turns_step : (d : Design) (place left : ℕ) (values : List Number) → 0 < left
    → turns_inputs d place left values ≡ turn_inputs d place values ++ turns_inputs d place (left - 1) (lowered d place values)
turns_step d place zero values h = let none : ⊥ = omega (arith, h) in absurd none
turns_step d place (suc j) values h =
    let e : j ≡ suc j - 1 = omega arith in
    ap (λ (n : ℕ). turn_inputs d place values ++ turns_inputs d place n (lowered d place values)) e

pub after_step : (d : Design) (place left : ℕ) (values : List Number) → 0 < left
    → after_turns d place left values ≡ after_turns d place (left - 1) (lowered d place values)
after_step d place zero values h = let none : ⊥ = omega (arith, h) in absurd none
after_step d place (suc j) values h = let e : j ≡ suc j - 1 = omega arith in ap (λ (n : ℕ). after_turns d place n (lowered d place values)) e

-- ---- one act, and the rest of them, as the code takes them apart

tail_is : {A : Type 0} (x : A) (xs : List A) → take (length (x ∷ xs) - 1) (drop 1 (x ∷ xs)) ≡ xs
tail_is x xs = let e : length (x ∷ xs) - 1 ≡ length xs = omega arith in ap (λ (k : ℕ). take k xs) e ∙ take-length xs

pub acts_step : (d : Design) (rest : List Act) (x : Act) (values : List Number) → 1 ≤ length rest
    → inputs_from d rest values ≡ act_inputs d (slice_index_or rest 0 x) values ++ inputs_from d (take (length rest - 1) (drop 1 rest)) (after_act d (slice_index_or rest 0 x) values)
acts_step d [] x values h = let none : ⊥ = omega (arith, h) in absurd none
acts_step d (act ∷ acts) x values h = ap (λ (l : List Act). act_inputs d act values ++ inputs_from d l (after_act d act values)) (sym (tail_is act acts))

pub evals_step : (rest : List Act) (d : Act) → 1 ≤ length rest → stim.evals_in rest ≡ stim.evals_of (slice_index_or rest 0 d) + stim.evals_in (take (length rest - 1) (drop 1 rest))
evals_step [] d h = let none : ⊥ = omega (arith, h) in absurd none
evals_step (act ∷ acts) d h = ap (λ (l : List Act). stim.evals_of act + stim.evals_in l) (sym (tail_is act acts))

pub fits_first : (ports : List stim.StimPort) (rest : List Act) (d : Act) → 1 ≤ length rest → list_all (stim.act_fits ports) rest ≡ true → stim.act_fits ports (slice_index_or rest 0 d) ≡ true
fits_first ports [] d h f = let none : ⊥ = omega (arith, h) in absurd none
fits_first ports (act ∷ acts) d h f = (and_parts (stim.act_fits ports act) (list_all (stim.act_fits ports) acts) f).0

pub fits_rest : (ports : List stim.StimPort) (rest : List Act) → 1 ≤ length rest → list_all (stim.act_fits ports) rest ≡ true → list_all (stim.act_fits ports) (take (length rest - 1) (drop 1 rest)) ≡ true
fits_rest ports [] h f = f
fits_rest ports (act ∷ acts) h f = ap (list_all (stim.act_fits ports)) (tail_is act acts) ∙ (and_parts (stim.act_fits ports act) (list_all (stim.act_fits ports) acts) f).1

pub fewer : {A : Type 0} (xs : List A) → 1 ≤ length xs → length (take (length xs - 1) (drop 1 xs)) + 1 ≡ length xs
fewer [] h = omega (arith, h)
fewer (x ∷ xs) h = ap (λ l. length l + 1) (tail_is x xs) ∙ omega arith

-- the same of an act that is the first one
pub acts_turn : (d : Design) (rest : List Act) (act : Act) (values : List Number) → 1 ≤ length rest → act ≡ slice_index_or rest 0 act
    → inputs_from d rest values ≡ act_inputs d act values ++ inputs_from d (take (length rest - 1) (drop 1 rest)) (after_act d act values)
acts_turn d rest act values h is =
    acts_step d rest act values h
    ∙ ap (λ (a : Act). act_inputs d a values ++ inputs_from d (take (length rest - 1) (drop 1 rest)) (after_act d a values)) (sym is)

pub evals_turn : (rest : List Act) (act : Act) → 1 ≤ length rest → act ≡ slice_index_or rest 0 act → stim.evals_in rest ≡ stim.evals_of act + stim.evals_in (take (length rest - 1) (drop 1 rest))
evals_turn rest act h is = evals_step rest act h ∙ ap (λ (a : Act). stim.evals_of a + stim.evals_in (take (length rest - 1) (drop 1 rest))) (sym is)

-- at first each value is as wide as its port
pub opening_width : (vars : List Var) (ports : List Port) → widths (opening_ports vars ports) ≡ map (port_width vars) ports
opening_width vars [] = refl
opening_width vars (port ∷ ports) = ap (λ (l : List ℕ). port_width vars port ∷ l) (opening_width vars ports)
