-- The acts on an input.
use Rattle.std.proofs.Common.{◌≡◌, ℕ, suc, ◌+◌, ◌^◌, ◌<◌, List, [], ◌∷◌, length, get_or, Bool, true, false, true≢false, cond, refl, sym, ap, ◌∙◌, subst, arith}
use Rattle.std.specs.Prelude.{Option, Some, None, Result, Ok, Err, IfSome, nat_lt, slice_get}
use Rattle.std.specs.List.{position_from, list_all}
use Rattle.std.specs.Option.{option_map, option_map_or}
use Rattle.std.proofs.lemmas.Bool.{false_from_ne_true, lt-ltb, ltb-true}
use Rattle.std.proofs.lemmas.List.Folds.{list_all_at}
use Rattle.std.proofs.lemmas.Option.{slice_get-map, slice_get-get_or}
use Rattle.rtl_ir.specs.WithinDesign.{port_fits}
use Rattle.std.proofs.lemmas.Nat.{pow_pos}
use Rattle.std.proofs.Math.Nat.{mod-eq_of_lt, mod-lt}
use Rattle.vs_base.specs.Number.{kept}
use Rattle.vs_base.specs.declared.act.Act.{Act}
use Rattle.vs_base.specs.declared.act.Act.TheVariants.{Set}
use Rattle.rtl_ir.specs.declared.design.Var.{Var}
use Rattle.rtl_ir.specs.declared.design.Port.{Port}
use Rattle.stimulus.specs.declared.fault.StimFault.{StimFault}
use Rattle.stimulus.specs.declared.fault.StimFault.TheVariants.{BadLine, ValueTooWide}
use Rattle.stimulus.specs.StimulusText.{Text, is_hex, hex_value, is_count, count_value}
use Rattle.stimulus.specs.Stimulus.{StimPort, stim_port, stim_ports, is_input, place_of, width_at, set_input, set_act, clock_input, clock_act}

-- ---- the place of a name

below : (name : Text) (k : ℕ) (vars : List Var) (ports : List Port) (place : ℕ) → position_from (is_input name) k (stim_ports vars ports) ≡ Some place → place < k + length ports
below name k vars [] place at = cc
below name k vars (p ∷ ports) place at = by (is_input name (stim_port vars p)) at (λ h. below name (k + 1) vars ports place h)
  where
    by : (b : Bool) → cond b (Some k) (position_from (is_input name) (k + 1) (stim_ports vars ports)) ≡ Some place
        → (position_from (is_input name) (k + 1) (stim_ports vars ports) ≡ Some place → place < k + 1 + length ports) → place < k + suc (length ports)
    by true h later = let same : k ≡ place = cc in omega arith
    by false h later = let less : place < k + 1 + length ports = later h in omega arith

-- a place that is found is that of a port
pub place_within : (vars : List Var) (ports : List Port) (name : Text) (r : Option ℕ) → r ≡ place_of (stim_ports vars ports) name → IfSome r (λ place. place < length ports)
place_within vars ports name None at = tt
place_within vars ports name (Some place) at = let less : place < 0 + length ports = below name 0 vars ports place (sym at) in omega arith

-- ---- the width of a port

each_fits : {A : Type 0} (p : A → Bool) (xs : List A) (i : ℕ) (d : A) → i < length xs → list_all p xs ≡ true → p (get_or xs i d) ≡ true
each_fits p xs i d h all = by (p (get_or xs i d)) refl
  where
    by : (b : Bool) → p (get_or xs i d) ≡ b → b ≡ true
    by true e = refl
    by false e = absurd (true≢false (sym all ∙ list_all_at p xs i d h e))

module _ (vars : List Var) (ports : List Port) (place : ℕ) (d : Port) (within : place < length ports) where
  port_at : slice_get (stim_ports vars ports) place ≡ Some (stim_port vars (get_or ports place d))
  port_at = slice_get-map (stim_port vars) ports place ∙ ap (option_map (stim_port vars)) (slice_get-get_or ports place d within)

  -- a port has the width of its variable
  pub width_is : (v : Var) → list_all (port_fits (length vars)) ports ≡ true → (get_or vars (get_or ports place d).var v).width ≡ width_at (stim_ports vars ports) place
  width_is v fit =
      let known : (get_or ports place d).var < length vars = ltb-true (get_or ports place d).var (length vars) (each_fits (port_fits (length vars)) ports place d within fit) in
      let of_var : option_map_or (λ v. v.width) (slice_get vars (get_or ports place d).var) 1 ≡ (get_or vars (get_or ports place d).var v).width
      = ap (λ (o : Option Var). option_map_or (λ v. v.width) o 1) (slice_get-get_or vars (get_or ports place d).var v known) in
      sym (ap (λ (o : Option StimPort). option_map_or (λ p. p.width) o 1) port_at ∙ of_var)

-- ---- the act of a set

module _ (ports : List StimPort) (n place width value : ℕ) (is_width : width ≡ width_at ports place) where
  abbrev set_where : Bool → Result (Option Act) StimFault
  set_where b = cond b (Ok (Some (Set place (kept (width_at ports place) value)))) (Err (ValueTooWide n))

  pub too_wide : ((kept width value).value ≡ value → ⊥) → Err (ValueTooWide n) ≡ set_input ports n value (Some place)
  too_wide cut =
      let above : nat_lt value (2 ^ width_at ports place) ≡ false = false_from_ne_true (nat_lt value (2 ^ width_at ports place))
      (λ h. cut (mod-eq_of_lt (subst (λ (w : ℕ). value < 2 ^ w) (sym is_width) (ltb-true value (2 ^ width_at ports place) h)))) in
      sym (ap set_where above)

  pub is_set : (kept width value).value ≡ value → Ok (Some (Set place (kept width value))) ≡ set_input ports n value (Some place)
  is_set whole =
      let small : value < 2 ^ width = subst (λ (v : ℕ). v < 2 ^ width) whole (mod-lt value (pow_pos width)) in
      let fits : nat_lt value (2 ^ width_at ports place) ≡ true = lt-ltb value (2 ^ width_at ports place) (subst (λ (w : ℕ). value < 2 ^ w) is_width small) in
      ap (λ (w : ℕ). Ok (Some (Set place (kept w value)))) is_width ∙ sym (ap set_where fits)

-- ---- the act of a line of three words

module _ (ports : List StimPort) (n : ℕ) (name digits : Text) (r : Option ℕ) (at : r ≡ place_of ports name) (value : ℕ) where
  pub set_found : is_hex digits ≡ true → value ≡ hex_value digits → set_input ports n value r ≡ set_act ports n name digits
  set_found good is =
      (λ i. set_input ports n (is i) (at i)) ∙ sym (ap (λ (b : Bool). cond b (set_input ports n (hex_value digits) (place_of ports name)) (Err (BadLine n))) good)

  pub clock_found : is_count digits ≡ true → value ≡ count_value digits → clock_input n value r ≡ clock_act ports n name digits
  clock_found good is =
      (λ i. clock_input n (is i) (at i)) ∙ sym (ap (λ (b : Bool). cond b (clock_input n (count_value digits) (place_of ports name)) (Err (BadLine n))) good)
