-- What is true of every reading of files: shown once for any property that lasts when readings are joined.
use Rattle.std.specs.Prelude.{◌≡◌, ◌<◌, ℕ, zero, suc, Bool, true, false, not, ◌&&◌, if◌then◌else◌, List, [], ◌∷◌, length, take, Option, Some, None}
use Rattle.std.specs.Str.{bytes_eq}
use Rattle.std.proofs.Common.{refl, subst}
use Rattle.sv_tree.specs.declared.token.Token.{Token}
use Rattle.sv_tree.specs.Tokens.{AreNamed}
use Rattle.vs_base.specs.declared.origin.Origin.{Origin}
use Rattle.sv_pp.specs.declared.fault.PpFault.{PpFault}
use Rattle.sv_pp.specs.declared.fault.PpFault.TheVariants as fault
use Rattle.sv_pp.specs.declared.directive.Role.{Role}
use Rattle.sv_pp.specs.declared.directive.Role.TheVariants.{Define, Undef, Ifdef, Ifndef, Else, Endif, Ignored, Refused, Use}
use Rattle.sv_pp.specs.Directive.{Text, role_of}
use Rattle.sv_pp.specs.Reading.{Reading, Macros, no_macros, joined, silent, active, stopped, placed, each_reading, inner_reading, inner_use, use_by, use_reading, text_of, named_by, is_directive, is_name}
use Rattle.sv_pp.specs.Active.{Branch, State, Step, is_active, is_on, at_start, file_reading, files_reading, reading, step, quiet, faulty, line_length, define_as, named_step, define_step, undef_as, open_as, if_step, same, is_undefinable, with_body, else_by, endif_by, skipped_step, directive_step, end_reading, outermost, most_levels}
use Rattle.sv_pp.specs.Answer.{AllNamed, IsOfFiles}
use Rattle.sv_pp.proofs.Places.{named_front, some_same}

-- each macro's text has its spellings in the table
abbrev AreMacrosNamed : List Text → Macros → Type 0
AreMacrosNamed names macros = (name : Text) (body : List Token) → macros name ≡ Some body → AreNamed names body

module _ (names : List Text) (P : Reading → Type 0) (of_silent : (n : ℕ) → P (silent n)) (of_active : (t : Token) → t.name.0 < length names → P (active t)) (of_stopped : (n : ℕ) (f : PpFault) → IsOfFiles names f → P (stopped n f))
    (of_joined : (a b : Reading) → P a → P b → P (joined a b)) where
  -- ---- uses of macros

  of_each : (f : Token → Reading) → ((t : Token) → t.name.0 < length names → P (f t)) → (ts : List Token) → AreNamed names ts → P (each_reading f ts)
  of_each f one [] named = of_silent 0
  of_each f one (t ∷ ts) named = of_joined (f t) (each_reading f ts) (one t named.0) (of_each f one ts named.1)

  of_inner : (at : Origin) (inner : Token → Reading) → ((t : Token) → t.name.0 < length names → P (inner t)) → (t : Token) → t.name.0 < length names → P (inner_reading names at inner t)
  of_inner at inner each t named = by (is_directive t.kind) (role_of (named_by names t))
    where
      by : (directive : Bool) (role : Role) → P (if directive then inner_use at inner role t else active (placed at t))
      by false role = of_active (placed at t) named
      by true Use = each t named
      by true Define = of_stopped 1 (fault.Directive at t.name) named
      by true Undef = of_stopped 1 (fault.Directive at t.name) named
      by true Ifdef = of_stopped 1 (fault.Directive at t.name) named
      by true Ifndef = of_stopped 1 (fault.Directive at t.name) named
      by true Else = of_stopped 1 (fault.Directive at t.name) named
      by true Endif = of_stopped 1 (fault.Directive at t.name) named
      by true Ignored = of_stopped 1 (fault.Directive at t.name) named
      by true Refused = of_stopped 1 (fault.Directive at t.name) named

  of_use : (macros : Macros) → AreMacrosNamed names macros → (at : Origin) (levels : ℕ) (t : Token) → t.name.0 < length names → P (use_reading names macros at levels t)
  unfolding use_reading
  of_use macros named at zero t inside = of_stopped 1 (fault.MacroDepth at) tt
  of_use macros named at (suc levels) t inside = by (of_use macros named at levels) (macros (named_by names t)) (named (named_by names t))
    where
      by : ((t : Token) → t.name.0 < length names → P (use_reading names macros at levels t)) → (found : Option (List Token)) → ((body : List Token) → found ≡ Some body → AreNamed names body) → P (use_by at t (each_reading (inner_reading names at (use_reading names macros at levels))) found)
      by inner None is = of_stopped 1 (fault.UnknownMacro at t.name) inside
      by inner (Some body) is =
          of_joined (silent 1) (each_reading (inner_reading names at (use_reading names macros at levels)) body) (of_silent 1)
          (of_each (inner_reading names at (use_reading names macros at levels)) (of_inner at (use_reading names macros at levels) inner) body (is body refl))

  -- ---- steps

  -- the reading has the property, and the macros after the step are named
  record Fine (st : Step) : Type 0 where
    pub read : P st.reading
    pub named : AreMacrosNamed names st.after.macros

  module _ (s : State) (macros_named : AreMacrosNamed names s.macros) (t : Token) (inside : t.name.0 < length names) where
    fine_quiet : (more : ℕ) (branches : List Branch) → Fine (quiet more (record { macros = s.macros; branches = branches }))
    fine_quiet more branches = record { read = of_silent (suc more); named = macros_named }

    fine_faulty : (more : ℕ) (f : PpFault) → IsOfFiles names f → Fine (faulty more f s)
    fine_faulty more f told = record { read = of_stopped (suc more) f told; named = macros_named }

    fine_body : (more : ℕ) (name : Token) (body : Option (List Token)) → ((new : List Token) → body ≡ Some new → AreNamed names new) → Fine (quiet more (with_body names s name body))
    fine_body more name body named = record {
      read = of_silent (suc more);
      named = λ other found. by (bytes_eq other (text_of names name)) other found;
    }
      where
        by : (b : Bool) (other : Text) (found : List Token) → (if b then body else s.macros other) ≡ Some found → AreNamed names found
        by true other found is = named found is
        by false other found is = macros_named other found is

    fine_named : (with_name : Token → Step) → ((name : Token) → Fine (with_name name)) → (rest : List Token) → Fine (named_step s t with_name rest)
    fine_named with_name each [] = fine_faulty 0 (fault.Directive t.at t.name) inside
    fine_named with_name each (name ∷ rest) = by (is_name name.kind)
      where
        by : (b : Bool) → Fine (if b then with_name name else faulty 0 (fault.Directive t.at t.name) s)
        by true = each name
        by false = fine_faulty 0 (fault.Directive t.at t.name) inside

    fine_define : (rest : List Token) → AreNamed names rest → Fine (define_step names s t rest)
    fine_define [] named = fine_faulty 0 (fault.Directive t.at t.name) inside
    fine_define (name ∷ rest) named = by (is_name name.kind && is_on t.at.line name) (is_undefinable names name rest)
      where
        by : (there refused : Bool) → Fine (if there then (if refused then faulty 1 (fault.Directive t.at t.name) s else define_as names s name rest (line_length t.at.line rest)) else faulty 0 (fault.Directive t.at t.name) s)
        by true true = fine_faulty 1 (fault.Directive t.at t.name) inside
        by true false = fine_body (suc (line_length t.at.line rest)) name (Some (take (line_length t.at.line rest) rest)) (λ new is. subst (AreNamed names) (some_same is) (named_front names (line_length t.at.line rest) rest named.1))
        by false refused = fine_faulty 0 (fault.Directive t.at t.name) inside

    fine_if : (test : Bool → Bool) (rest : List Token) → Fine (if_step names test s t rest)
    fine_if test rest = fine_named (open_as names test s t) (λ name. fine_quiet 1 _) rest

    fine_else : (bs : List Branch) → Fine (else_by bs s t)
    fine_else [] = fine_faulty 0 (fault.StrayElse t.at) tt
    fine_else (b ∷ bs) = by b.is_else
      where
        by : (again : Bool) → Fine (if again then faulty 0 (fault.StrayElse t.at) s else quiet 0 (record { macros = s.macros; branches = record { at = b.at; taken = not b.taken; is_else = true } ∷ bs }))
        by true = fine_faulty 0 (fault.StrayElse t.at) tt
        by false = fine_quiet 0 _

    fine_endif : (bs : List Branch) → Fine (endif_by bs s t)
    fine_endif [] = fine_faulty 0 (fault.StrayElse t.at) tt
    fine_endif (b ∷ bs) = fine_quiet 0 bs

    fine_directive : (role : Role) (rest : List Token) → AreNamed names rest → Fine (directive_step names s role t rest)
    fine_directive Define rest named = fine_define rest named
    fine_directive Undef rest named = fine_named (undef_as names s) (λ name. fine_body 1 name None (λ new is. cc)) rest
    fine_directive Ifdef rest named = fine_if same rest
    fine_directive Ifndef rest named = fine_if not rest
    fine_directive Else rest named = fine_else s.branches
    fine_directive Endif rest named = fine_endif s.branches
    fine_directive Ignored rest named = fine_quiet (line_length t.at.line rest) s.branches
    fine_directive Refused rest named = fine_faulty 0 (fault.Directive t.at t.name) inside
    fine_directive Use rest named = record { read = of_use s.macros macros_named t.at most_levels t inside; named = macros_named }

    fine_skipped : (role : Role) (rest : List Token) → Fine (skipped_step names s role t rest)
    fine_skipped Define rest = fine_quiet 0 s.branches
    fine_skipped Undef rest = fine_quiet 0 s.branches
    fine_skipped Ifdef rest = fine_if same rest
    fine_skipped Ifndef rest = fine_if not rest
    fine_skipped Else rest = fine_else s.branches
    fine_skipped Endif rest = fine_endif s.branches
    fine_skipped Ignored rest = fine_quiet 0 s.branches
    fine_skipped Refused rest = fine_quiet 0 s.branches
    fine_skipped Use rest = fine_quiet 0 s.branches

    fine_step : (rest : List Token) → AreNamed names rest → Fine (step names s t rest)
    fine_step rest named = by (is_directive t.kind) (is_active s)
      where
        by : (directive on : Bool)
            → Fine (if directive then (if on then directive_step names s (role_of (named_by names t)) t rest else skipped_step names s (role_of (named_by names t)) t rest) else record { reading = if on then active t else silent 1; more = 0; after = s })
        by true true = fine_directive (role_of (named_by names t)) rest named
        by true false = fine_skipped (role_of (named_by names t)) rest
        by false true = record { read = of_active t inside; named = macros_named }
        by false false = record { read = of_silent 1; named = macros_named }

  -- ---- files

  of_end : (bs : List Branch) (next : Reading) → P next → P (end_reading bs next)
  of_end [] next after = after
  of_end (b ∷ bs) next after = of_stopped 0 (fault.OpenIf (outermost b bs)) tt

  of_file : (next : Macros → Reading) → ((macros : Macros) → AreMacrosNamed names macros → P (next macros)) → (left : ℕ) (s : State) (ts : List Token) → AreMacrosNamed names s.macros → AreNamed names ts → P (file_reading names next left s ts)
  of_file next after left s [] macros_named named = of_end s.branches (next s.macros) (after s.macros macros_named)
  of_file next after (suc left) s (t ∷ ts) macros_named named = of_file next after left s ts macros_named named.1
  of_file next after zero s (t ∷ ts) macros_named named =
      let st : Step = step names s t ts in
      let fine : Fine st = fine_step s macros_named t named.0 ts named.1 in
      of_joined st.reading (file_reading names next st.more st.after ts) fine.read (of_file next after st.more st.after ts fine.named named.1)

  of_files : (macros : Macros) → AreMacrosNamed names macros → (files : List (List Token)) → AllNamed names files → P (files_reading names macros files)
  of_files macros macros_named [] named = of_silent 0
  of_files macros macros_named (ts ∷ files) named = of_file (λ after. files_reading names after files) (λ after after_named. of_files after after_named files named.1) 0 (at_start macros) ts macros_named named.0

  pub of_reading : (files : List (List Token)) → AllNamed names files → P (reading names files)
  unfolding reading
  of_reading files named = of_files no_macros (λ name body is. cc) files named
