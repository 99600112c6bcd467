-- Tokens among which no directive stands are read as they stand, and of a conditional one branch is.
use Rattle.std.specs.Prelude.{◌≡◌, ℕ, ◌+◌, Bool, true, false, not, if◌then◌else◌, List, [], ◌∷◌, ◌++◌, length, None}
use Rattle.std.proofs.Common.{refl, sym, ap, ◌∙◌, arith, length-append, append-nil}
use Rattle.std.specs.Option.{is_some}
use Rattle.vs_base.specs.declared.origin.Origin.{Origin}
use Rattle.sv_pp.specs.declared.fault.PpFault.TheVariants as fault
use Rattle.sv_pp.specs.declared.directive.Role.{Role}
use Rattle.sv_pp.specs.declared.directive.Role.TheVariants.{Ifdef, Else, Endif}
use Rattle.sv_tree.specs.declared.token.Token.{Token}
use Rattle.sv_pp.specs.Directive.{Text, role_of}
use Rattle.sv_pp.specs.Reading.{Reading, Macros, no_macros, joined, silent, active, text_of, named_by, is_directive}
use Rattle.sv_pp.specs.Active.{State, step, plain_step, is_active, directive_step, skipped_step, after_step, open_as, same, faulty, at_start, file_reading, files_reading, reading}
use Rattle.sv_pp.specs.Plain.{ArePlain, AllPlain, HasRole, TakesOneBranch, all_tokens, as_they_stand, one_branch}
use Rattle.sv_pp.proofs.Laws.{joined_assoc}

abbrev record_of : List Token → ℕ → Reading
record_of ts n = record { tokens = ts; count = n; fault = None }

abbrev with_count : Reading → ℕ → Reading
with_count r n = record { tokens = r.tokens; count = n; fault = r.fault }

nothing_first : (r : Reading) → joined (as_they_stand []) r ≡ r
nothing_first r = ap (with_count r) (omega arith)

counted : (ts : List Token) (m n : ℕ) → m ≡ n → record_of ts m ≡ record_of ts n
counted ts m n same = ap (record_of ts) same

abbrev counts : List Token → ℕ → Reading
counts ts n = record_of ts n

-- one part after the other
both_stand : (ts us : List Token) → joined (as_they_stand ts) (as_they_stand us) ≡ as_they_stand (ts ++ us)
both_stand ts us = counted (ts ++ us) (length ts + length us) (length (ts ++ us)) (sym (length-append ts us))

-- a token that is no directive
plain_first : (names : List Text) (s : State) (on : Bool) → is_active s ≡ on → (t : Token) (rest : List Token) → is_directive t.kind ≡ false → step names s t rest ≡ record { reading = if on then active t else silent 1; more = 0; after = s }
plain_first names s on is t rest plain =
    ap (λ b. if b then (if is_active s then directive_step names s (role_of (named_by names t)) t rest else skipped_step names s (role_of (named_by names t)) t rest) else plain_step s t) plain
    ∙ ap (λ b. record { reading = if b then active t else silent 1; more = 0; after = s }) is

module _ (names : List Text) (next : Macros → Reading) where
  -- tokens without directives, where tokens are active and where they are not
  plain_part : (s : State) (on : Bool) → is_active s ≡ on → (ts rest : List Token) → ArePlain ts → file_reading names next 0 s (ts ++ rest) ≡ joined (if on then as_they_stand ts else silent (length ts)) (file_reading names next 0 s rest)
  plain_part s true is [] rest plain = sym (nothing_first (file_reading names next 0 s rest))
  plain_part s false is [] rest plain = sym (nothing_first (file_reading names next 0 s rest))
  plain_part s true is (t ∷ ts) rest plain =
      ap (λ st. after_step st (λ left after. file_reading names next left after (ts ++ rest))) (plain_first names s true is t (ts ++ rest) plain.0)
      ∙ ap (joined (active t)) (plain_part s true is ts rest plain.1)
      ∙ sym (joined_assoc (active t) (as_they_stand ts) (file_reading names next 0 s rest))
      ∙ ap (λ r. joined r (file_reading names next 0 s rest)) (both_stand (t ∷ []) ts)
  plain_part s false is (t ∷ ts) rest plain =
      let count : 1 + length ts ≡ length (t ∷ ts) = omega arith in
      ap (λ st. after_step st (λ left after. file_reading names next left after (ts ++ rest))) (plain_first names s false is t (ts ++ rest) plain.0)
      ∙ ap (joined (silent 1)) (plain_part s false is ts rest plain.1)
      ∙ sym (joined_assoc (silent 1) (silent (length ts)) (file_reading names next 0 s rest))
      ∙ ap (λ n. joined (silent n) (file_reading names next 0 s rest)) count

  file_stands : (macros : Macros) (ts : List Token) → ArePlain ts → file_reading names next 0 (at_start macros) ts ≡ joined (as_they_stand ts) (next macros)
  file_stands macros ts plain = ap (file_reading names next 0 (at_start macros)) (sym (append-nil ts)) ∙ plain_part (at_start macros) true refl ts [] plain

  -- ---- the two branches of a conditional

  module _ (macros : Macros) where
    abbrev inside : Origin → Bool → Bool → State
    inside at taken is_else = record { macros = macros; branches = record { at = at; taken = taken; is_else = is_else } ∷ [] }

    -- `else` and `endif` are looked at in either branch
    branch_step : (s : State) (t : Token) (role : Role) (rest : List Token) → HasRole names t role → directive_step names s role t rest ≡ skipped_step names s role t rest → step names s t rest ≡ skipped_step names s role t rest
    branch_step s t role rest has same =
        ap (λ b. if b then (if is_active s then directive_step names s (role_of (named_by names t)) t rest else skipped_step names s (role_of (named_by names t)) t rest) else plain_step s t) has.directive
        ∙ ap (λ r. if is_active s then directive_step names s r t rest else skipped_step names s r t rest) has.is
        ∙ ap (λ st. if is_active s then st else skipped_step names s role t rest) same
        ∙ either (is_active s)
      where
        either : (b : Bool) → (if b then skipped_step names s role t rest else skipped_step names s role t rest) ≡ skipped_step names s role t rest
        either true = refl
        either false = refl

    module _ (at : Origin) (otherwise endif : Token) (first second rest : List Token) (plain : ArePlain first) (plain_too : ArePlain second) (is_else : HasRole names otherwise Else) (is_endif : HasRole names endif Endif) where
      abbrev after : Reading
      after = file_reading names next 0 (at_start macros) rest

      second_part : (taken : Bool) → file_reading names next 0 (inside at taken true) (second ++ endif ∷ rest) ≡ joined (if taken then as_they_stand second else silent (length second)) (joined (silent 1) after)
      second_part taken =
          plain_part (inside at taken true) taken (on taken) second (endif ∷ rest) plain_too
          ∙ ap (λ st. joined (if taken then as_they_stand second else silent (length second)) (after_step st (λ left s. file_reading names next left s rest))) (branch_step (inside at taken true) endif Endif rest is_endif refl)
        where
          on : (b : Bool) → is_active (inside at b true) ≡ b
          on true = refl
          on false = refl

      first_part : (taken : Bool) → file_reading names next 0 (inside at taken false) (first ++ otherwise ∷ (second ++ endif ∷ rest))
          ≡ joined (if taken then as_they_stand first else silent (length first)) (joined (silent 1) (file_reading names next 0 (inside at (not taken) true) (second ++ endif ∷ rest)))
      first_part taken =
          plain_part (inside at taken false) taken (on taken) first (otherwise ∷ (second ++ endif ∷ rest)) plain
          ∙ ap (λ st. joined (if taken then as_they_stand first else silent (length first)) (after_step st (λ left s. file_reading names next left s (second ++ endif ∷ rest)))) (branch_step (inside at taken false) otherwise Else (second ++ endif ∷ rest) is_else refl)
        where
          on : (b : Bool) → is_active (inside at b false) ≡ b
          on true = refl
          on false = refl

      -- the four parts round the branch that is taken, counted together
      together : (taken : Bool) → joined (silent 2) (joined (if taken then as_they_stand first else silent (length first)) (joined (silent 1) (joined (if not taken then as_they_stand second else silent (length second)) (joined (silent 1) after)))) ≡ joined (one_branch taken first second) after
      together true =
          sym (joined_assoc (silent 2) (as_they_stand first) (joined (silent 1) (joined (silent (length second)) (joined (silent 1) after))))
          ∙ sym (joined_assoc (counts first (2 + length first)) (silent 1) (joined (silent (length second)) (joined (silent 1) after)))
          ∙ sym (joined_assoc (counts (first ++ []) (2 + length first + 1)) (silent (length second)) (joined (silent 1) after))
          ∙ sym (joined_assoc (counts ((first ++ []) ++ []) (2 + length first + 1 + length second)) (silent 1) after)
          ∙ ap (λ r. joined r after) (ap (λ ts. record_of ts (2 + length first + 1 + length second + 1)) (append-nil ((first ++ []) ++ []) ∙ append-nil (first ++ []) ∙ append-nil first) ∙ counted first (2 + length first + 1 + length second + 1) (length first + length second + 4) (omega arith))
      together false =
          sym (joined_assoc (silent 2) (silent (length first)) (joined (silent 1) (joined (as_they_stand second) (joined (silent 1) after))))
          ∙ sym (joined_assoc (silent (2 + length first)) (silent 1) (joined (as_they_stand second) (joined (silent 1) after)))
          ∙ sym (joined_assoc (silent (2 + length first + 1)) (as_they_stand second) (joined (silent 1) after))
          ∙ sym (joined_assoc (counts second (2 + length first + 1 + length second)) (silent 1) after)
          ∙ ap (λ r. joined r after) (ap (λ ts. record_of ts (2 + length first + 1 + length second + 1)) (append-nil second) ∙ counted second (2 + length first + 1 + length second + 1) (length first + length second + 4) (omega arith))

pub one_branch_is_active : TakesOneBranch
one_branch_is_active names next macros ifdef name otherwise endif first second rest is_ifdef named plain is_else plain_too is_endif =
    let tail : List Token = first ++ otherwise ∷ (second ++ endif ∷ rest) in
    let taken : Bool = is_some (macros (text_of names name)) in
    let s : State = at_start macros in
    ap (λ st. after_step st (λ left after. file_reading names next left after (name ∷ tail))) (branch_step names next macros s ifdef Ifdef (name ∷ tail) is_ifdef refl ∙ ap (λ b. if b then open_as names same s ifdef name else faulty 0 (fault.Directive ifdef.at ifdef.name) s) named)
    ∙ ap (joined (silent 2)) (first_part names next macros ifdef.at otherwise endif first second rest plain plain_too is_else is_endif taken
    ∙ ap (λ r. joined (if taken then as_they_stand first else silent (length first)) (joined (silent 1) r)) (second_part names next macros ifdef.at otherwise endif first second rest plain plain_too is_else is_endif (not taken)))
    ∙ together names next macros ifdef.at otherwise endif first second rest plain plain_too is_else is_endif taken

files_stand : (names : List Text) (macros : Macros) (files : List (List Token)) → AllPlain files → files_reading names macros files ≡ as_they_stand (all_tokens files)
files_stand names macros [] plain = refl
files_stand names macros (ts ∷ files) plain =
    file_stands names (λ after. files_reading names after files) macros ts plain.0 ∙ ap (joined (as_they_stand ts)) (files_stand names macros files plain.1) ∙ both_stand ts (all_tokens files)

pub plain_stands : (names : List Text) (files : List (List Token)) → AllPlain files → reading names files ≡ as_they_stand (all_tokens files)
unfolding reading
plain_stands names files plain = files_stand names no_macros files plain
