-- The table of macros after a definition, and what it gives.
use Rattle.std.specs.Prelude.{◌≡◌, ◌<◌, ℕ, zero, suc, Bool, true, false, if◌then◌else◌, List, [], ◌∷◌, length, get_or, slice_get, map, set, replicate, Option, Some, None}
use Rattle.std.specs.Str.{bytes_eq}
use Rattle.std.specs.Option.{option_map}
use Rattle.std.proofs.Common.{refl, sym, ap, ◌∙◌, true≢false, arith}
use Rattle.std.proofs.lemmas.List.{length-set, length-replicate, get_or-set_other, map-set}
use Rattle.std.proofs.lemmas.Slice.Eq.{bytes_eq-Decides}
use Rattle.std.proofs.lemmas.Grind.{get_or-set_at}
use Rattle.sv_tree.specs.declared.token.Token.{Token}
use Rattle.sv_tree.specs.Names.{IsAbsent, EachOnce}
use Rattle.sv_tree.specs.NameLaws.{same_id, slice_get-get_or, slice_get-within, get_or-slice_get}
use Rattle.sv_tree.specs.Tokens.{AreNamed}
use Rattle.sv_pp.specs.Directive.{Text}
use Rattle.sv_pp.specs.Reading.{Macros, no_macros, with_macro}
use Rattle.sv_pp.specs.Table.{Keeps}

get_or-filled : {X : Type 0} → (n i : ℕ) (d : X) → get_or (replicate n d) i d ≡ d
get_or-filled zero i d = refl
get_or-filled (suc n) zero d = refl
get_or-filled (suc n) (suc i) d = get_or-filled n i d

-- where nothing is defined, each place is empty
pub keeps_none : (names : List Text) → EachOnce names → Keeps names (replicate (length names) None) no_macros
keeps_none names once = record {
  once = once;
  room = length-replicate (length names) None;
  same = λ i h. get_or-filled (length names) i None;
  absent = λ name h. refl;
  named = λ name body h. cc;
}

module _ {A : Type 0} (f : A → List Token) where
  map-filled : (n : ℕ) → map (option_map f) (replicate n None) ≡ replicate n None
  map-filled zero = refl
  map-filled (suc n) = ap (λ ts. None ∷ ts) (map-filled n)

  -- a table of empty places
  pub keeps_filled : (names : List Text) (bodies : List (Option A)) → EachOnce names → bodies ≡ replicate (length bodies) None → length bodies ≡ length names → Keeps names (map (option_map f) bodies) no_macros
  keeps_filled names bodies once empty room =
      let is : map (option_map f) bodies ≡ replicate (length names) None = ap (map (option_map f)) (empty ∙ ap (λ n. replicate n None) room) ∙ map-filled (length names) in
      rw is (keeps_none names once)

  -- a table with another text at a place
  pub shown_set : (bodies : List (Option A)) (shown : List (Option (List Token))) (i : ℕ) (a : Option A) → map (option_map f) bodies ≡ shown → map (option_map f) (set bodies i a) ≡ set shown i (option_map f a)
  shown_set bodies shown i a is = map-set (option_map f) bodies i a ∙ ap (λ ts. set ts i (option_map f a)) is

-- the macro of the name at a place gets another text, or none
module _ (names : List Text) (table : List (Option (List Token))) (macros : Macros) (i : ℕ) (body : Option (List Token)) (kept : Keeps names table macros) (inside : i < length names) where
  same_at : (j : ℕ) → j < length names → (b : Bool) → bytes_eq (get_or names j []) (get_or names i []) ≡ b → get_or (set table i body) j None ≡ (if b then body else macros (get_or names j []))
  same_at j h true e = get_or-set_at table i j body None (same_id names j i kept.once h inside ((bytes_eq-Decides (get_or names j []) (get_or names i [])).0 e)) (omega (arith, kept.room, inside))
  same_at j h false e =
      get_or-set_other table i j body None (λ is. true≢false (sym ((bytes_eq-Decides (get_or names j []) (get_or names i [])).1 (ap (λ k. get_or names k []) is)) ∙ e))
      ∙ kept.same j h

  absent_at : (name : Text) → IsAbsent names name → (b : Bool) → bytes_eq name (get_or names i []) ≡ b → (if b then body else macros name) ≡ None
  absent_at name away true e = absurd (away i (slice_get-get_or names i inside ∙ ap Some (sym ((bytes_eq-Decides name (get_or names i [])).0 e))))
  absent_at name away false e = kept.absent name away

  named_at : ((new : List Token) → body ≡ Some new → AreNamed names new) → (name : Text) (new : List Token) (b : Bool) → (if b then body else macros name) ≡ Some new → AreNamed names new
  named_at named name new true h = named new h
  named_at named name new false h = kept.named name new h

  pub keeps_set : ((new : List Token) → body ≡ Some new → AreNamed names new) → Keeps names (set table i body) (with_macro macros (get_or names i []) body)
  keeps_set named = record {
    once = kept.once;
    room = length-set table i body ∙ kept.room;
    same = λ j h. same_at j h (bytes_eq (get_or names j []) (get_or names i [])) refl;
    absent = λ name away. absent_at name away (bytes_eq name (get_or names i [])) refl;
    named = λ name new h. named_at named name new (bytes_eq name (get_or names i [])) h;
  }

-- what stands at a name's place is the text of its macro
module _ {A : Type 0} (f : A → List Token) where
  at_place : (bodies : List (Option A)) (i : ℕ) (b : A) → slice_get bodies i ≡ Some (Some b) → get_or (map (option_map f) bodies) i None ≡ Some (f b)
  at_place [] i b h = cc
  at_place (x ∷ xs) zero b h = by x h
    where
      by : (x : Option A) → Some x ≡ Some (Some b) → option_map f x ≡ Some (f b)
      by None e = cc
      by (Some y) e = cc
  at_place (x ∷ xs) (suc i) b h = at_place xs i b h

  pub found_body : (names : List Text) (bodies : List (Option A)) (shown : List (Option (List Token))) (macros : Macros) (i : ℕ) (name : Text) (b : A) → Keeps names shown macros → map (option_map f) bodies ≡ shown → slice_get names i ≡ Some name
      → slice_get bodies i ≡ Some (Some b) → Some (f b) ≡ macros name
  found_body names bodies shown macros i name b kept is named found =
      sym (at_place bodies i b found) ∙ ap (λ ts. get_or ts i None) is ∙ kept.same i (slice_get-within names i name named) ∙ ap macros (get_or-slice_get names i name named)
