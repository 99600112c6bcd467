-- What a look-up by text in the keys of a set says of the list of their texts.
use Rattle.std.proofs.Common.{◌≡◌, ◌<◌, ℕ, zero, suc, List, [], ◌∷◌, ◌++◌, length, map, position, slice_get, get_or, Bool, true, false, ◌||◌, if◌then◌else◌, Some, refl, sym, ap, ◌∙◌, true≢false, arith, length-append, ◌^◌}
use Rattle.std.specs.List.{list_any}
use Rattle.std.specs.Str.{bytes_eq}
use Rattle.std.specs.Option.{option_map}
use Rattle.std.proofs.lemmas.Slice.Eq.{bytes_eq-Decides}
use Rattle.std.proofs.lemmas.List.Quantifiers.{position-Some}
use Rattle.std.proofs.lemmas.Option.{slice_get-map, slice_get-get_or}
use Rattle.indexmap.specs.IndexSet.{insert_key}
use Rattle.sv_tree.specs.Names.{IsAbsent, IsTable}
use Rattle.sv_tree.specs.NameLaws.{once_pushed}

module _ {A : Type 0} (f : A → List ℕ) (text : List ℕ) where
  pub found_text : (ks : List A) (i : ℕ) → position (λ k. bytes_eq text (f k)) ks ≡ Some i → slice_get (map f ks) i ≡ Some text
  found_text [] i h = cc
  found_text (k ∷ ks) i h =
      let p = position-Some (λ k. bytes_eq text (f k)) (k ∷ ks) i k h in
      let same : text ≡ f (get_or (k ∷ ks) i k) = (bytes_eq-Decides text (f (get_or (k ∷ ks) i k))).0 p.1 in
      slice_get-map f (k ∷ ks) i ∙ ap (option_map f) (slice_get-get_or (k ∷ ks) i k p.0) ∙ ap Some (sym same)

  -- a text that no key has is at no place
  pub absent_text : (ks : List A) → list_any (λ k. bytes_eq text (f k)) ks ≡ false → IsAbsent (map f ks) text
  absent_text [] h i at = cc
  absent_text (k ∷ ks) h zero at = true≢false (sym (ap (λ b. b || list_any (λ k. bytes_eq text (f k)) ks) ((bytes_eq-Decides text (f k)).1 (cc))) ∙ h)
  absent_text (k ∷ ks) h (suc i) at = absent_text ks (later (bytes_eq text (f k)) h) i at
    where
      later : (b : Bool) → (b || list_any (λ k. bytes_eq text (f k)) ks) ≡ false → list_any (λ k. bytes_eq text (f k)) ks ≡ false
      later true e = cc
      later false e = e

  -- and a text at no place is no key's
  no_key : (ks : List A) → IsAbsent (map f ks) text → list_any (λ k. bytes_eq text (f k)) ks ≡ false
  no_key [] absent = refl
  no_key (k ∷ ks) absent = by (bytes_eq text (f k)) refl (no_key ks (λ i. absent (suc i)))
    where
      by : (b : Bool) → bytes_eq text (f k) ≡ b → list_any (λ k. bytes_eq text (f k)) ks ≡ false → list_any (λ k. bytes_eq text (f k)) (k ∷ ks) ≡ false
      by true e rest = absurd (absent zero (ap Some (sym ((bytes_eq-Decides text (f k)).0 e))))
      by false e rest = ap (λ b. b || list_any (λ k. bytes_eq text (f k)) ks) e ∙ rest

map_pushed : {A : Type 0} (f : A → List ℕ) (ks : List A) (k : A) → map f (ks ++ k ∷ []) ≡ map f ks ++ f k ∷ []
map_pushed f [] k = refl
map_pushed f (x ∷ ks) k = ap (λ r. f x ∷ r) (map_pushed f ks k)

-- an insert of a new text puts it at the end
pub pushed_keys : {A : Type 0} (f : A → List ℕ) (text : List ℕ) (ks new : List A) (k : A) → f k ≡ text → IsAbsent (map f ks) text
    → new ≡ insert_key (λ a b. bytes_eq (f a) (f b)) ks k → map f new ≡ map f ks ++ text ∷ []
pushed_keys f text ks new k same absent made =
    let there : list_any (λ x. bytes_eq (f k) (f x)) ks ≡ false = rw same (no_key f text ks absent) in
    ap (map f) (made ∙ ap (λ b. if b then ks else ks ++ k ∷ []) there) ∙ map_pushed f ks k ∙ ap (λ t. map f ks ++ t ∷ []) same

pub table_pushed : (names : List (List ℕ)) (text : List ℕ) → IsTable names → IsAbsent names text → length names < 2 ^ 32 → IsTable (names ++ text ∷ [])
table_pushed names text table absent less = record {
  once = once_pushed names text table.once absent;
  few = omega (arith, less, length-append names (text ∷ []));
}
