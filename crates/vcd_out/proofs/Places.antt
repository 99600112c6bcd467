-- Chains of places that have one key.
use Rattle.std.proofs.Common.{◌≡◌, ℕ, zero, suc, ◌+◌, ◌<◌, ◌≤◌, List, [], ◌∷◌, length, set, get_or, drop, Option, Some, None, Bool, true, false, cond, eqb, refl, sym, inl, inr, ◌∙◌, ap, subst, arith}
use Rattle.std.proofs.Math.Seq.{drop-cons}
use Rattle.std.proofs.lemmas.List.{get_or_past, length-set, length-drop, get_or-set_same, get_or-set_other}
use Rattle.std.proofs.lemmas.Bool.{eqb-true, eq-eqb}
use Rattle.std.proofs.lemmas.Bool.Decides.{leb_tells, eqb_tells}
use Rattle.vcd_out.specs.Places.{IsLinked, places_from, place_from}

-- the first of what is left stands at its place
pub here : (n : ℕ) (keys : List ℕ) (k : ℕ) (more : List ℕ) → drop n keys ≡ k ∷ more → get_or keys n 0 ≡ k
here zero [] k more e = cc
here zero (x ∷ xs) k more e = cc
here (suc n) [] k more e = cc
here (suc n) (x ∷ xs) k more e = here n xs k more e

pub rest : (n : ℕ) (keys : List ℕ) (k : ℕ) (more : List ℕ) → drop n keys ≡ k ∷ more → drop (suc n) keys ≡ more
rest zero [] k more e = cc
rest zero (x ∷ xs) k more e = cc
rest (suc n) [] k more e = cc
rest (suc n) (x ∷ xs) k more e = rest n xs k more e

-- the places from one on that have its key
abbrev pub chain : List ℕ → Option ℕ → List ℕ
chain keys None = []
chain keys (Some at) = places_from at (drop at keys) (get_or keys at 0)

chain_here : (keys : List ℕ) (n : ℕ) (k : ℕ) (more : List ℕ) (key : ℕ) (b : Bool) → b ≡ eqb k key → drop n keys ≡ k ∷ more
    → chain keys (place_from (suc n) more key) ≡ places_from (suc n) more key
    → chain keys (cond b (Some n) (place_from (suc n) more key)) ≡ cond b (n ∷ places_from (suc n) more key) (places_from (suc n) more key)
chain_here keys n k more key true h e later =
    let same : k ≡ key = eqb-true k key (sym h) in
    ap (λ (l : List ℕ). places_from n l (get_or keys n 0)) e
    ∙ ap (λ (x : ℕ). places_from n (k ∷ more) x) (here n keys k more e ∙ same)
    ∙ ap (λ (c : Bool). cond c (n ∷ places_from (suc n) more key) (places_from (suc n) more key)) (sym h)
chain_here keys n k more key false h e later = later

-- from the first place on they are all
pub chain_of_first : (keys : List ℕ) (n : ℕ) (left : List ℕ) (key : ℕ) → drop n keys ≡ left → chain keys (place_from n left key) ≡ places_from n left key
chain_of_first keys n [] key e = refl
chain_of_first keys n (k ∷ more) key e = chain_here keys n k more key (eqb k key) refl e (chain_of_first keys (suc n) more key (rest n keys k more e))

-- a place is one of the list
abbrev pub IsBelow : ℕ → Option ℕ → Type 0
IsBelow n None = Unit {0}
IsBelow n (Some at) = at < n

below_here : (n most : ℕ) (k : ℕ) (more : List ℕ) (key : ℕ) (b : Bool) → n < most → IsBelow most (place_from (suc n) more key) → IsBelow most (cond b (Some n) (place_from (suc n) more key))
below_here n most k more key true h later = h
below_here n most k more key false h later = later

pub first_below : (n most : ℕ) (left : List ℕ) (key : ℕ) → n + length left ≤ most → IsBelow most (place_from n left key)
first_below n most [] key h = tt
first_below n most (k ∷ more) key h = below_here n most k more key (eqb k key) (omega arith) (first_below (suc n) most more key (omega arith))

-- what links give is a place of the list, or none
pub linked_first : {keys : List ℕ} {first next : List (Option ℕ)} → IsLinked keys first next → (key : ℕ) → IsBelow (length keys) (get_or first key None)
linked_first {keys} {first} {next} l key =
    elim (leb_tells (length first) key) [
      | inl p ↦ subst (IsBelow (length keys)) (sym (get_or_past first key None p.1)) tt
      | inr p ↦ subst (IsBelow (length keys)) (sym (l.first_is key p.1)) (first_below 0 (length keys) keys key (omega arith))
    ]

pub linked_next : {keys : List ℕ} {first next : List (Option ℕ)} → IsLinked keys first next → (place : ℕ) → IsBelow (length keys) (get_or next place None)
linked_next {keys} {first} {next} l place =
    elim (leb_tells (length keys) place) [
      | inl p ↦ subst (IsBelow (length keys)) (sym (get_or_past next place None (let e = l.next_length in omega (arith, p.1)))) tt
      | inr p ↦ subst (IsBelow (length keys)) (sym (l.next_is place p.1))
          (first_below (suc place) (length keys) (drop (suc place) keys) (get_or keys place 0) (let e = length-drop (suc place) keys in omega (arith, p.1)))
    ]

-- the chains of links
pub chain-first : {keys : List ℕ} {first next : List (Option ℕ)} → IsLinked keys first next → (key : ℕ) → key < length first → chain keys (get_or first key None) ≡ places_from 0 keys key
chain-first {keys} l key h = ap (chain keys) (l.first_is key h) ∙ chain_of_first keys 0 keys key refl

pub chain-next : {keys : List ℕ} {first next : List (Option ℕ)} → IsLinked keys first next → (place : ℕ) → place < length keys → chain keys (Some place) ≡ place ∷ chain keys (get_or next place None)
chain-next {keys} {first} {next} l place h =
    let key : ℕ = get_or keys place 0 in
    let cut : drop place keys ≡ key ∷ drop (suc place) keys = drop-cons keys place 0 h in
    let same : eqb key key ≡ true = eq-eqb key key refl in
    ap (λ (left : List ℕ). places_from place left key) cut
    ∙ ap (λ (c : Bool). cond c (place ∷ places_from (suc place) (drop (suc place) keys) key) (places_from (suc place) (drop (suc place) keys) key)) same
    ∙ ap (λ (left : List ℕ). place ∷ left) (sym (ap (chain keys) (l.next_is place h) ∙ chain_of_first keys (suc place) (drop (suc place) keys) key refl))

-- ---- how links are made, from the last place to the first

pub record LinkedFrom (at : ℕ) (keys : List ℕ) (first next : List (Option ℕ)) : Type 0 where
  pub near : at ≤ length keys
  pub first_is : (key : ℕ) → key < length first → get_or first key None ≡ place_from at (drop at keys) key
  pub next_is : (place : ℕ) → at ≤ place → place < length keys → get_or next place None ≡ place_from (suc place) (drop (suc place) keys) (get_or keys place 0)
  pub next_length : length next ≡ length keys

first_step : (at : ℕ) (keys : List ℕ) (key k : ℕ) (first : List (Option ℕ)) → at < length keys → key ≡ get_or keys at 0 → key < length first
    → get_or first k None ≡ place_from (suc at) (drop (suc at) keys) k
    → get_or (set first key (Some at)) k None ≡ place_from at (drop at keys) k
first_step at keys key k first near is h old =
    let left : List ℕ = drop (suc at) keys in
    let cut : drop at keys ≡ key ∷ left = drop-cons keys at 0 near ∙ ap (λ (x : ℕ). x ∷ left) (sym is) in
    let opened : place_from at (drop at keys) k ≡ cond (eqb key k) (Some at) (place_from (suc at) left k) = ap (λ (l : List ℕ). place_from at l k) cut in
    elim (eqb_tells key k) [
      | inl p ↦ ap (λ (x : ℕ). get_or (set first key (Some at)) x None) (sym p.1)
          ∙ get_or-set_same first key (Some at) None h
          ∙ ap (λ (c : Bool). cond c (Some at) (place_from (suc at) left k)) (sym p.0)
          ∙ sym opened
      | inr p ↦ get_or-set_other first key k (Some at) None (λ (e : k ≡ key). p.1 (sym e))
          ∙ old
          ∙ ap (λ (c : Bool). cond c (Some at) (place_from (suc at) left k)) (sym p.0)
          ∙ sym opened
    ]

next_step : (at : ℕ) (keys : List ℕ) (key place : ℕ) (next : List (Option ℕ)) (was : Option ℕ) → at < length next → key ≡ get_or keys at 0
    → was ≡ place_from (suc at) (drop (suc at) keys) key → at ≤ place
    → (suc at ≤ place → get_or next place None ≡ place_from (suc place) (drop (suc place) keys) (get_or keys place 0))
    → get_or (set next at was) place None ≡ place_from (suc place) (drop (suc place) keys) (get_or keys place 0)
next_step at keys key place next was h is found near old =
    elim (eqb_tells at place) [
      | inl p ↦ subst (λ (x : ℕ). get_or (set next at was) x None ≡ place_from (suc x) (drop (suc x) keys) (get_or keys x 0)) p.1
          (get_or-set_same next at was None h ∙ found ∙ ap (λ (x : ℕ). place_from (suc at) (drop (suc at) keys) x) is)
      | inr p ↦ get_or-set_other next at place was None (λ (e : place ≡ at). p.1 (sym e)) ∙ old (let apart = p.1 in omega arith)
    ]

pub link_step : (n at : ℕ) (keys : List ℕ) (first next : List (Option ℕ)) (key : ℕ) (was : Option ℕ)
    → LinkedFrom n keys first next → n ≡ suc at → key ≡ get_or keys at 0 → key < length first → was ≡ get_or first key None
    → LinkedFrom at keys (set first key (Some at)) (set next at was)
link_step n at keys first next key was l is key_is h was_is =
    let l' : LinkedFrom (suc at) keys first next = subst (λ (m : ℕ). LinkedFrom m keys first next) is l in
    let near = l'.near in
    let next_length = l'.next_length in
    record {
      near = omega arith;
      first_is = λ k below. first_step at keys key k first (omega arith) key_is h (l'.first_is k (let e = length-set first key (Some at) in omega arith));
      next_is = λ place far below. next_step at keys key place next was (omega arith) key_is (was_is ∙ l'.first_is key h) far (λ further. l'.next_is place further below);
      next_length = length-set next at was ∙ l'.next_length;
    }
