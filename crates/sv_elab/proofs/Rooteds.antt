-- A list of scopes stays rooted as it grows, and as the constants of a scope grow.
use Rattle.std.proofs.Common.{◌≡◌, ◌<◌, ℕ, zero, suc, ◌+◌, Bool, true, false, ◌&&◌, cond, nat_lt, List, [], ◌∷◌, ◌++◌, length, slice_set, get_or, Some, refl, ap, ◌∙◌, arith}
use Rattle.std.specs.Prelude.{not}
use Rattle.sv_elab.specs.declared.scope.Scope.{Scope}
use Rattle.sv_elab.specs.Rooted.{is_in_earlier, stand_in_earlier, is_none, is_rooted}

both : (a b : Bool) → a ≡ true → b ≡ true → (a && b) ≡ true
both true b h k = k
both false b h k = absurd (cc)

left_of : (a b : Bool) → (a && b) ≡ true → a ≡ true
left_of true b h = refl
left_of false b h = h

right_of : (a b : Bool) → (a && b) ≡ true → b ≡ true
right_of true b h = h
right_of false b h = absurd (let none : false ≡ true = h in cc)

earlier : (n number : ℕ) (s : Scope) → s.parent ≡ Some n → n < number → is_in_earlier number s.parent ≡ true
earlier n number s is less = ap (is_in_earlier number) is ∙ (let h : nat_lt n number ≡ true = grind arith in h)

stand_more : (number : ℕ) (xs : List Scope) (s : Scope) (n : ℕ) → stand_in_earlier number xs ≡ true → s.parent ≡ Some n → n < number + length xs → stand_in_earlier number (xs ++ s ∷ []) ≡ true
stand_more number [] s n h is less = both (is_in_earlier number s.parent) true (earlier n number s is (omega arith)) refl
stand_more number (x ∷ xs) s n h is less =
    both (is_in_earlier number x.parent) (stand_in_earlier (suc number) (xs ++ s ∷ [])) (left_of (is_in_earlier number x.parent) (stand_in_earlier (suc number) xs) h)
    (stand_more (suc number) xs s n (right_of (is_in_earlier number x.parent) (stand_in_earlier (suc number) xs) h) is (omega arith))

pub rooted_more : (xs : List Scope) (s : Scope) (n : ℕ) → is_rooted xs ≡ true → s.parent ≡ Some n → n < length xs → is_rooted (xs ++ s ∷ []) ≡ true
rooted_more [] s n h is less = absurd (omega arith)
rooted_more (top ∷ xs) s n h is less =
    let first : Bool = is_none top.parent && not top.block in
    both first (stand_in_earlier 1 (xs ++ s ∷ [])) (left_of first (stand_in_earlier 1 xs) h) (stand_more 1 xs s n (right_of first (stand_in_earlier 1 xs) h) is (omega arith))

stand_set : (number : ℕ) (xs : List Scope) (k : ℕ) (x d : Scope) → k < length xs → x.parent ≡ (get_or xs k d).parent → stand_in_earlier number xs ≡ true → stand_in_earlier number (slice_set xs k x) ≡ true
stand_set number [] k x d less same h = absurd (omega arith)
stand_set number (z ∷ xs) zero x d less same h =
    both (is_in_earlier number x.parent) (stand_in_earlier (suc number) xs) (ap (is_in_earlier number) same ∙ left_of (is_in_earlier number z.parent) (stand_in_earlier (suc number) xs) h)
    (right_of (is_in_earlier number z.parent) (stand_in_earlier (suc number) xs) h)
stand_set number (z ∷ xs) (suc k) x d less same h =
    both (is_in_earlier number z.parent) (stand_in_earlier (suc number) (slice_set xs k x)) (left_of (is_in_earlier number z.parent) (stand_in_earlier (suc number) xs) h)
    (stand_set (suc number) xs k x d (omega arith) same (right_of (is_in_earlier number z.parent) (stand_in_earlier (suc number) xs) h))

pub rooted_set : (xs : List Scope) (k : ℕ) (x d : Scope) → k < length xs → x.parent ≡ (get_or xs k d).parent → x.block ≡ (get_or xs k d).block → is_rooted xs ≡ true → is_rooted (slice_set xs k x) ≡ true
rooted_set [] k x d less same blocks h = h
rooted_set (z ∷ xs) zero x d less same blocks h =
    let first : Bool = is_none z.parent && not z.block in
    both (is_none x.parent && not x.block) (stand_in_earlier 1 xs)
    (ap (λ p. is_none p && not x.block) same ∙ ap (λ b. is_none z.parent && not b) blocks ∙ left_of first (stand_in_earlier 1 xs) h)
    (right_of first (stand_in_earlier 1 xs) h)
rooted_set (z ∷ xs) (suc k) x d less same blocks h =
    let first : Bool = is_none z.parent && not z.block in
    both first (stand_in_earlier 1 (slice_set xs k x)) (left_of first (stand_in_earlier 1 xs) h) (stand_set 1 xs k x d (omega arith) same (right_of first (stand_in_earlier 1 xs) h))

pub rooted_some : (xs : List Scope) → is_rooted xs ≡ true → 0 < length xs
rooted_some [] h = absurd (let none : false ≡ true = h in cc)
rooted_some (x ∷ xs) h = omega arith

pub rooted_pushed : (ok : Bool) (new xs : List Scope) (s : Scope) (n : ℕ) → new ≡ cond ok (xs ++ s ∷ []) xs → s.parent ≡ Some n → n < length xs → is_rooted xs ≡ true → is_rooted new ≡ true
rooted_pushed true new xs s n is parent less h = ap is_rooted is ∙ rooted_more xs s n h parent less
rooted_pushed false new xs s n is parent less h = ap is_rooted is ∙ h
