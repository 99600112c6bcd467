-- How things are laid down scope by scope.
use Rattle.std.proofs.Common.{◌≡◌, ℕ, ◌≤◌, List, [], ◌∷◌, ◌++◌, map, append_assoc, sym, ap, ◌∙◌, subst, arith}
use Rattle.std.specs.List.{AllPairs}
use Rattle.std.proofs.lemmas.List.{append-nil, map-append}
use Rattle.std.proofs.lemmas.List.Elements.{All-nil, All-push, All-same}
use Rattle.std.proofs.lemmas.List.Quantifiers.{all_pairs_push}
use Rattle.rtl_flat.specs.Laid.{UpTo, Begins}

module _ {X : Type 0} (scope_of : X → ℕ) (Stands : X → Type 0) where
  pub none_yet : (scope : ℕ) (xs : List X) → xs ≡ [] → UpTo scope_of Stands scope xs
  none_yet scope xs is = subst (λ l. UpTo scope_of Stands scope l) (sym is) (record {
    stand = All-nil Stands;
    order = λ i j d less within. absurd (omega arith);
    most = All-nil (λ x. scope_of x ≤ scope);
  })

  pub one_more : (scope : ℕ) (xs ys : List X) (x : X) → ys ≡ xs ++ x ∷ [] → scope_of x ≡ scope → Stands x → UpTo scope_of Stands scope xs → UpTo scope_of Stands scope ys
  one_more scope xs ys x is here stands h =
      let most : scope_of x ≤ scope = omega arith in
      record {
        stand = All-same Stands ys (xs ++ x ∷ []) is (All-push Stands xs x h.stand stands);
        order = subst (λ l. AllPairs (λ a b. scope_of a ≤ scope_of b) l) (sym is) (all_pairs_push (λ a b. scope_of a ≤ scope_of b) xs x h.order (λ k d within. let low = h.most k d within in omega (arith, low)));
        most = All-same (λ x. scope_of x ≤ scope) ys (xs ++ x ∷ []) is (All-push (λ x. scope_of x ≤ scope) xs x h.most most);
      }

  pub later : (scope next : ℕ) (xs : List X) → scope ≤ next → UpTo scope_of Stands scope xs → UpTo scope_of Stands next xs
  later scope next xs less h = record {
    stand = h.stand;
    order = h.order;
    most = λ k d within. let low = h.most k d within in omega (arith, low);
  }

-- one thing more of some is laid down behind others
pub mapped_more : {X Y Z : Type 0} (f : X → Z) (g : Y → Z) (start xs ys : List X) (x : X) (done : List Y) (y : Y) → ys ≡ xs ++ x ∷ [] → f x ≡ g y
    → map f xs ≡ map f start ++ map g done → map f ys ≡ map f start ++ map g (done ++ y ∷ [])
mapped_more f g start xs ys x done y is same sofar =
    ap (map f) is ∙ map-append f xs (x ∷ []) ∙ ap (λ l. l ++ f x ∷ []) sofar ∙ append_assoc (map f start) (map g done) (f x ∷ [])
    ∙ ap (λ z. map f start ++ (map g done ++ z ∷ [])) same ∙ sym (ap (λ l. map f start ++ l) (map-append g done (y ∷ [])))

-- what is laid down first
pub begins_first : {X : Type 0} (front xs ys : List X) → xs ≡ [] → ys ≡ xs ++ front → Begins front ys
begins_first front xs ys none is = record { rest = []; is = is ∙ ap (λ l. l ++ front) none ∙ sym (append-nil front) }

-- a list begins with itself
pub begins_itself : {X : Type 0} (xs : List X) → Begins xs xs
begins_itself xs = record { rest = []; is = sym (append-nil xs) }

-- what more is laid down stands behind
pub begins_more : {X : Type 0} (xs ys more : List X) → ys ≡ xs ++ more → Begins xs ys
begins_more xs ys more is = record { rest = more; is = is }

-- a list that begins with one that begins with a third
pub begins_through : {X : Type 0} {xs ys zs : List X} → Begins xs ys → Begins ys zs → Begins xs zs
begins_through {xs = xs} h k = record { rest = h.rest ++ k.rest; is = k.is ∙ ap (λ l. l ++ k.rest) h.is ∙ append_assoc xs h.rest k.rest }
