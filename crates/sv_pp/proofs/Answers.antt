-- Each list of files has one answer, and no other.
use Rattle.std.specs.Prelude.{◌≡◌, ◌≢◌, ◌⊎◌, ◌≤◌, ◌<◌, ℕ, List, [], ◌∷◌, ◌++◌, length, Option, Some, None}
use Rattle.std.proofs.Common.{inl, inr, refl, sym, ap, ◌∙◌, subst, arith, length-append}
use Rattle.std.proofs.lemmas.Bool.{cases_lt}
use Rattle.sv_tree.specs.declared.token.Token.{Token}
use Rattle.sv_tree.specs.Tokens.{AreNamed}
use Rattle.sv_pp.specs.declared.fault.PpFault.{PpFault}
use Rattle.sv_pp.specs.declared.fault.PpFault.TheVariants as fault
use Rattle.sv_pp.specs.Directive.{Text}
use Rattle.sv_pp.specs.Reading.{Reading, joined_by}
use Rattle.sv_pp.specs.Active.{reading}
use Rattle.sv_pp.specs.Answer.{AllNamed, IsSpelled, IsOfFiles, ReadsAs, FaultIs}
use Rattle.sv_pp.proofs.Every.{of_reading}

-- ---- the active tokens

named_both : (names : List Text) (ts us : List Token) → AreNamed names ts → AreNamed names us → AreNamed names (ts ++ us)
named_both names [] us first second = second
named_both names (t ∷ ts) us first second = (first.0, named_both names ts us first.1 second)

HasNamed : List Text → Reading → Type 0
HasNamed names r = AreNamed names r.tokens

-- they have their spellings in the table
pub tokens_named : (names : List Text) (files : List (List Token)) → AllNamed names files → AreNamed names (reading names files).tokens
unfolding HasNamed
tokens_named names files named = of_reading names (HasNamed names) (λ n. tt) (λ t inside. (inside, tt)) (λ n f told. tt) (λ a b first second. by a b a.fault first second) files named
  where
    by : (a b : Reading) (f : Option PpFault) → AreNamed names a.tokens → AreNamed names b.tokens → AreNamed names (joined_by f a b).tokens
    by a b None first second = named_both names a.tokens b.tokens first second
    by a b (Some f) first second = first

HasCounted : Reading → Type 0
HasCounted r = length r.tokens ≤ r.count

-- each of them is read
pub tokens_counted : (names : List Text) (files : List (List Token)) → AllNamed names files → length (reading names files).tokens ≤ (reading names files).count
unfolding HasCounted
tokens_counted names files named = of_reading names HasCounted (λ n. omega arith) (λ t inside. omega arith) (λ n f told. omega arith) (λ a b first second. by a b a.fault first second) files named
  where
    by : (a b : Reading) (f : Option PpFault) → length a.tokens ≤ a.count → length b.tokens ≤ b.count → length (joined_by f a b).tokens ≤ (joined_by f a b).count
    by a b None first second = omega (arith, length-append a.tokens b.tokens)
    by a b (Some f) first second = first

HasTold : List Text → Reading → Type 0
HasTold names r = (f : PpFault) → r.fault ≡ Some f → IsOfFiles names f

-- a reading's fault is one of the files
pub fault_told : (names : List Text) (files : List (List Token)) → AllNamed names files → (f : PpFault) → (reading names files).fault ≡ Some f → IsOfFiles names f
unfolding HasTold
fault_told names files named = of_reading names (HasTold names) (λ n f is. cc) (λ t inside f is. cc) (λ n f told g is. subst (IsOfFiles names) (same is) told) (λ a b first second. by a b a.fault first second refl) files named
  where
    same : {f g : PpFault} → Some f ≡ Some g → f ≡ g
    same is = cc

    by : (a b : Reading) (e : Option PpFault) → ((f : PpFault) → a.fault ≡ Some f → IsOfFiles names f) → ((f : PpFault) → b.fault ≡ Some f → IsOfFiles names f) → a.fault ≡ e → (f : PpFault) → (joined_by e a b).fault ≡ Some f → IsOfFiles names f
    by a b None first second is = second
    by a b (Some e) first second is = first

-- what an answer of tokens says of them
pub answered_named : (most : ℕ) (names : List Text) (files : List (List Token)) (tokens : List Token) → AllNamed names files → ReadsAs most tokens (reading names files) → AreNamed names tokens
answered_named most names files tokens named reads = subst (AreNamed names) (sym reads.tokens_are) (tokens_named names files named)

pub answered_few : (most : ℕ) (names : List Text) (files : List (List Token)) (tokens : List Token) → AllNamed names files → ReadsAs most tokens (reading names files) → length tokens ≤ most
answered_few most names files tokens named reads = omega (arith, ap length reads.tokens_are, tokens_counted names files named, reads.few)

-- and of a fault
pub answered_spelled : (most : ℕ) (names : List Text) (files : List (List Token)) → AllNamed names files → (f : PpFault) → FaultIs most f (reading names files) → IsSpelled names f
answered_spelled most names files named fault.NoMemory is = tt
answered_spelled most names files named fault.TooMany is = tt
answered_spelled most names files named (fault.UnknownMacro at name) is = fault_told names files named (fault.UnknownMacro at name) is.0
answered_spelled most names files named (fault.MacroDepth at) is = tt
answered_spelled most names files named (fault.OpenIf at) is = tt
answered_spelled most names files named (fault.StrayElse at) is = tt
answered_spelled most names files named (fault.Directive at name) is = fault_told names files named (fault.Directive at name) is.0

-- ---- an answer, and only one

-- a fault of the files is theirs where the limit is kept
is_theirs : (names : List Text) (most : ℕ) (f : PpFault) (r : Reading) → IsOfFiles names f → r.fault ≡ Some f → r.count ≤ most → FaultIs most f r
is_theirs names most fault.NoMemory r told is few = absurd told
is_theirs names most fault.TooMany r told is few = absurd told
is_theirs names most (fault.UnknownMacro at name) r told is few = (is, few)
is_theirs names most (fault.MacroDepth at) r told is few = (is, few)
is_theirs names most (fault.OpenIf at) r told is few = (is, few)
is_theirs names most (fault.StrayElse at) r told is few = (is, few)
is_theirs names most (fault.Directive at name) r told is few = (is, few)

not_memory : (names : List Text) (f : PpFault) → IsOfFiles names f → f ≢ fault.NoMemory
not_memory names f told is = absurd (subst (IsOfFiles names) is told)

answer_within : (names : List Text) (most : ℕ) (r : Reading) → ((f : PpFault) → r.fault ≡ Some f → IsOfFiles names f) → r.count ≤ most → (e : Option PpFault) → r.fault ≡ e → ((tokens : List Token) × ReadsAs most tokens r) ⊎ ((f : PpFault) × (f ≢ fault.NoMemory) × FaultIs most f r)
answer_within names most r told few None is = inl (r.tokens, record { whole = is; few = few; tokens_are = refl })
answer_within names most r told few (Some f) is = inr (f, not_memory names f (told f is), is_theirs names most f r (told f is) is few)

pub some_answer : (most : ℕ) (names : List Text) (files : List (List Token)) → AllNamed names files → ((tokens : List Token) × ReadsAs most tokens (reading names files)) ⊎ ((f : PpFault) × (f ≢ fault.NoMemory) × FaultIs most f (reading names files))
some_answer most names files named = elim (cases_lt most (reading names files).count) [
  | inl many ↦ inr (fault.TooMany, (λ is. cc), many)
  | inr few ↦ answer_within names most (reading names files) (fault_told names files named) few (reading names files).fault refl
]

-- what a fault says of the reading
says : (most : ℕ) (f : PpFault) (r : Reading) → f ≢ fault.NoMemory → FaultIs most f r → ((f ≡ fault.TooMany) × (most < r.count)) ⊎ ((r.fault ≡ Some f) × (r.count ≤ most))
says most fault.NoMemory r apart is = absurd (apart refl)
says most fault.TooMany r apart is = inl (refl, is)
says most (fault.UnknownMacro at name) r apart is = inr is
says most (fault.MacroDepth at) r apart is = inr is
says most (fault.OpenIf at) r apart is = inr is
says most (fault.StrayElse at) r apart is = inr is
says most (fault.Directive at name) r apart is = inr is

pub one_tokens : (most : ℕ) (a b : List Token) (r : Reading) → ReadsAs most a r → ReadsAs most b r → a ≡ b
one_tokens most a b r first second = first.tokens_are ∙ sym second.tokens_are

pub one_fault : (most : ℕ) (f g : PpFault) (r : Reading) → f ≢ fault.NoMemory → g ≢ fault.NoMemory → FaultIs most f r → FaultIs most g r → f ≡ g
one_fault most f g r apart also first second = elim (says most f r apart first) [
  | inl a ↦ (elim (says most g r also second) [ inl b ↦ a.0 ∙ sym b.0 | inr b ↦ absurd (omega (arith, a.1, b.1)) ])
  | inr a ↦ (elim (says most g r also second) [ inl b ↦ absurd (omega (arith, a.1, b.1)) | inr b ↦ same (sym a.0 ∙ b.0) ])
]
  where
    same : {f g : PpFault} → Some f ≡ Some g → f ≡ g
    same is = cc

none_some : {f : PpFault} → None ≡ Some f → ⊥
none_some is = cc

-- tokens leave only want of memory as a fault
pub tokens_apart : (most : ℕ) (tokens : List Token) (f : PpFault) (r : Reading) → ReadsAs most tokens r → FaultIs most f r → f ≡ fault.NoMemory
tokens_apart most tokens fault.NoMemory r reads is = refl
tokens_apart most tokens fault.TooMany r reads is = absurd (omega (arith, reads.few, is))
tokens_apart most tokens (fault.UnknownMacro at name) r reads is = absurd (none_some (sym reads.whole ∙ is.0))
tokens_apart most tokens (fault.MacroDepth at) r reads is = absurd (none_some (sym reads.whole ∙ is.0))
tokens_apart most tokens (fault.OpenIf at) r reads is = absurd (none_some (sym reads.whole ∙ is.0))
tokens_apart most tokens (fault.StrayElse at) r reads is = absurd (none_some (sym reads.whole ∙ is.0))
tokens_apart most tokens (fault.Directive at name) r reads is = absurd (none_some (sym reads.whole ∙ is.0))
