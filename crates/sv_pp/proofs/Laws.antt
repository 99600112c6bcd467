-- Laws of readings: what is joined, and what stays true of a fault.
use Rattle.std.specs.Prelude.{◌≡◌, ◌≤◌, ◌<◌, ℕ, zero, suc, ◌+◌, ◌-◌, List, [], ◌∷◌, length, get_or, take, drop, Option, Some, None, Result, Ok, Err}
use Rattle.std.proofs.Common.{refl, sym, ap, ◌∙◌, subst, arith, append_assoc, append-nil}
use Rattle.std.proofs.lemmas.List.{take_all}
use Rattle.sv_tree.specs.declared.token.Token.{Token}
use Rattle.sv_tree.specs.Tokens.{AreNamed}
use Rattle.sv_pp.specs.declared.fault.PpFault.{PpFault}
use Rattle.sv_pp.specs.declared.fault.PpFault.TheVariants as fault
use Rattle.sv_pp.specs.Directive.{Text}
use Rattle.sv_pp.specs.Reading.{Reading, Macros, joined, joined_by, silent, each_reading, inner_reading, use_by, use_reading, named_by}
use Rattle.sv_pp.specs.Active.{State, file_reading}
use Rattle.sv_pp.specs.Answer.{FaultIs, so_far}
use Rattle.sv_pp.specs.declared.reading.Going.{Going}
use Rattle.sv_pp.specs.Shown.{read_by, Went, Stops, Reads, Remains}
use Rattle.vs_base.specs.declared.origin.Origin.{Origin}

abbrev record_of : List Token → ℕ → Option PpFault → Reading
record_of ts n f = record { tokens = ts; count = n; fault = f }

alike : {f : Option PpFault} {ts us : List Token} {m n : ℕ} → ts ≡ us → m ≡ n → record_of ts m f ≡ record_of us n f
alike {f = f} {us = us} {m = m} e g = ap (λ ts. record_of ts m f) e ∙ ap (λ n. record_of us n f) g

-- three readings in a row: the first's fault, and what it gives, decide
pub joined_assoc : (a b c : Reading) → joined (joined a b) c ≡ joined a (joined b c)
joined_assoc a b c = by a.fault refl
  where
    rest : (g : Option PpFault) → joined (joined_by None a (record { tokens = b.tokens; count = b.count; fault = g })) c ≡ joined_by None a (joined (record { tokens = b.tokens; count = b.count; fault = g }) c)
    rest (Some g) = refl
    rest None = alike (append_assoc a.tokens b.tokens c.tokens) (omega arith)

    by : (f : Option PpFault) → a.fault ≡ f → joined (joined_by f a b) c ≡ joined_by f a (joined b c)
    by None is = rest b.fault
    by (Some f) is = ap (λ g. joined_by g a c) is

-- what is read up to a fault is no more than what is read up to it and after it
pub joined_count : (a b : Reading) → a.count ≤ (joined a b).count
joined_count a b = by a.fault
  where
    by : (f : Option PpFault) → a.count ≤ (joined_by f a b).count
    by None = omega arith
    by (Some f) = omega arith

-- after a fault nothing more is read
pub joined_stopped : (a b : Reading) (f : PpFault) → a.fault ≡ Some f → joined a b ≡ a
joined_stopped a b f is = ap (λ g. joined_by g a b) is

-- a fault is that of the whole
pub fault_stays : (most : ℕ) (f : PpFault) (a b : Reading) → FaultIs most f a → FaultIs most f (joined a b)
fault_stays most fault.NoMemory a b h = tt
fault_stays most fault.TooMany a b h = omega (arith, h, joined_count a b)
fault_stays most (fault.UnknownMacro at name) a b h = rw (joined_stopped a b (fault.UnknownMacro at name) h.0) h
fault_stays most (fault.MacroDepth at) a b h = rw (joined_stopped a b (fault.MacroDepth at) h.0) h
fault_stays most (fault.OpenIf at) a b h = rw (joined_stopped a b (fault.OpenIf at) h.0) h
fault_stays most (fault.StrayElse at) a b h = rw (joined_stopped a b (fault.StrayElse at) h.0) h
fault_stays most (fault.Directive at name) a b h = rw (joined_stopped a b (fault.Directive at name) h.0) h

-- the tokens that belong to a step are passed over
pub passed_over : (names : List Text) (next : Macros → Reading) (left : ℕ) (s : State) (ts : List Token) → file_reading names next left s ts ≡ file_reading names next 0 s (drop left ts)
passed_over names next zero s ts = refl
passed_over names next (suc left) s [] = refl
passed_over names next (suc left) s (t ∷ ts) = passed_over names next left s ts

-- ---- what was read so far

joined_nothing : (ts : List Token) (n : ℕ) → joined (so_far ts n) (silent 0) ≡ so_far ts n
joined_nothing ts n = alike (append-nil ts) (omega arith)

-- two parts, one after the other
pub went_both : (before middle after : Going) (a b : Reading) → Went before middle a → Went middle after b → Went before after (joined a b)
went_both before middle after a b first second = record {
  is = second.is ∙ ap (λ r. joined r b) first.is ∙ joined_assoc (read_by before) a b;
  few = second.few;
  same_most = second.same_most ∙ first.same_most;
}

-- a fault in the second part
pub stops_later : (before middle : Going) (a b : Reading) (f : PpFault) → Went before middle a → Stops middle b f → Stops before (joined a b) f
stops_later before middle a b f first stops =
    subst (λ most. FaultIs most f (joined (read_by before) (joined a b))) first.same_most (subst (λ r. FaultIs middle.most f r) (ap (λ r. joined r b) first.is ∙ joined_assoc (read_by before) a b) stops)

pub reads_later : {A : Type 0} (before middle after : Going) (result : Result A PpFault) (a b : Reading) → Went before middle a → Reads middle after result b → Reads before after result (joined a b)
reads_later before middle after (Ok x) a b first second = went_both before middle after a b first second
reads_later before middle after (Err f) a b first second = stops_later before middle a b f first second

-- as many tokens more are counted
pub went_count : (before after : Going) (n : ℕ) → Went before after (silent n) → before.count + n ≤ before.most
went_count before after n went = omega (arith, ap (λ (r : Reading). r.count) went.is, went.few, went.same_most)

-- ---- what remains to be read

-- at the start the whole
pub remains_whole : (now : Going) (r : Reading) → now.count ≤ now.most → Remains now now r r
remains_whole now r few = record { is = refl; few = few; same_most = refl }

-- a part was read
pub remains_on : (before now after : Going) (a b whole : Reading) → Remains before now (joined a b) whole → Went now after a → Remains before after b whole
remains_on before now after a b whole so went = record {
  is = ap (λ r. joined r b) went.is ∙ joined_assoc (read_by now) a b ∙ so.is;
  few = went.few;
  same_most = went.same_most ∙ so.same_most;
}

-- a part's fault is that of the whole
pub remains_wrong : (before now : Going) (a b whole : Reading) (f : PpFault) → Remains before now (joined a b) whole → Stops now a f → Stops before whole f
remains_wrong before now a b whole f so stops =
    subst (λ most. FaultIs most f (joined (read_by before) whole)) so.same_most (subst (λ r. FaultIs now.most f r) (joined_assoc (read_by now) a b ∙ so.is) (fault_stays now.most f (joined (read_by now) a) b stops))

-- nothing is left: the whole was read
pub remains_none : (before now : Going) (whole : Reading) → Remains before now (silent 0) whole → Went before now whole
remains_none before now whole so = record { is = sym (joined_nothing now.tokens.items now.count) ∙ so.is; few = so.few; same_most = so.same_most }

-- ---- lists that are read token by token

-- the first element and those after it
pub split_first : {A : Type 0} (xs : List A) (d : A) → 1 ≤ length xs → xs ≡ get_or xs 0 d ∷ take (length xs - 1) (drop 1 xs)
split_first [] d some = absurd (omega arith)
split_first (x ∷ xs) d some = ap (λ ys. x ∷ ys) (sym (take_all (length (x ∷ xs) - 1) xs (omega arith)))

pub rest_named : (names : List Text) (ts : List Token) → 1 ≤ length ts → AreNamed names ts → AreNamed names (take (length ts - 1) (drop 1 ts))
rest_named names [] some named = absurd (omega arith)
rest_named names (t ∷ ts) some named = subst (AreNamed names) (sym (take_all (length (t ∷ ts) - 1) ts (omega arith))) named.1

-- of a list of at least one token
module _ (rest : List Token) (d : Token) (some : 1 ≤ length rest) where
  pub first_named : (names : List Text) → AreNamed names rest → (get_or rest 0 d).name.0 < length names
  first_named names named = (subst (AreNamed names) (split_first rest d some) named).0

  module _ (f : Token → Reading) (before now : Going) (whole : Reading) (so : Remains before now (each_reading f rest) whole) where
    parts : Remains before now (joined (f (get_or rest 0 d)) (each_reading f (take (length rest - 1) (drop 1 rest)))) whole
    parts = subst (λ ts. Remains before now (each_reading f ts) whole) (split_first rest d some) so

    pub token_read : (after : Going) → Went now after (f (get_or rest 0 d)) → Remains before after (each_reading f (take (length rest - 1) (drop 1 rest))) whole
    token_read after went = remains_on before now after (f (get_or rest 0 d)) (each_reading f (take (length rest - 1) (drop 1 rest))) whole parts went

    pub token_wrong : (e : PpFault) → Stops now (f (get_or rest 0 d)) e → Stops before whole e
    token_wrong e stops = remains_wrong before now (f (get_or rest 0 d)) (each_reading f (take (length rest - 1) (drop 1 rest))) whole e parts stops

pub nothing_left : {A : Type 0} (xs : List A) → length xs < 1 → xs ≡ []
nothing_left [] none = refl
nothing_left (x ∷ xs) none = absurd (omega arith)

-- no token is left
pub all_read : (f : Token → Reading) (before now : Going) (rest : List Token) (whole : Reading) → length rest < 1 → Remains before now (each_reading f rest) whole → Went before now whole
all_read f before now rest whole none so = remains_none before now whole (subst (λ ts. Remains before now (each_reading f ts) whole) (nothing_left rest none) so)

-- ---- uses of macros

-- a use reads at least its own token
pub use_count : (names : List Text) (macros : Macros) (at : Origin) (levels : ℕ) (t : Token) → 1 ≤ (use_reading names macros at levels t).count
unfolding use_reading
use_count names macros at zero t = omega arith
use_count names macros at (suc levels) t = by (macros (named_by names t))
  where
    by : (body : Option (List Token)) → 1 ≤ (use_by at t (each_reading (inner_reading names at (use_reading names macros at levels))) body).count
    by None = omega arith
    by (Some body) = omega arith

-- a use inside too many others
pub too_deep : (names : List Text) (macros : Macros) (at : Origin) (levels : ℕ) (t : Token) (before after : Going) → levels ≡ 0 → Went before after (silent 1) → Stops before (use_reading names macros at levels t) (fault.MacroDepth at)
unfolding use_reading
too_deep names macros at levels t before after none went = rw none (refl, went_count before after 1 went)

-- a use by what its macro stands for
pub use_at : (names : List Text) (macros : Macros) (at : Origin) (levels : ℕ) (t : Token) (body : Option (List Token)) → 0 < levels → body ≡ macros (named_by names t)
    → use_reading names macros at levels t ≡ use_by at t (each_reading (inner_reading names at (use_reading names macros at (levels - 1)))) body
unfolding use_reading
use_at names macros at zero t body some is = absurd (omega arith)
use_at names macros at (suc levels) t body some is =
    let less : levels ≡ suc levels - 1 = omega arith in
    ap (use_by at t (each_reading (inner_reading names at (use_reading names macros at levels)))) (sym is) ∙ ap (λ k. use_by at t (each_reading (inner_reading names at (use_reading names macros at k))) body) less

-- a use of a macro that is not defined
pub not_defined : (names : List Text) (macros : Macros) (at : Origin) (levels : ℕ) (t : Token) (before after : Going) → 0 < levels → None ≡ macros (named_by names t) → Went before after (silent 1) → Stops before (use_reading names macros at levels t) (fault.UnknownMacro at t.name)
not_defined names macros at levels t before after some is went = rw (use_at names macros at levels t None some is) (refl, went_count before after 1 went)

-- a macro's text is read after its is_use
pub text_read : {A : Type 0} (names : List Text) (macros : Macros) (at : Origin) (levels : ℕ) (t : Token) (body : List Token) (before middle after : Going) (result : Result A PpFault) → 0 < levels → Some body ≡ macros (named_by names t) → Went before middle (silent 1)
    → Reads middle after result (each_reading (inner_reading names at (use_reading names macros at (levels - 1))) body) → Reads before after result (use_reading names macros at levels t)
text_read names macros at levels t body before middle after result some is went reads =
    subst (λ r. Reads before after result r) (sym (use_at names macros at levels t (Some body) some is)) (reads_later before middle after result (silent 1) (each_reading (inner_reading names at (use_reading names macros at (levels - 1))) body) went reads)
