-- What a part of a tree reads as, and how the reading of a whole is made from those of its parts.
use Rattle.std.specs.Prelude.{ℕ, suc, Bool, true, ◌&&◌, List, [], ◌∷◌, Option, Some, None}
use Rattle.sv_tree.specs.declared.symbol.Symbol.{Symbol}
use Rattle.sv_tree.specs.declared.symbol.Symbol.TheVariants as sym
use Rattle.sv_tree.specs.declared.token.Token.{Token}
use Rattle.sv_tree.specs.declared.tree.list.CommaList.{CommaList}
use Rattle.sv_tree.specs.declared.tree.list.Joined.{Joined}
use Rattle.sv_tree.specs.Symbol.{same}

abbrev pub Tokens : Type 0
Tokens = List Token

-- what each token is to the grammar
abbrev pub Symbols : Type 0
Symbols = Token → Symbol

-- a token, and how many things it stands in that count for depth
abbrev pub Laid : Type 0
Laid = Token × ℕ

-- What a part reads as. The lists that it makes go before one that follows it.
pub record Read : Type 0 where
  -- its tokens, in order
  pub print : Tokens → Tokens
  -- the same with their depths, where it stands in so many things itself
  pub laid : ℕ → List Laid → List Laid
  -- each token is what its place asks, and the parts stand together as the grammar has them
  pub shaped : Symbols → Bool

-- ---- tokens

-- a token that may be anything
abbrev pub any : Token → Read
any t = record { print = λ r. t ∷ r; laid = λ d l. (t, d) ∷ l; shaped = λ s. true }

-- a token of a class
abbrev pub one_of : (Symbol → Bool) → Token → Read
one_of is t = record { print = λ r. t ∷ r; laid = λ d l. (t, d) ∷ l; shaped = λ s. is (s t) }

-- a token of one spelling or kind
abbrev pub token : Symbol → Token → Read
token x = one_of (same x)

-- ---- parts

-- one part after another
infixr 20 ◌then◌
abbrev pub ◌then◌ : Read → Read → Read
a then b = record { print = λ r. a.print (b.print r); laid = λ d l. a.laid d (b.laid d l); shaped = λ s. a.shaped s && b.shaped s }

-- a thing that counts for depth: its tokens stand in it
abbrev pub deeper : Read → Read
deeper a = record { print = a.print; laid = λ d. a.laid (suc d); shaped = a.shaped }

-- no token, and something asked of the parts beside it
abbrev pub asks : (Symbols → Bool) → Read
asks c = record { print = λ r. r; laid = λ d l. l; shaped = c }

abbrev pub nothing : Read
nothing = asks (λ s. true)

-- ---- parts that may be there

abbrev pub print_option : {A : Type 0} → (A → Tokens → Tokens) → Option A → Tokens → Tokens
print_option f None r = r
print_option f (Some x) r = f x r

abbrev pub lay_option : {A : Type 0} → (A → ℕ → List Laid → List Laid) → Option A → ℕ → List Laid → List Laid
lay_option f None d l = l
lay_option f (Some x) d l = f x d l

abbrev pub option_shaped : {A : Type 0} → (A → Symbols → Bool) → Option A → Symbols → Bool
option_shaped f None s = true
option_shaped f (Some x) s = f x s

abbrev pub maybe : {A : Type 0} → (A → Read) → Option A → Read
maybe f o = record {
  print = print_option (λ x. (f x).print) o;
  laid = lay_option (λ x. (f x).laid) o;
  shaped = option_shaped (λ x. (f x).shaped) o;
}

-- ---- parts one after another

abbrev pub print_each : {A : Type 0} → (A → Tokens → Tokens) → List A → Tokens → Tokens
print_each f [] r = r
print_each f (x ∷ xs) r = f x (print_each f xs r)

abbrev pub lay_each : {A : Type 0} → (A → ℕ → List Laid → List Laid) → List A → ℕ → List Laid → List Laid
lay_each f [] d l = l
lay_each f (x ∷ xs) d l = f x d (lay_each f xs d l)

abbrev pub each_shaped : {A : Type 0} → (A → Symbols → Bool) → List A → Symbols → Bool
each_shaped f [] s = true
each_shaped f (x ∷ xs) s = f x s && each_shaped f xs s

abbrev pub each : {A : Type 0} → (A → Read) → List A → Read
each f xs = record {
  print = print_each (λ x. (f x).print) xs;
  laid = lay_each (λ x. (f x).laid) xs;
  shaped = each_shaped (λ x. (f x).shaped) xs;
}

abbrev pub all_of : List Read → Read
all_of = each (λ a. a)

-- ---- lists with marks between

abbrev pub joined : {A : Type 0} → (Symbol → Bool) → (A → Read) → Joined A → Read
joined is f j = one_of is j.mark then f j.item

-- a first part, and further ones, each after a mark
abbrev pub list_by : {A : Type 0} → (Symbol → Bool) → (A → Read) → CommaList A → Read
list_by is f l = f l.first then each (joined is f) l.more

abbrev pub commas : {A : Type 0} → (A → Read) → CommaList A → Read
commas = list_by (same sym.Comma)

-- ---- facts of many parts

-- it holds of each
abbrev pub Each : {A : Type 0} → (A → Type 0) → List A → Type 0
Each P [] = Unit {0}
Each P (x ∷ xs) = P x × Each P xs
