-- How types, labels and settings read (IEEE 1800-2017 A.2.2.1, A.2.5, A.2.4).
use Rattle.std.specs.Prelude.{Bool, true, false, ◌||◌}
use Rattle.std.specs.Option.{is_none}
use Rattle.sv_tree.specs.declared.symbol.Symbol.{Symbol}
use Rattle.sv_tree.specs.declared.symbol.Symbol.TheVariants as sym
use Rattle.sv_tree.specs.declared.tree.words.DataType.{DataType}
use Rattle.sv_tree.specs.declared.tree.words.DataType.TheVariants.{Vector, Fixed, Signed, Ranged}
use Rattle.sv_tree.specs.declared.tree.words.Label.{Label}
use Rattle.sv_tree.specs.declared.tree.words.Range.{Range}
use Rattle.sv_tree.specs.declared.tree.words.Setting.{Setting}
use Rattle.sv_tree.specs.declared.tree.words.WordType.{WordType}
use Rattle.sv_tree.specs.Symbol.{same, is_vector, is_fixed, is_sign, is_result, is_argument, is_signable}
use Rattle.sv_tree.specs.TreeRead.{Read, one_of, token, ◌then◌, deeper, asks, maybe}
use Rattle.sv_tree.specs.TreeExpr.{expr}

abbrev pub range : Range → Read
range x =
    deeper (token sym.BracketOpen x.open then expr x.left then token sym.Colon x.colon then expr x.right then token sym.BracketClose x.close)

-- ---- types

abbrev pub word_type : (Symbol → Bool) → WordType → Read
word_type is x = one_of is x.word then maybe (one_of is_sign) x.sign

abbrev pub data_type : DataType → Read
data_type (Vector word sign bounds) = one_of is_vector word then maybe (one_of is_sign) sign then maybe range bounds
data_type (Fixed x) = word_type is_fixed x
data_type (Signed sign bounds) = one_of is_sign sign then maybe range bounds
data_type (Ranged bounds) = range bounds

abbrev pub has_word : DataType → Bool
has_word (Vector word sign bounds) = true
has_word (Fixed x) = true
has_word _ = false

-- the type of a variable begins with its word
abbrev pub variable_type : DataType → Read
variable_type x = asks (λ s. has_word x) then data_type x

-- of the types of an import only the fixed ones take a sign
abbrev pub result_type : WordType → Read
result_type x = asks (λ s. is_none x.sign || is_signable (s x.word)) then word_type is_result x

abbrev pub argument_type : WordType → Read
argument_type x = asks (λ s. is_none x.sign || is_signable (s x.word)) then word_type is_argument x

-- ---- labels and settings

abbrev pub label : Label → Read
label x = token sym.Colon x.colon then token sym.Name x.name

abbrev pub setting_by : (Symbol → Bool) → Setting → Read
setting_by is x = token sym.Name x.name then one_of is x.mark then expr x.value

abbrev pub setting : Setting → Read
setting = setting_by (same sym.Assign)
