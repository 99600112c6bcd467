-- What a token is to the grammar, and the classes that the grammar asks for (IEEE 1800-2017 Annex A).
use Rattle.std.specs.Prelude.{ℕ, Bool, true, false, ◌==◌, List, [], ◌∷◌}
use Rattle.sv_tree.specs.declared.symbol.Symbol.{Symbol}
use Rattle.sv_tree.specs.declared.symbol.Symbol.TheVariants as sym

-- a number of its own for each symbol
abbrev pub number_of : Symbol → ℕ
number_of sym.Name = 0
number_of sym.Decimal = 1
number_of sym.Based = 2
number_of sym.Fill = 3
number_of sym.Text = 4
number_of sym.System = 5
number_of sym.Module = 6
number_of sym.Endmodule = 7
number_of sym.Parameter = 8
number_of sym.Localparam = 9
number_of sym.Input = 10
number_of sym.Output = 11
number_of sym.Logic = 12
number_of sym.Bit = 13
number_of sym.Reg = 14
number_of sym.Wire = 15
number_of sym.Byte = 16
number_of sym.Shortint = 17
number_of sym.Int = 18
number_of sym.Longint = 19
number_of sym.Integer = 20
number_of sym.Signed = 21
number_of sym.Unsigned = 22
number_of sym.Import = 23
number_of sym.Pure = 24
number_of sym.Context = 25
number_of sym.Function = 26
number_of sym.Void = 27
number_of sym.AssignWord = 28
number_of sym.AlwaysComb = 29
number_of sym.AlwaysFf = 30
number_of sym.Always = 31
number_of sym.Or = 32
number_of sym.Posedge = 33
number_of sym.Negedge = 34
number_of sym.Genvar = 35
number_of sym.Generate = 36
number_of sym.Endgenerate = 37
number_of sym.For = 38
number_of sym.If = 39
number_of sym.Else = 40
number_of sym.Begin = 41
number_of sym.End = 42
number_of sym.Case = 43
number_of sym.Endcase = 44
number_of sym.Default = 45
number_of sym.ParenOpen = 46
number_of sym.ParenClose = 47
number_of sym.BracketOpen = 48
number_of sym.BracketClose = 49
number_of sym.BraceOpen = 50
number_of sym.BraceClose = 51
number_of sym.Semicolon = 52
number_of sym.Colon = 53
number_of sym.Comma = 54
number_of sym.Dot = 55
number_of sym.Hash = 56
number_of sym.At = 57
number_of sym.Assign = 58
number_of sym.Question = 59
number_of sym.Plus = 60
number_of sym.Minus = 61
number_of sym.Star = 62
number_of sym.Slash = 63
number_of sym.Percent = 64
number_of sym.Less = 65
number_of sym.Greater = 66
number_of sym.Bang = 67
number_of sym.Tilde = 68
number_of sym.Amp = 69
number_of sym.Pipe = 70
number_of sym.Caret = 71
number_of sym.LessEqual = 72
number_of sym.GreaterEqual = 73
number_of sym.EqualEqual = 74
number_of sym.BangEqual = 75
number_of sym.CaseEqual = 76
number_of sym.CaseUnequal = 77
number_of sym.AmpAmp = 78
number_of sym.PipePipe = 79
number_of sym.TildeAmp = 80
number_of sym.TildePipe = 81
number_of sym.TildeCaret = 82
number_of sym.CaretTilde = 83
number_of sym.ShiftLeft = 84
number_of sym.ShiftRight = 85
number_of sym.ArithLeft = 86
number_of sym.ArithRight = 87
number_of sym.PlusPlus = 88
number_of sym.MinusMinus = 89
number_of sym.PlusAssign = 90
number_of sym.MinusAssign = 91
number_of sym.PlusColon = 92
number_of sym.MinusColon = 93
number_of sym.Other = 94

-- every symbol, at its number
abbrev pub all_symbols : List Symbol
all_symbols =
    sym.Name ∷ sym.Decimal ∷ sym.Based ∷ sym.Fill ∷ sym.Text ∷ sym.System ∷ sym.Module ∷ sym.Endmodule ∷
    sym.Parameter ∷ sym.Localparam ∷ sym.Input ∷ sym.Output ∷ sym.Logic ∷ sym.Bit ∷ sym.Reg ∷ sym.Wire ∷
    sym.Byte ∷ sym.Shortint ∷ sym.Int ∷ sym.Longint ∷ sym.Integer ∷ sym.Signed ∷ sym.Unsigned ∷ sym.Import ∷
    sym.Pure ∷ sym.Context ∷ sym.Function ∷ sym.Void ∷ sym.AssignWord ∷ sym.AlwaysComb ∷ sym.AlwaysFf ∷
    sym.Always ∷ sym.Or ∷ sym.Posedge ∷ sym.Negedge ∷ sym.Genvar ∷ sym.Generate ∷ sym.Endgenerate ∷ sym.For ∷
    sym.If ∷ sym.Else ∷ sym.Begin ∷ sym.End ∷ sym.Case ∷ sym.Endcase ∷ sym.Default ∷ sym.ParenOpen ∷
    sym.ParenClose ∷ sym.BracketOpen ∷ sym.BracketClose ∷ sym.BraceOpen ∷ sym.BraceClose ∷ sym.Semicolon ∷
    sym.Colon ∷ sym.Comma ∷ sym.Dot ∷ sym.Hash ∷ sym.At ∷ sym.Assign ∷ sym.Question ∷ sym.Plus ∷ sym.Minus ∷
    sym.Star ∷ sym.Slash ∷ sym.Percent ∷ sym.Less ∷ sym.Greater ∷ sym.Bang ∷ sym.Tilde ∷ sym.Amp ∷ sym.Pipe ∷
    sym.Caret ∷ sym.LessEqual ∷ sym.GreaterEqual ∷ sym.EqualEqual ∷ sym.BangEqual ∷ sym.CaseEqual ∷
    sym.CaseUnequal ∷ sym.AmpAmp ∷ sym.PipePipe ∷ sym.TildeAmp ∷ sym.TildePipe ∷ sym.TildeCaret ∷
    sym.CaretTilde ∷ sym.ShiftLeft ∷ sym.ShiftRight ∷ sym.ArithLeft ∷ sym.ArithRight ∷ sym.PlusPlus ∷
    sym.MinusMinus ∷ sym.PlusAssign ∷ sym.MinusAssign ∷ sym.PlusColon ∷ sym.MinusColon ∷ sym.Other ∷ []

-- two symbols are the same
abbrev pub same : Symbol → Symbol → Bool
same a b = number_of a == number_of b

-- ---- operators (11.3, table 11-2)

-- the level of a binary operator, from 1, which binds tightest, to 10, or 0
abbrev pub level_of : Symbol → ℕ
level_of sym.Star = 1
level_of sym.Slash = 1
level_of sym.Percent = 1
level_of sym.Plus = 2
level_of sym.Minus = 2
level_of sym.ShiftLeft = 3
level_of sym.ShiftRight = 3
level_of sym.ArithLeft = 3
level_of sym.ArithRight = 3
level_of sym.Less = 4
level_of sym.LessEqual = 4
level_of sym.Greater = 4
level_of sym.GreaterEqual = 4
level_of sym.EqualEqual = 5
level_of sym.BangEqual = 5
level_of sym.CaseEqual = 5
level_of sym.CaseUnequal = 5
level_of sym.Amp = 6
level_of sym.Caret = 7
level_of sym.TildeCaret = 7
level_of sym.CaretTilde = 7
level_of sym.Pipe = 8
level_of sym.AmpAmp = 9
level_of sym.PipePipe = 10
level_of _ = 0

-- an operator before its operand
abbrev pub is_prefix : Symbol → Bool
is_prefix sym.Plus = true
is_prefix sym.Minus = true
is_prefix sym.Bang = true
is_prefix sym.Tilde = true
is_prefix sym.Amp = true
is_prefix sym.TildeAmp = true
is_prefix sym.Pipe = true
is_prefix sym.TildePipe = true
is_prefix sym.Caret = true
is_prefix sym.TildeCaret = true
is_prefix sym.CaretTilde = true
is_prefix _ = false

-- the mark of a part select (A.8.3)
abbrev pub is_part : Symbol → Bool
is_part sym.Colon = true
is_part sym.PlusColon = true
is_part sym.MinusColon = true
is_part _ = false

-- ---- words of types (A.2.2.1)

-- a type whose width its range gives
abbrev pub is_vector : Symbol → Bool
is_vector sym.Logic = true
is_vector sym.Bit = true
is_vector sym.Reg = true
is_vector sym.Wire = true
is_vector _ = false

-- a type that has its width
abbrev pub is_fixed : Symbol → Bool
is_fixed sym.Byte = true
is_fixed sym.Shortint = true
is_fixed sym.Int = true
is_fixed sym.Longint = true
is_fixed sym.Integer = true
is_fixed _ = false

-- `signed` or `unsigned`
abbrev pub is_sign : Symbol → Bool
is_sign sym.Signed = true
is_sign sym.Unsigned = true
is_sign _ = false

-- the type of an import's result (A.2.6)
abbrev pub is_result : Symbol → Bool
is_result sym.Void = true
is_result sym.Byte = true
is_result sym.Shortint = true
is_result sym.Int = true
is_result sym.Longint = true
is_result sym.Bit = true
is_result sym.Logic = true
is_result _ = false

-- the type of an import's argument (A.2.7)
abbrev pub is_argument : Symbol → Bool
is_argument sym.Byte = true
is_argument sym.Shortint = true
is_argument sym.Int = true
is_argument sym.Longint = true
is_argument sym.Integer = true
is_argument sym.Bit = true
is_argument sym.Logic = true
is_argument _ = false

-- a type of an import that takes a sign
abbrev pub is_signable : Symbol → Bool
is_signable sym.Byte = true
is_signable sym.Shortint = true
is_signable sym.Int = true
is_signable sym.Longint = true
is_signable sym.Integer = true
is_signable _ = false

-- ---- other words and marks

-- the direction of a port (A.2.1.2)
abbrev pub is_direction : Symbol → Bool
is_direction sym.Input = true
is_direction sym.Output = true
is_direction _ = false

-- how an import is called (A.2.6)
abbrev pub is_manner : Symbol → Bool
is_manner sym.Pure = true
is_manner sym.Context = true
is_manner _ = false

-- the word of a parameter among items (A.2.1.1)
abbrev pub is_parameter : Symbol → Bool
is_parameter sym.Parameter = true
is_parameter sym.Localparam = true
is_parameter _ = false

-- the word of a clocked process (A.6.2)
abbrev pub is_always : Symbol → Bool
is_always sym.AlwaysFf = true
is_always sym.Always = true
is_always _ = false

-- the edge of an event (A.6.5)
abbrev pub is_edge : Symbol → Bool
is_edge sym.Posedge = true
is_edge sym.Negedge = true
is_edge _ = false

-- the mark between two events
abbrev pub is_event_mark : Symbol → Bool
is_event_mark sym.Or = true
is_event_mark sym.Comma = true
is_event_mark _ = false

-- an assignment of a statement, blocking or not (A.6.2)
abbrev pub is_assign : Symbol → Bool
is_assign sym.Assign = true
is_assign sym.LessEqual = true
is_assign _ = false

-- the type of a loop's variable
abbrev pub is_loop_type : Symbol → Bool
is_loop_type sym.Int = true
is_loop_type sym.Integer = true
is_loop_type _ = false

-- an assignment of a loop's step (A.6.8)
abbrev pub is_loop_assign : Symbol → Bool
is_loop_assign sym.Assign = true
is_loop_assign sym.PlusAssign = true
is_loop_assign sym.MinusAssign = true
is_loop_assign _ = false

-- a step by one
abbrev pub is_count : Symbol → Bool
is_count sym.PlusPlus = true
is_count sym.MinusMinus = true
is_count _ = false
