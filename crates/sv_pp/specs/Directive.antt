-- What a directive is, by the name after its backquote (IEEE 1800-2017 clause 22).
use Rattle.std.specs.Prelude.{ℕ, Bool, true, false, ◌||◌, if◌then◌else◌, List, codes}
use Rattle.std.specs.Str.{bytes_eq}
use Rattle.sv_pp.specs.declared.directive.Role.{Role}
use Rattle.sv_pp.specs.declared.directive.Role.TheVariants.{Define, Undef, Ifdef, Ifndef, Else, Endif, Ignored, Refused, Use}

abbrev pub Text : Type 0
Text = List ℕ

-- directives that are skipped with the rest of their line
unfoldable pub is_ignored : Text → Bool
is_ignored name =
    bytes_eq name (codes "timescale") || bytes_eq name (codes "default_nettype") || bytes_eq name (codes "resetall") || bytes_eq name (codes "celldefine") || bytes_eq name (codes "endcelldefine")

-- directives that the subset has not
unfoldable pub is_refused : Text → Bool
is_refused name = bytes_eq name (codes "include") || bytes_eq name (codes "elsif") || bytes_eq name (codes "line")

unfoldable pub other_role : Text → Role
other_role name = if is_ignored name then Ignored else (if is_refused name then Refused else Use)

-- what the name stands for: any name that is no directive's is the use of a macro
unfoldable pub role_of : Text → Role
role_of name =
    if bytes_eq name (codes "define") then Define
    else (if bytes_eq name (codes "undef") then Undef
    else (if bytes_eq name (codes "ifdef") then Ifdef
    else (if bytes_eq name (codes "ifndef") then Ifndef
    else (if bytes_eq name (codes "else") then Else
    else (if bytes_eq name (codes "endif") then Endif
    else other_role name)))))

abbrev pub is_use : Role → Bool
is_use Use = true
is_use _ = false
