use Rattle.std.proofs.Common.{◌≡◌, List, [], ◌++◌, ap, ◌∙◌}
use Rattle.rtl_ir.specs.declared.design.Var.{Var}
use Rattle.rtl_ir.specs.declared.design.Mem.{Mem}
use Rattle.rtl_pieces.specs.Line.{var_items, mem_items, end_of}
use Rattle.rtl_pieces.proofs.Finding.{new_line}
use Rattle.rtl_pieces.proofs.line.BitLine.new.Goals as goal

pub returns-clause-value : goal.returns-clause-value
returns-clause-value c =
    let vars = c.args.design.now.vars in
    let mems = c.args.design.now.mems in
    let first = c.in_ok-first.first in
    let a : c.new-items.result ≡ [] = cc in
    let b : c.add_vars.new.items ≡ c.new-items.result ++ var_items 0 vars = c.in_ok-first.ensures.items ∙ ap (λ (vs : List Var). c.new-items.result ++ var_items 0 vs) c.as_slice.ensures in
    let d : first ≡ end_of 0 (var_items 0 vars) = c.in_ok-first.ensures.end ∙ ap (λ (vs : List Var). end_of 0 (var_items 0 vs)) c.as_slice.ensures in
    let e : c.add_mems.new.items ≡ c.add_vars.new.items ++ mem_items first mems = c.in_ok-bits.ensures.items ∙ ap (λ (ms : List Mem). c.add_vars.new.items ++ mem_items first ms) c.as_slice-2.ensures in
    let f : c.in_ok-bits.bits ≡ end_of first (mem_items first mems) = c.in_ok-bits.ensures.end ∙ ap (λ (ms : List Mem). end_of first (mem_items first ms)) c.as_slice-2.ensures in
    new_line vars mems c.new-items.result c.add_vars.new.items c.add_mems.new.items first c.in_ok-bits.bits c.len.result a b d e f c.len.ensures
