use Rattle.std.proofs.Common.{◌≡◌, ◌++◌, ℕ, List, sym, subst}
use Rattle.std.specs.Prelude.{codes}
use Rattle.vs_base.specs.declared.origin.Origin.{Origin}
use Rattle.vs_world.specs.Outside.{Told}
use Rattle.sv_names.specs.declared.fault.DesignFault.{DesignFault}
use Rattle.run_status.specs.declared.status.Status.{Status}
use Rattle.run_status.specs.Answer.{Refuses, EndsBy}
use Rattle.fault_text.specs.FaultText.{at_place, text_of}
use Rattle.fault_text.specs.Endings.{design_end}
use Rattle.fault_text.proofs.refusal.refuse_design.Goals as goal

-- a line with a name in it
named : (s : Status) (files : List (List ℕ)) (at : Origin) (start found name : List ℕ) (a b : Told) → found ≡ name → Refuses s (at_place files at (start ++ found)) a b → Refuses s (at_place files at (start ++ name)) a b
named s files at start found name a b is refuses = subst (λ (t : List ℕ). Refuses s (at_place files at (start ++ t)) a b) is refuses

pub returns-in-Duplicate : goal.returns-in-Duplicate
returns-in-Duplicate g c =
    let a = g.W.World.told c.args.world.now in
    let b = g.W.World.told c.refuse_place.new.world in
    let told = named c.refuse_place.result c.args.files.now c.in-Duplicate.at (codes "duplicate ") _ (text_of c.args.names.now c.in-Duplicate.name.0) a b c.text_of.ensures c.refuse_place.ensures.told in
    record { told = subst (λ (e : DesignFault). EndsBy c.refuse_place.result (design_end c.args.files.now c.args.names.now e) a b) (sym c.in-Duplicate.is) told }

pub returns-in-UnknownModule : goal.returns-in-UnknownModule
returns-in-UnknownModule g c =
    let a = g.W.World.told c.args.world.now in
    let b = g.W.World.told c.refuse_place-in-UnknownModule.new.world in
    let told = named c.refuse_place-in-UnknownModule.result c.args.files.now c.in-UnknownModule.at (codes "unknown module ") _ (text_of c.args.names.now c.in-UnknownModule.name.0) a b c.text_of-in-UnknownModule.ensures c.refuse_place-in-UnknownModule.ensures.told in
    record { told = subst (λ (e : DesignFault). EndsBy c.refuse_place-in-UnknownModule.result (design_end c.args.files.now c.args.names.now e) a b) (sym c.in-UnknownModule.is) told }

pub returns-in-UnknownName : goal.returns-in-UnknownName
returns-in-UnknownName g c =
    let a = g.W.World.told c.args.world.now in
    let b = g.W.World.told c.refuse_place-in-UnknownName.new.world in
    let told = named c.refuse_place-in-UnknownName.result c.args.files.now c.in-UnknownName.at (codes "unknown name ") _ (text_of c.args.names.now c.in-UnknownName.name.0) a b c.text_of-in-UnknownName.ensures c.refuse_place-in-UnknownName.ensures.told in
    record { told = subst (λ (e : DesignFault). EndsBy c.refuse_place-in-UnknownName.result (design_end c.args.files.now c.args.names.now e) a b) (sym c.in-UnknownName.is) told }

pub returns-in-WrongUse : goal.returns-in-WrongUse
returns-in-WrongUse g c =
    let a = g.W.World.told c.args.world.now in
    let b = g.W.World.told c.refuse_place-in-WrongUse.new.world in
    let told = named c.refuse_place-in-WrongUse.result c.args.files.now c.in-WrongUse.at (codes "wrong use of ") _ (text_of c.args.names.now c.in-WrongUse.name.0) a b c.text_of-in-WrongUse.ensures c.refuse_place-in-WrongUse.ensures.told in
    record { told = subst (λ (e : DesignFault). EndsBy c.refuse_place-in-WrongUse.result (design_end c.args.files.now c.args.names.now e) a b) (sym c.in-WrongUse.is) told }

pub returns-in-BadEvent : goal.returns-in-BadEvent
returns-in-BadEvent g c =
    let a = g.W.World.told c.args.world.now in
    let b = g.W.World.told c.refuse_place-in-BadEvent.new.world in
    let told = named c.refuse_place-in-BadEvent.result c.args.files.now c.in-BadEvent.at (codes "bad event ") _ (text_of c.args.names.now c.in-BadEvent.name.0) a b c.text_of-in-BadEvent.ensures c.refuse_place-in-BadEvent.ensures.told in
    record { told = subst (λ (e : DesignFault). EndsBy c.refuse_place-in-BadEvent.result (design_end c.args.files.now c.args.names.now e) a b) (sym c.in-BadEvent.is) told }
