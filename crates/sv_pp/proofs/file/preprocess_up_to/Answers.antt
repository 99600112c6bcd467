use Rattle.std.proofs.Common.{refl, subst, List, map}
use Rattle.sv_tree.specs.declared.token.Token.{Token}
use Rattle.sv_pp.specs.Answer.{AllNamed}
use Rattle.sv_pp.proofs.Files.{FilesLeft, first_file, files_whole, files_on, files_end}
use Rattle.sv_pp.proofs.Answers.{answered_named, answered_few}
use Rattle.sv_pp.proofs.file.preprocess_up_to.Goals as goal

pub loop-rest-init : goal.loop-rest-init
loop-rest-init c = (c.requires.named, files_whole c.args.names.now c.args.most _ _ _ c.in_ok-new.ensures.empty c.new-2.ensures.items c.new-3.ensures.items refl refl)

pub loop-rest-preserved : goal.loop-rest-preserved
loop-rest-preserved c =
    let a = c.args in
    let all : List (List Token) = map (λ file. file.items) a.files.now in
    let is = first_file (λ file. file.items) c.loop-rest.rest.now c.file-item.result c.deref.result.now c.in-len1-up.len_at_least c.file-item.is c.deref.ensures.value in
    let left = subst (λ rest. FilesLeft a.names.now a.most c.loop-rest.going c.loop-rest.place rest all) is c.loop-rest.invariant.1 in (
      (subst (AllNamed a.names.now) is c.loop-rest.invariant.0).1,
      files_on a.names.now a.most c.loop-rest.going c.loop-rest.place c.deref.result.now _ all left c.read_file.new.going c.read_file.new.place (c.in_default-read_file.ensures left.macros left.shows),
    )

pub returns-clause-named : goal.returns-clause-named
returns-clause-named c =
    let a = c.args in
    let reads = files_end (λ file. file.items) a.names.now a.most c.loop-rest.going c.loop-rest.place c.loop-rest.rest.now _ c.in_default.len_below c.loop-rest.invariant.1 in
    answered_named a.most a.names.now _ c.loop-rest.going.tokens.items c.requires.named reads

pub returns-clause-few : goal.returns-clause-few
returns-clause-few c =
    let a = c.args in
    let reads = files_end (λ file. file.items) a.names.now a.most c.loop-rest.going c.loop-rest.place c.loop-rest.rest.now _ c.in_default.len_below c.loop-rest.invariant.1 in
    answered_few a.most a.names.now _ c.loop-rest.going.tokens.items c.requires.named reads
