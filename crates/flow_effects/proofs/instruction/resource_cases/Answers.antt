-- by the lemma of each service
use Rattle.std.proofs.Common.{ap, ◌∙◌}
use Rattle.osek_standard.specs.declared.block.Block.{Block}
use Rattle.osek_standard.specs.declared.block.Kind.TheVariants as kind
use Rattle.flow_effects.specs.CallNames as call
use Rattle.osek_standard.specs.declared.call.ResourceService.{ResourceService}
use Rattle.flow_effects.specs.Resources.{get_cases, release_cases}
use Rattle.flow_effects.proofs.ResourceCases.{all_gets, all_releases}
use Rattle.flow_model.specs.{Runners.{runner_point}, Effects.{AreCasesOf}}
use Rattle.flow_effects.proofs.Listed.{ok_list, owner_known}
use Rattle.flow_effects.proofs.instruction.resource_cases.Goals as goal

pub get_cases-requires-clause-known : goal.get_cases-requires-clause-known
get_cases-requires-clause-known c = owner_known c.args.app.now c.args.runner c.args.block c.requires.owns

pub release_cases-requires-clause-known : goal.release_cases-requires-clause-known
release_cases-requires-clause-known c = owner_known c.args.app.now c.args.runner c.args.block c.requires.owns

pub returns-in-GetResource : goal.returns-in-GetResource
returns-in-GetResource c =
    let is = c.requires.kind ∙ ap (λ (x : ResourceService). kind.Call (call.Resource x c.args.resource)) c.in-GetResource.is in
    ok_list (AreCasesOf c.args.app.now (runner_point c.args.runner c.args.block)) _ _ c.get_cases.result c.get_cases.ensures
    (ap (λ (x : Block). get_cases c.args.app.now c.args.runner x.next c.args.resource) c.block.ensures)
    (all_gets c.args.app.now c.args.block c.args.resource c.args.runner c.requires.owns is)

pub returns-in-ReleaseResource : goal.returns-in-ReleaseResource
returns-in-ReleaseResource c =
    let is = c.requires.kind ∙ ap (λ (x : ResourceService). kind.Call (call.Resource x c.args.resource)) c.in-ReleaseResource.is in
    ok_list (AreCasesOf c.args.app.now (runner_point c.args.runner c.args.block)) _ _ c.release_cases.result c.release_cases.ensures
    (ap (λ (x : Block). release_cases c.args.app.now c.args.runner x.next c.args.resource) c.block.ensures)
    (all_releases c.args.app.now c.args.block c.args.resource c.args.runner c.requires.owns is)
