use Rattle.std.proofs.Common.{◌≡◌, ℕ, Bool, true, not, List, [], ◌∷◌, ◌++◌, map, sym, ap, ◌∙◌}
use Rattle.std.specs.Prelude.{◌==◌, if◌then◌else◌, bit_and}
use Rattle.std.proofs.lemmas.Result.{on_ok_weaker}
use Rattle.osek_values.specs.declared.status.Status.TheVariants as status
use Rattle.osek_standard.specs.{declared.objects.Task.{Task}, Apps.{the_task, is_extended}}
use Rattle.flow_model.specs.declared.{case.EffectCase.{EffectCase}, test.Condition.{Condition}, release.Releases.{Releases}}
use Rattle.flow_model.specs.declared.test.Test.TheVariants as test
use Rattle.flow_model.specs.Cases.{condition}
use Rattle.flow_services.specs.{Occasions.{ServiceCase, case_at, refused_case}, Services.{always, releases, not_awaiting, settings, waking}}
use Rattle.flow_services.proofs.{ListLaws.{three_cases}, NamedEvents.{named, named_own}}
use Rattle.flow_services.proofs.events.add_event_settings.Goals as goal

pub not_awaiting-requires-clause-own : goal.not_awaiting-requires-clause-own
not_awaiting-requires-clause-own c = named_own (the_task c.args.app.now c.args.task.0) c.task.result.now c.args.mask.0 c.and-events.result c.task.ensures c.and-events.ensures

pub waking-requires-clause-own : goal.waking-requires-clause-own
waking-requires-clause-own c = named_own (the_task c.args.app.now c.args.task.0) c.task.result.now c.args.mask.0 c.and-events.result c.task.ensures c.and-events.ensures

pub returns : goal.returns
returns c =
    let app = c.args.app.now in
    let o = c.args.occasion in
    let t = c.args.task.0 in
    let old = c.args.cases.now in
    let events = c.and-events.result.0 in
    let all = c.in_ok-releases.releases in
    let extended : is_extended app t ≡ true = ap (λ (x : Task). not (x.own.0 == 0)) c.task.ensures ∙ ap not (sym c.is_empty.ensures ∙ c.if-is_empty.false) in
    let gone : ServiceCase = refused_case (condition t test.Suspended ∷ []) status.State in
    let first : c.push-2.new.self ≡ old ++ case_at o gone ∷ [] =
    c.in_ok-push.ensures.ok
    ∙ ap (λ (x : EffectCase). old ++ x ∷ [])
    (c.in_ok-refused-2.ensures ∙ ap (λ (xs : List Condition). case_at o (refused_case xs status.State)) (c.in_ok-suspended.ensures ∙ ap (λ (n : ℕ). condition n test.Suspended ∷ []) c.task_component.ensures)) in
    let second : c.push-3.new.self ≡ c.push-2.new.self ++ case_at o (not_awaiting app t events all) ∷ [] =
    c.in_ok-push-2.ensures.ok ∙ ap (λ (x : EffectCase). c.push-2.new.self ++ x ∷ []) c.in_ok-not_awaiting.ensures in
    on_ok_weaker c.push-4.result
    (λ (third : c.push-4.new.self ≡ c.push-3.new.self ++ c.in_ok-released.released ∷ []).
    three_cases (case_at o) old c.push-2.new.self c.push-3.new.self c.push-4.new.self gone (not_awaiting app t events all) (waking app t events all) first second
    (third ∙ ap (λ (x : EffectCase). c.push-3.new.self ++ x ∷ []) c.in_ok-released.ensures)
    ∙ ap (λ (r : Releases). old ++ map (case_at o) (settings app t events r)) c.in_ok-releases.ensures
    ∙ ap (λ (n : ℕ). old ++ map (case_at o) (settings app t n (releases app n t))) (named (the_task app t) c.task.result.now c.args.mask.0 c.and-events.result c.task.ensures c.and-events.ensures)
    ∙ ap (λ (b : Bool). old ++ map (case_at o) (if b then settings app t (bit_and c.args.mask.0 (the_task app t).own.0) (releases app (bit_and c.args.mask.0 (the_task app t).own.0) t) else always (refused_case [] status.Access))) (sym extended))
    c.push-4.ensures.ok
