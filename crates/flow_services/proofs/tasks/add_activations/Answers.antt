-- the cases, one after another
use Rattle.std.proofs.Common.{◌≡◌, ℕ, List, [], ◌∷◌, ◌++◌, map, sym, ap, ◌∙◌, Some}
use Rattle.std.proofs.lemmas.List.{map-id}
use Rattle.osek_values.specs.declared.status.Status.TheVariants as status
use Rattle.osek_standard.specs.declared.objects.Task.{Task}
use Rattle.flow_model.specs.declared.{case.EffectCase.{EffectCase}, change.Change.{Change}, test.Condition.{Condition}}
use Rattle.flow_model.specs.declared.test.Test.TheVariants as test
use Rattle.flow_model.specs.{Cases.{condition}, Changes.{activating}}
use Rattle.flow_services.specs.declared.occasion.{Occasion.{Occasion}, Queued.{Queued}}
use Rattle.flow_services.specs.declared.occasion.Queued.TheVariants as queued
use Rattle.flow_services.specs.{Occasions.{ServiceCase, refused_case, accepted_case, begun, case_by, case_at}, Services.{most_activations, further_activations}}
use Rattle.flow_services.proofs.ListLaws.{two_and_mapped}
use Rattle.flow_services.proofs.tasks.add_activations.Goals as goal

-- an accepted call, by its conditions, and by its changes after those that come before it
accepted_by : (o : Occasion) (tests conditions : List Condition) (before all changes : List Change) (q : Queued) (x : EffectCase) → x ≡ case_by o tests all (Some status.Ok) q → tests ≡ conditions → before ≡ begun o → all ≡ before ++ changes →
    x ≡ case_at o (accepted_case conditions changes q)
accepted_by o tests conditions before all changes q x is same first then =
    is
    ∙ ap (λ (cs : List Condition). case_by o cs all (Some status.Ok) q) same
    ∙ ap (λ (xs : List Change). case_by o conditions xs (Some status.Ok) q) (then ∙ ap (λ (xs : List Change). xs ++ changes) first)

pub returns : goal.returns
returns c =
    let app = c.args.app.now in
    let o = c.args.occasion in
    let t = c.args.task.0 in
    let number = c.task_component-component.ensures in
    let most : c.task.result.now.activation ≡ most_activations app t = ap (λ (x : Task). x.activation) (sym c.task.ensures) in
    let limit : ServiceCase = refused_case (condition t (test.Full (most_activations app t)) ∷ []) status.Limit in
    let start : ServiceCase = accepted_case (condition t test.Suspended ∷ []) (activating app t) (queued.Last c.args.task) in
    let full : c.in_ok-full.full ≡ condition t (test.Full (most_activations app t)) ∷ [] =
    c.in_ok-full.ensures ∙ ap (λ (n : ℕ). condition n (test.Full c.task.result.now.activation) ∷ []) number ∙ ap (λ (n : ℕ). condition t (test.Full n) ∷ []) most in
    let free : c.in_ok-free.free ≡ condition t test.Suspended ∷ [] = c.in_ok-free.ensures ∙ ap (λ (n : ℕ). condition n test.Suspended ∷ []) number in
    let first : c.push.new.self ≡ c.args.cases.now ++ case_at o limit ∷ [] =
    c.in_ok-push.ensures.ok ∙ ap (λ (x : EffectCase). c.args.cases.now ++ x ∷ []) (c.in_ok-refused.ensures ∙ ap (λ (xs : List Condition). case_at o (refused_case xs status.Limit)) full) in
    let second : c.push-2.new.self ≡ c.push.new.self ++ case_at o start ∷ [] =
    c.in_ok-push-2.ensures.ok
    ∙ ap (λ (x : EffectCase). c.push.new.self ++ x ∷ []) (accepted_by o _ _ _ _ (activating app t) (queued.Last c.args.task) _ c.in_ok-accepted.ensures free c.in_ok-begun.ensures c.in_ok-add_activating.ensures) in
    two_and_mapped (case_at o) (λ (x : ServiceCase). x) c.args.cases.now c.push.new.self c.push-2.new.self c.add_further_activations.new.cases limit start (further_activations app t) first second
    c.in_ok-add_further_activations.ensures
    ∙ ap (λ (zs : List ServiceCase). c.args.cases.now ++ map (case_at o) (limit ∷ start ∷ zs)) (map-id (further_activations app t))
