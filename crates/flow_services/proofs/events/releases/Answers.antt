use Rattle.std.proofs.Common.{◌≡◌, ℕ, ◌+◌, List, [], ◌∷◌, ◌++◌, map, sym, ap, ◌∙◌, arith}
use Rattle.std.specs.{List.{range_with_len}, declared.option.Option.{Option}}
use Rattle.osek_values.specs.{Numbers.{block_no}, declared.numbers.BlockNo.{BlockNo}}
use Rattle.osek_standard.specs.declared.objects.Task.{Task}
use Rattle.abstract_state.proofs.RangeLaws.{mapped_more}
use Rattle.flow_model.specs.declared.release.Releases.{Releases}
use Rattle.flow_services.specs.Services.{release_at}
use Rattle.flow_services.proofs.events.releases.Goals as goal

abbrev made : List (Option BlockNo) → BlockNo → Releases
made next first = record { first = first; next = next }

pub loop-number-preserved : goal.loop-number-preserved
loop-number-preserved c =
    let first = c.task-own.result.now.first.0 in
    let f : ℕ → Option BlockNo = λ k. release_at c.args.app.now c.args.events.0 (block_no (first + k)) in
    c.in_ok-push.ensures.ok
    ∙ ap (λ (x : Option BlockNo). c.loop-number.next ++ x ∷ []) c.release_at.ensures
    ∙ mapped_more [] c.loop-number.next f c.loop-number.number c.loop-number.invariant

pub returns : goal.returns
returns c =
    let app = c.args.app.now in
    let all : c.loop-number.number ≡ c.task-own.result.now.count = omega arith in
    let f : Task → ℕ → Option BlockNo = λ x k. release_at app c.args.events.0 (block_no (x.first.0 + k)) in
    ap (λ (next : List (Option BlockNo)). made next c.task-own.result.now.first)
    (c.loop-number.invariant ∙ ap (λ (n : ℕ). map (f c.task-own.result.now) (range_with_len 0 n)) all)
    ∙ ap (λ (x : Task). made (map (f x) (range_with_len 0 x.count)) x.first) (sym c.task-own.ensures)
