-- the lines of a time and of a cycle
use Rattle.std.proofs.Common.{◌≡◌, ℕ, List, [], ◌∷◌, sym, ◌∙◌}
use Rattle.std.specs.Prelude.{codes, nat_lt, if◌then◌else◌}
use Rattle.oil_model.specs.{Lines.{sooner, least}, LookUp.{line}, Objects.{maximum, alarm_time, cycle_time}, Rules.{is_off_cycle}}
use Rattle.oil_model.proofs.Leasts.{least_append}
use Rattle.oil_model.proofs.times.late_time_by.Goals as goal

pub returns : goal.returns
returns c =
    let late : List ℕ = if nat_lt (maximum c.args.counter.now) (alarm_time c.args.start.now) then line (codes "ALARMTIME") c.args.start.now c.args.at ∷ [] else [] in
    let off : List ℕ = if is_off_cycle c.args.counter.now (cycle_time c.args.start.now) then line (codes "CYCLETIME") c.args.start.now c.args.at ∷ [] else [] in
    let late_line : c.line_if.result ≡ least late = c.line_if.ensures ∙ (λ i. least (if nat_lt (c.maximum.ensures i) (c.alarm_time.ensures i) then c.line.ensures i ∷ [] else [])) in
    let off_line : c.line_if-2.result ≡ least off = c.line_if-2.ensures ∙ (λ i. least (if (c.is_off_cycle-off.ensures ∙ (λ j. is_off_cycle c.args.counter.now (c.cycle_time.ensures j))) i then c.line-2.ensures i ∷ [] else [])) in
    c.sooner.ensures ∙ (λ i. sooner (late_line i) (off_line i)) ∙ sym (least_append late off)
