-- the first of the latched sources, where the level lets it in
use Rattle.std.proofs.Common.{◌≡◌, ◌∙◌, false, None, Some, sym, length}
use Rattle.std.specs.declared.option.Option.{Option}
use Rattle.osek_values.specs.declared.numbers.SourceNo.{SourceNo}
use Rattle.osek_standard.specs.declared.{app.App.{App}, state.State.{State}}
use Rattle.osek_standard.specs.{States.{is_latched}, Levels.{level}, Arrivals.{arrival, may_arrive, takes_none}}
use Rattle.generic_kernel.specs.Nests.{IsFirstBelow}
use Rattle.generic_kernel.proofs.NestSteps.{each_kept_out, first_found, first_let_in, none_passes}
use Rattle.generic_kernel.proofs.arrivals.arrival.Goals as goal

-- where the processor stands at no locked block
first_of_those : (app : App) (s : State) (o : Option SourceNo) → takes_none app s ≡ false → IsFirstBelow app (may_arrive app s) (length s.latched) o → o ≡ arrival app s
first_of_those app s o unlocked h = rw unlocked (sym (first_found app (may_arrive app s) (length s.latched) o h))

pub returns-in-None : goal.returns-in-None
returns-in-None c =
    let app = c.args.app.now in
    let s = c.args.state.now in
    first_of_those app s None (sym c.takes_none.ensures ∙ c.if-takes_none.false) (none_passes app (is_latched s) (level app s) (length s.latched) c.in-None.ensures)

pub returns-then-is_let_in : goal.returns-then-is_let_in
returns-then-is_let_in c =
    let app = c.args.app.now in
    let s = c.args.state.now in
    let k = c.in-Some.source in
    first_of_those app s (Some k) (sym c.takes_none.ensures ∙ c.if-takes_none.false)
    (first_let_in app (is_latched s) (level app s) (length s.latched) k c.in-Some.ensures (sym c.is_let_in.ensures ∙ c.if-is_let_in.true))

pub returns-else-is_let_in : goal.returns-else-is_let_in
returns-else-is_let_in c =
    let app = c.args.app.now in
    let s = c.args.state.now in
    let k = c.in-Some.source in
    first_of_those app s None (sym c.takes_none.ensures ∙ c.if-takes_none.false)
    (each_kept_out app (is_latched s) (level app s) (length s.latched) k.0 c.in-Some.ensures (sym c.is_let_in.ensures ∙ c.if-is_let_in.false))
