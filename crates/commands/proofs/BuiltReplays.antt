-- The image that is built is replayed to the end of the events.
use Rattle.std.proofs.Common.{◌≡◌, List, Bool, false, sym, ◌∙◌, ap, subst, Ok}
use Rattle.std.specs.declared.option.Option.{Option}
use Rattle.osek_values.specs.declared.event.Event.{Event}
use Rattle.osek_standard.specs.declared.app.App.{App}
use Rattle.image_codec.specs.Spelling.{spelling}
use Rattle.image_model.specs.ImageTrace.{has_trap}
use Rattle.trace_text.specs.{EventText.{read_text}, declared.fault.FaultyLine.{FaultyLine}}
use Rattle.commands.specs.Due.{RunDue, ends, is_read}
use Rattle.command_runs.specs.Running.{end_of}
use Rattle.commands.specs.Laws.{WhatIsBuiltReplays}
use Rattle.commands.proofs.NamedModes.{named_known}

pub built_replays : WhatIsBuiltReplays
built_replays files image mode events app i m text kernel stored named given no_fault =
    let es : List Event = (read_text app text).events in
    let fault : Option FaultyLine = (read_text app text).fault in
    let ended : RunDue files app (has_trap i) mode events (end_of (has_trap i m es) fault) = ends m text named given in
    let done : end_of (has_trap i m es) fault ≡ Ok tt =
    ap (λ (b : Bool). end_of b fault) (kernel.runs m es (named_known app mode m named)).no_trap ∙ ap (end_of false) no_fault in
    let over_app : RunDue files app (has_trap i) mode events (Ok tt) = subst (RunDue files app (has_trap i) mode events) done ended in
    is_read (spelling i) i (Ok tt) stored kernel.spelled (subst (λ (a : App). RunDue files a (has_trap i) mode events (Ok tt)) (sym kernel.is) over_app)
