-- Where no read or write fails, the answer is the one that is due, or memory ran out.
use Rattle.std.proofs.Common.{◌≡◌, ℕ, ◌<◌, ◌≤◌, List, [], ◌++◌, Bool, true, false, length, refl, sym, ◌∙◌, ap, subst, inl, inr, ⊎_elim, Some, None, Ok, Err, arith, nat_lt, nat_le}
use Rattle.std.proofs.lemmas.Bool.Decides.{nat_tests}
use Rattle.std.specs.{Prelude.{◌⊎◌}, FinMap.{get}, declared.{option.Option.{Option}, result.Result.{Result}}}
use Rattle.osek_values.specs.declared.{event.Event.{Event}, limits.TheConstants.{MAX_EVENT_TEXT, MAX_TABLE}, numbers.ModeNo.{ModeNo}}
use Rattle.osek_standard.specs.{declared.app.App.{App}, TraceText.{kernel_trace}}
use Rattle.oil_system.specs.declared.system.System.{System}
use Rattle.front_end.specs.Texts.{DeclaresSystem}
use Rattle.image_model.specs.{declared.image.Image.{Image}, ImageTrace.{has_trap, image_run}}
use Rattle.trace_text.specs.{EventText.{Reading, fault_at, read_text}, declared.fault.EventFault.TheVariants.{E4}}
use Rattle.osek_io.specs.{Counts.{ReadFaults}, Files.{Files}, Sunk.{Sunk}}
use Rattle.commands.specs.Answering.{CommandAnswers}
use Rattle.commands.specs.Building as building
use Rattle.commands.specs.Compiling.{SystemStops, CodeStops, CompileStops, OfApp}
use Rattle.commands.specs.Due.{IsCalm, RunDue, no_mode, no_events, ends, ImageDue, no_image, bad_image, is_read, ImageRuns, InfoDue, Upgrades, upgrade_end, TextsDue, no_oil, bad_oil, no_code, bad_code, goes_on, IsBuilt, IsDue}
use Rattle.commands.specs.Due.{no_table, bad_table, is_table, CheckDue, agreed, denied, ImageIsJudged, certify_end, IsCertifiedBy, WatchDue, no_record, too_long, is_watched}
use Rattle.abstract_state.specs.declared.table.PlainTable.{PlainTable}
use Rattle.commands.specs.Generating as generating
use Rattle.command_runs.specs.Inputs.{over_limit, unread, faulty, no_memory}
use Rattle.commands.specs.Certifying as certifying
use Rattle.commands.specs.Checking as checking
use Rattle.commands.specs.Informing as informing
use Rattle.command_runs.specs.Outside.{Outside, beside}
use Rattle.command_runs.specs.Replaying as replaying
use Rattle.command_runs.specs.Running as running
use Rattle.command_runs.specs.{Inputs.{OfFile}, Running.{end_of, RunAnswers}, Shown.{shown_trace}, declared.showing.Showing.{Showing}}
use Rattle.command_runs.specs.declared.showing.Showing.TheVariants as showing_of
use Rattle.commands.specs.Reporting as reporting
use Rattle.commands.specs.Showing as showing
use Rattle.commands.specs.Printing.{PrintAnswers}
use Rattle.commands.specs.Tracing as tracing
use Rattle.command_runs.specs.Upgrading as upgrading
use Rattle.commands.specs.Watching as watching
use Rattle.commands.specs.Words.{Command, Build, Replay, Trace, Show, Report, Info, Gen, Upgrade, Certify, Check, Record, Watch}
use Rattle.command_runs.specs.declared.stop.{Input.TheVariants.{Events}, Stop.{Stop}}
use Rattle.command_runs.specs.declared.stop.Stop.TheVariants as stop

-- memory ran out, or P is true of the answer
abbrev OrMemory : (Result (Unit {0}) Stop → Type 0) → Result (Unit {0}) Stop → Type 0
OrMemory P r = (r ≡ Err stop.Memory) ⊎ P r

-- over its limit a text has no event, so there is no trap
pub over_ends : (app : App) (traps : ModeNo → List Event → Bool) (m : ModeNo) (text : List ℕ) → traps m [] ≡ false → MAX_EVENT_TEXT < length text →
    end_of (traps m (read_text app text).events) (read_text app text).fault ≡ Err (over_limit Events)
over_ends app traps m text none over =
    let long : nat_lt MAX_EVENT_TEXT (length text) ≡ true = grind (arith, nat_tests) in
    let reads : read_text app text ≡ fault_at 0 E4 = rw long refl in
    ap (λ (r : Reading). end_of (traps m r.events) r.fault) reads ∙ ap (λ (b : Bool). end_of b (fault_at 0 E4).fault) none

module _ (files : Files) (after : Outside) (reads : ReadFaults) (writes : ℕ) (out : Sunk) where
  abbrev before : Outside
  before = beside (record { files = Some files; reads = reads; writes = writes }) out

  module _ (calm : IsCalm before after) where
    run_due : (app : App) (trace : ModeNo → List Event → List ℕ) (traps : ModeNo → List Event → Bool) (mode events : List ℕ) → ((m : ModeNo) → traps m [] ≡ false) → (r : Result (Unit {0}) Stop) →
        RunAnswers before after app trace traps mode events r → OrMemory (RunDue files app traps mode events) r
    run_due app trace traps mode events starts _ (running.no_mode none same) = inr (no_mode none)
    run_due app trace traps mode events starts _ (running.stops m s named (unread (inl (at, rose))) same) = absurd (calm.reads events at rose)
    run_due app trace traps mode events starts _ (running.stops m s named (unread (inr missing)) same) = inr (no_events m named missing)
    run_due app trace traps mode events starts _ (running.stops m s named (faulty u (text, holds, over)) same) =
        inr (subst (RunDue files app traps mode events) (over_ends app traps m text (starts m) over) (ends m text named holds))
    run_due app trace traps mode events starts _ (running.stops m s named no_memory same) = inl refl
    run_due app trace traps mode events starts _ (running.plays m r named same (text, holds, (within, inl (is, prints)))) = inr (subst (RunDue files app traps mode events) (sym is) (ends m text named holds))
    run_due app trace traps mode events starts _ (running.plays m r named same (text, holds, (within, inr (is, (rose, prefix))))) = absurd (calm.out rose)
    run_due app trace traps mode events starts _ (running.unread_on m named (text, holds, (within, behind))) = absurd (calm.reads events (length (behind.lines ++ behind.begun)) behind.unread)

    image_starts : (i : Image) (m : ModeNo) → has_trap i m [] ≡ false
    unfolding image_run
    image_starts i m = refl

    module _ (image : List ℕ) (Next : Image → Result (Unit {0}) Stop → Type 0) where
      image_stops : (s : Stop) → replaying.ImageStops before.shelf after.shelf image s → OrMemory (ImageDue files image Next) (Err s)
      image_stops _ (unread (inl (at, rose))) = absurd (calm.reads image at rose)
      image_stops _ (unread (inr missing)) = inr (no_image missing)
      image_stops _ (faulty f (bytes, holds, first)) = inr (bad_image bytes f holds first)
      image_stops _ no_memory = inl refl

      of_image : (P : Image → Type 0) (r : Result (Unit {0}) Stop) → ((i : Image) → P i → OrMemory (Next i) r) → replaying.OfImage (Some files) image P → OrMemory (ImageDue files image Next) r
      of_image P r next (bytes, holds, (i, spells, p)) = ⊎_elim inl (λ due. inr (is_read bytes i r holds spells due)) (next i p)

    replay_due : (w : Showing) (image mode events : List ℕ) (r : Result (Unit {0}) Stop) → replaying.ReplayAnswers w before after image mode events r → OrMemory (ImageDue files image (ImageRuns files mode events)) r
    replay_due w image mode events _ (replaying.stops s h same) = image_stops image _ s h
    replay_due w image mode events _ (replaying.runs r h) = of_image image _ _ r (λ i answers. run_due i.app (shown_trace w i) (has_trap i) mode events (image_starts i) r answers) h

    -- what is printed without a fault is printed to its end
    printed_due : (text : List ℕ) (r : Result (Unit {0}) Stop) → PrintAnswers before after text r → r ≡ Ok tt
    printed_due text r (inl h) = h.0
    printed_due text r (inr h) = absurd (calm.out h.1.0)

    info_due : (image : List ℕ) (r : Result (Unit {0}) Stop) → informing.InfoAnswers before after image r → OrMemory (ImageDue files image InfoDue) r
    info_due image _ (informing.stops s h same) = image_stops image InfoDue s h
    info_due image _ (informing.tells r h) = of_image image InfoDue _ r (λ i answers. inr (printed_due _ r answers)) h

    upgrade_due : (image upgraded : List ℕ) (r : Result (Unit {0}) Stop) → upgrading.UpgradeAnswers before after image upgraded r → OrMemory (ImageDue files image Upgrades) r
    upgrade_due image upgraded _ (upgrading.stops s h same) = image_stops image Upgrades s h
    upgrade_due image upgraded _ (upgrading.already h same) = of_image image Upgrades _ (Err stop.AlreadyNew) (λ i new. inr (sym (ap upgrade_end new))) h
    upgrade_due image upgraded _ (upgrading.fails rose h) = absurd (calm.writes rose)
    upgrade_due image upgraded _ (upgrading.stores same h) = of_image image Upgrades _ (Ok tt) (λ i stored. inr (sym (ap upgrade_end stored.1.upgraded.was_one))) h

    module _ (oil code : List ℕ) (Next : App → Result (Unit {0}) Stop → Type 0) where
      abbrev Due : Result (Unit {0}) Stop → Type 0
      Due = OrMemory (TextsDue files oil code Next)

      oil_stops : (s : Stop) → SystemStops before.shelf after.shelf oil s → Due (Err s)
      oil_stops _ (unread (inl (at, rose))) = absurd (calm.reads oil at rose)
      oil_stops _ (unread (inr missing)) = inr (no_oil missing)
      oil_stops _ (faulty r (text, holds, first)) = inr (bad_oil text r holds first)
      oil_stops _ no_memory = inl refl

      code_stops : (text : List ℕ) → get files oil ≡ Some text → (system : System) → DeclaresSystem text system → (s : Stop) → CodeStops before.shelf after.shelf system code s → Due (Err s)
      code_stops text holds system declares _ (unread (inl (at, rose))) = absurd (calm.reads code at rose)
      code_stops text holds system declares _ (unread (inr missing)) = inr (no_code text system holds declares missing)
      code_stops text holds system declares _ (faulty r (code_text, code_holds, first)) = inr (bad_code text system code_text r holds declares code_holds first)
      code_stops text holds system declares _ no_memory = inl refl

      texts_stop : (s : Stop) → CompileStops before.shelf after.shelf oil code s → Due (Err s)
      texts_stop s (inl h) = oil_stops s h
      texts_stop s (inr (text, holds, (system, declares, h))) = code_stops text holds system declares s h

      of_app : (P : App → Type 0) (r : Result (Unit {0}) Stop) → ((app : App) → P app → OrMemory (Next app) r) → OfApp (Some files) oil code P → Due r
      of_app P r next (text, holds, (system, declares, (code_text, code_holds, (app, gives, p)))) =
          ⊎_elim inl (λ due. inr (goes_on text system code_text app r holds declares code_holds gives due)) (next app p)

    build_due : (oil code image : List ℕ) (r : Result (Unit {0}) Stop) → building.BuildAnswers before after oil code image r → OrMemory (TextsDue files oil code IsBuilt) r
    build_due oil code image _ (building.stops s h same) = texts_stop oil code IsBuilt s h
    build_due oil code image _ (building.fails rose h) = absurd (calm.writes rose)
    build_due oil code image _ (building.stores same h) = of_app oil code IsBuilt _ (Ok tt) (λ app stored. inr refl) h

    trace_due : (oil code mode events : List ℕ) (r : Result (Unit {0}) Stop) → tracing.TraceAnswers before after oil code mode events r →
        OrMemory (TextsDue files oil code (λ app. RunDue files app tracing.never mode events)) r
    trace_due oil code mode events _ (tracing.stops s h same) = texts_stop oil code _ s h
    trace_due oil code mode events _ (tracing.runs r h) = of_app oil code _ _ r (λ app answers. run_due app (kernel_trace app) tracing.never mode events (λ m. refl) r answers) h

    show_due : (oil code : List ℕ) (r : Result (Unit {0}) Stop) → showing.ShowAnswers before after oil code r → OrMemory (TextsDue files oil code IsBuilt) r
    show_due oil code _ (showing.stops s h same) = texts_stop oil code IsBuilt s h
    show_due oil code _ (showing.tells r h) = of_app oil code IsBuilt _ r (λ app told. inr (printed_due _ r told.2)) h

    report_due : (oil code : List ℕ) (r : Result (Unit {0}) Stop) → reporting.ReportAnswers before after oil code r → OrMemory (TextsDue files oil code IsBuilt) r
    report_due oil code _ (reporting.stops s h same) = texts_stop oil code IsBuilt s h
    report_due oil code _ (reporting.tells r h) = of_app oil code IsBuilt _ r (λ app told. inr (printed_due _ r told.2)) h

    gen_due : (seed tasks : ℕ) (r : Result (Unit {0}) Stop) → generating.GenAnswers before after seed tasks r → OrMemory (λ (x : Result (Unit {0}) Stop). x ≡ Ok tt) r
    gen_due seed tasks _ (generating.no_memory same) = inl refl
    gen_due seed tasks _ (generating.tells r (text, holds, (system, declares, (code_text, code_holds, (app, gives, (events, events_hold, (line, told, prints))))))) = inr (printed_due line r prints)

    -- the end of `certify` by the length of its table's bytes
    within_end : (n : ℕ) → n ≤ MAX_TABLE → Ok tt ≡ certify_end n
    within_end n within = let is : nat_le n MAX_TABLE ≡ true = grind (arith, nat_tests) in rw is refl

    over_end : (n : ℕ) → MAX_TABLE < n → Err stop.TooLong ≡ certify_end n
    over_end n over = let is : nat_le n MAX_TABLE ≡ false = grind (arith, nat_tests) in rw is refl

    over_certified : (app : App) → certifying.IsTableTooLong app → IsCertifiedBy app (Err stop.TooLong)
    over_certified app (table, least, over) = record { table = table; least = least; end = over_end _ over }

    -- what is stored without a fault is stored to its end
    stored_due : (image table image_bytes table_bytes : List ℕ) (r : Result (Unit {0}) Stop) → certifying.StoreAnswers before.shelf after.shelf image table image_bytes table_bytes r → r ≡ Ok tt
    stored_due image table a b _ (certifying.image_fails rose h) = absurd (calm.writes rose)
    stored_due image table a b _ (certifying.table_fails rose h) = absurd (calm.writes rose)
    stored_due image table a b _ (certifying.stored same h) = refl

    certified_due : (image table : List ℕ) (r : Result (Unit {0}) Stop) (app : App) → certifying.StoresCertified before.shelf after.shelf image table r app → IsCertifiedBy app r
    certified_due image table r app (i, t, made, answers) = record { table = t; least = made.least; end = stored_due image table _ _ r answers ∙ within_end _ made.within }

    certify_due : (oil code image table : List ℕ) (r : Result (Unit {0}) Stop) → certifying.CertifyAnswers before after oil code image table r → OrMemory (TextsDue files oil code IsCertifiedBy) r
    certify_due oil code image table _ (certifying.stops s h same) = texts_stop oil code IsCertifiedBy s h
    certify_due oil code image table _ (certifying.too_long h same) = of_app oil code IsCertifiedBy _ (Err stop.TooLong) (λ app long. inr (over_certified app long)) h
    certify_due oil code image table _ (certifying.stores r h) = of_app oil code IsCertifiedBy _ r (λ app stored. inr (certified_due image table r app stored)) h

    table_stops : (table : List ℕ) (i : Image) (s : Stop) → checking.TableStops before.shelf after.shelf table i.app s → OrMemory (ImageIsJudged files table i) (Err s)
    table_stops table i _ (unread (inl (at, rose))) = absurd (calm.reads table at rose)
    table_stops table i _ (unread (inr missing)) = inr (no_table missing)
    table_stops table i _ (faulty f (bytes, holds, first)) = inr (bad_table bytes f holds first)
    table_stops table i _ no_memory = inl refl

    of_table : (table : List ℕ) (i : Image) (P : PlainTable → Type 0) (r : Result (Unit {0}) Stop) → ((t : PlainTable) → P t → CheckDue i t r) → checking.OfTable (Some files) table i.app P → OrMemory (ImageIsJudged files table i) r
    of_table table i P r next (bytes, holds, (t, spells, p)) = inr (is_table bytes t r holds spells (next t p))

    check_due : (image table : List ℕ) (r : Result (Unit {0}) Stop) → checking.CheckAnswers before after image table r → OrMemory (ImageDue files image (ImageIsJudged files table)) r
    check_due image table _ (checking.no_image s h same) = image_stops image _ s h
    check_due image table _ (checking.no_table s h same) = of_image image _ _ (Err s) (λ i stops. table_stops table i s stops) h
    check_due image table _ (checking.denied d h same) = of_image image _ _ (Err (stop.Denied d)) (λ i of. of_table table i _ (Err (stop.Denied d)) (λ t is. denied d is) of) h
    check_due image table _ (checking.agreed r h prints) =
        subst (OrMemory (ImageDue files image (ImageIsJudged files table))) (sym (printed_due _ r prints)) (of_image image _ _ (Ok tt) (λ i of. of_table table i _ (Ok tt) (λ t is. agreed is) of) h)

    record_due : (points : List ℕ) (app : App) (s : Stop) → watching.RecordStops before.shelf after.shelf points s → OrMemory (WatchDue files points app) (Err s)
    record_due points app _ (unread (inl (at, rose))) = absurd (calm.reads points at rose)
    record_due points app _ (unread (inr missing)) = inr (no_record missing)
    record_due points app _ (faulty u (text, holds, over)) = inr (too_long text holds over)
    record_due points app _ no_memory = inl refl

    watched_due : (points : List ℕ) (app : App) (r : Result (Unit {0}) Stop) → OfFile (Some files) points (λ text. watching.Watches before.out after.out app text r) → WatchDue files points app r
    watched_due points app r (text, holds, h) =
        ⊎_elim (λ printed. subst (WatchDue files points app) (sym printed.0) (is_watched text h.table h.play holds h.within h.least h.watched)) (λ broken. absurd (calm.out broken.1.0)) h.prints

    watch_due : (oil code points : List ℕ) (r : Result (Unit {0}) Stop) → watching.WatchAnswers before after oil code points r → OrMemory (TextsDue files oil code (WatchDue files points)) r
    watch_due oil code points _ (watching.stops s h same) = texts_stop oil code _ s h
    watch_due oil code points _ (watching.no_record s h same) = of_app oil code _ _ (Err s) (λ app stops. record_due points app s stops) h
    watch_due oil code points _ (watching.watches r h) = of_app oil code _ _ r (λ app of. inr (watched_due points app r of)) h

    pub command_due : (command : Option Command) (r : Result (Unit {0}) Stop) → CommandAnswers before after command r → OrMemory (IsDue files command) r
    command_due None r h = ⊎_elim inr inl h.0
    command_due (Some (Build oil code image)) r h = build_due oil code image r h.0
    command_due (Some (Replay image mode events)) r h = replay_due showing_of.Trace image mode events r h.0
    command_due (Some (Trace oil code mode events)) r h = trace_due oil code mode events r h.0
    command_due (Some (Show oil code)) r h = show_due oil code r h.0
    command_due (Some (Report oil code)) r h = report_due oil code r h.0
    command_due (Some (Info image)) r h = info_due image r h.0
    command_due (Some (Gen seed tasks)) r h = gen_due seed tasks r h.0
    command_due (Some (Upgrade image upgraded)) r h = upgrade_due image upgraded r h.0
    command_due (Some (Certify oil code image table)) r h = certify_due oil code image table r h.0
    command_due (Some (Check image table)) r h = check_due image table r h.0
    command_due (Some (Record image mode events)) r h = replay_due showing_of.Points image mode events r h.0
    command_due (Some (Watch oil code points)) r h = watch_due oil code points r h.0
