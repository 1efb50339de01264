-- The lists that code makes are the cases of the block.
use Rattle.std.proofs.Common.{◌≡◌, ◌<◌, true, List, length, map, sym, ap, subst, ◌∙◌, None, IsTrue}
use Rattle.osek_values.specs.declared.numbers.{AlarmNo.{AlarmNo}, BlockNo.{BlockNo}}
use Rattle.osek_standard.specs.declared.{app.App.{App}, block.{Block.{Block}, Kind.{Kind}}}
use Rattle.osek_standard.specs.declared.block.Kind.TheVariants as kind
use Rattle.osek_standard.specs.{declared.call.Call.{Call}, Apps.{tables, the_block}, Validity.{NamesEntries}}
use Rattle.osek_standard.proofs.WellLaws.{own_block, routine_block}
use Rattle.flow_model.specs.declared.{case.{Asked.{Asked}, EffectCase.{EffectCase}}, runner.Runner.{Runner}}
use Rattle.flow_model.specs.declared.runner.Runner.TheVariants as runner
use Rattle.flow_model.specs.{Cases.{asked_after}, Effects.{AreCasesOf}, Runners.{OwnsBlock, runner_point}}
use Rattle.flow_services.specs.{Occasions.{case_at}, Services.{is_service, call_cases, calling, expiries}}
use Rattle.flow_services.proofs.{Calling.{calls_are_cases}, Expiring.{expiries_are_cases}}

-- what a block of the runner's names
pub operands_of : (app : App) (r : Runner) (b : BlockNo) → OwnsBlock app r b → NamesEntries (tables app) (the_block app b.0).kind
operands_of app (runner.Task t) b owns = (own_block app t.0 b.0 owns.0 owns.1).operands
operands_of app (runner.Routine k z over) b owns = (routine_block app k.0 b.0 owns.known owns.own).operands

module _ (app : App) (r : Runner) (b : BlockNo) (owns : OwnsBlock app r b) where
  module _ (service : IsTrue (is_service (the_block app b.0).kind)) (place : Block) (c : Call) (asked : Asked) (there : the_block app b.0 ≡ place) (is : place.kind ≡ kind.Call c) (asks : asked ≡ asked_after app r) where
    kind_is : (the_block app b.0).kind ≡ kind.Call c
    kind_is = ap (λ (x : Block). x.kind) there ∙ is

    -- at the block and with what it asks
    pub call_listed : (cases : List EffectCase) → cases ≡ map (case_at (record { runner = r; next = place.next; asked = asked; expired = None })) (call_cases app r c) → AreCasesOf app (runner_point r b) cases
    call_listed cases h = subst (AreCasesOf app (runner_point r b))
        (ap (λ (x : Block). map (case_at (calling app r x.next)) (call_cases app r c)) there
        ∙ ap (λ (a : Asked). map (case_at (record { runner = r; next = place.next; asked = a; expired = None })) (call_cases app r c)) (sym asks)
        ∙ sym h)
        (calls_are_cases app r b owns c (subst (λ (k : Kind). is_service k ≡ true) kind_is service) kind_is)

  module _ (place : Block) (a : AlarmNo) (there : the_block app b.0 ≡ place) (is : place.kind ≡ kind.Expire a) where
    looks : (the_block app b.0).kind ≡ kind.Expire a
    looks = ap (λ (x : Block). x.kind) there ∙ is

    known : a.0 < length app.alarms
    known = let h : NamesEntries (tables app) (kind.Expire a) = subst (NamesEntries (tables app)) looks (operands_of app r b owns) in h

    pub expiry_listed : (cases : List EffectCase) → cases ≡ expiries app r place.next a.0 → AreCasesOf app (runner_point r b) cases
    expiry_listed cases h = subst (AreCasesOf app (runner_point r b)) (ap (λ (x : Block). expiries app r x.next a.0) there ∙ sym h) (expiries_are_cases app r b owns a.0 known looks)
