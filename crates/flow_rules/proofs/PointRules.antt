-- The rules of a point: arrivals, and then those of each effect in turn.
use Rattle.std.proofs.Common.{◌≡◌, ℕ, ◌+◌, ◌<◌, Bool, List, [], ◌∷◌, ◌++◌, length, map, take, refl, sym, ap, subst, ◌∙◌, inl, inr, arith, get_or}
use Rattle.std.specs.Prelude.{Contains, ⊤}
use Rattle.std.proofs.lemmas.List.{take_more}
use Rattle.osek_values.specs.declared.event.Event.TheVariants.{Run, Irq, Tick}
use Rattle.osek_standard.specs.declared.{app.App.{App}, state.{State.{State}, Processor.{Processor}}}
use Rattle.osek_standard.specs.declared.state.Processor.TheVariants as processor
use Rattle.osek_standard.specs.declared.point.Point.{Point}
use Rattle.osek_standard.specs.declared.point.Point.TheVariants as point
use Rattle.osek_standard.specs.{Points.{point_at, IsPoint}, States.{place_by}, Outcomes.{Mark, Silent, Arrived, Did, shows}, Well.{IsActive}}
use Rattle.osek_standard.proofs.Members.{among_left, among_right, among_cases, among_contained, contained_among, among_map, map_among}
use Rattle.abstract_state.specs.{declared.{table.PlainEntry.{PlainEntry}}}
use Rattle.abstract_state.proofs.MarkLaws.{shown_instruction, shown_arrival}
use Rattle.flow_model.specs.{declared.{case.{EffectCase.{EffectCase}, OutcomeCase.{OutcomeCase}}, rule.Rule.{Rule}, runner.Runner.{Runner}}, Runners.{Executes, IsNobodys}}
use Rattle.flow_model.specs.{Effects.{AreAllAllowed, IsAt}, Scheduling.{CoverOutcomes, AreExactOutcomes}, Rules.{IsMatched, Foresees, Covering, Exact}}
use Rattle.flow_exits.specs.Arrivals.{AreArrivals}
use Rattle.flow_exits.proofs.Arriving.{arrival_covered, arrival_shown}
use Rattle.point_exits.proofs.PassivePoints.{allowed_values, passive_by}
use Rattle.flow_rules.specs.{Assembly.{rule_of, HasRulesFor, AreAdded, AreAllAdded}, Instructions.{AddsInstructionRules}}
use Rattle.flow_rules.proofs.Assembling.{instruction_covered, instruction_foreseen, instruction_shown}

-- the rules of one effect, one for each outcome, at the end of others
pub outcomes_added : (app : App) (p : Point) (entry : PlainEntry) (effect : EffectCase) (outcomes : List OutcomeCase) (before after : List Rule) → after ≡ before ++ map (rule_of app effect) outcomes →
    CoverOutcomes app p entry effect outcomes → AreExactOutcomes app p entry effect outcomes → AreAdded app p entry effect before after
outcomes_added app p entry effect outcomes before after is covering exact = record {
  kept = λ r m. subst (λ (xs : List Rule). Contains xs r) (sym is) (among_contained whole r (among_left r before (map (rule_of app effect) outcomes) (contained_among before r m)));
  each = λ r m. elim (among_cases r before (map (rule_of app effect) outcomes) (contained_among whole r (subst (λ (xs : List Rule). Contains xs r) is m))) [
    | inl old ↦ inl (among_contained before r old)
    | inr new ↦
        (let x = map_among (rule_of app effect) r outcomes new in
        inr (record { outcome = x.0; is = x.2; exact = λ value values first second. exact x.0 value (among_contained outcomes x.0 x.1) values first second }))
  ];
  some = λ value d values passes decides. (let x = covering value d values passes decides in record {
    outcome = x.case;
    listed = subst (λ (xs : List Rule). Contains xs (rule_of app effect x.case)) (sym is) (among_contained whole (rule_of app effect x.case) (among_right (rule_of app effect x.case) before (map (rule_of app effect) outcomes) (among_map (rule_of app effect) x.case outcomes (contained_among outcomes x.case x.listed))));
    decision = x.decision;
    is = x.outcome;
  });
}
  where
    whole : List Rule
    whole = before ++ map (rule_of app effect) outcomes

pub none_added : (app : App) (p : Point) (entry : PlainEntry) (rules : List Rule) → AreAllAdded app p entry [] rules rules
none_added app p entry rules = record { kept = λ r m. m; each = λ r m. inl m; some = λ effect m. absurd (omega (arith, m.1)) }

-- the rules of one effect more
pub more_added : (app : App) (p : Point) (entry : PlainEntry) (effects : List EffectCase) (effect : EffectCase) (before mid after : List Rule) → AreAllAdded app p entry effects before mid → AreAdded app p entry effect mid after → AreAllAdded app p entry (effects ++ effect ∷ []) before after
more_added app p entry effects effect before mid after h more = record {
  kept = λ r m. more.kept r (h.kept r m);
  each = λ r m. elim (more.each r m) [
    | inl old ↦ elim (h.each r old) [
      | inl first ↦ inl first
      | inr x ↦ inr (record { effect = x.effect; listed = among_contained (effects ++ effect ∷ []) x.effect (among_left x.effect effects (effect ∷ []) (contained_among effects x.effect x.listed)); is = x.is })
    ]
    | inr new ↦ inr (record { effect = effect; listed = among_contained (effects ++ effect ∷ []) effect (among_right effect effects (effect ∷ []) (inl refl)); is = new })
  ];
  some = λ x m. elim (among_cases x effects (effect ∷ []) (contained_among (effects ++ effect ∷ []) x m)) [
    | inl old ↦ still x (h.some x (among_contained effects x old))
    | inr last ↦ elim last [
      | inl same ↦ subst (λ (y : EffectCase). HasRulesFor app p entry y after) (sym same) more.some
      | inr none ↦ absurd none
    ]
  ];
}
  where
    still : (x : EffectCase) → HasRulesFor app p entry x mid → HasRulesFor app p entry x after
    still x has value d values passes decides =
        let r = has value d values passes decides in
        record { outcome = r.outcome; listed = more.kept (rule_of app x r.outcome) r.listed; decision = r.decision; is = r.is }

pub added_on : (app : App) (p : Point) (entry : PlainEntry) (effects : List EffectCase) (i : ℕ) (effect : EffectCase) (before mid after : List Rule) → i < length effects → get_or effects i effect ≡ effect →
    AreAllAdded app p entry (take i effects) before mid → AreAdded app p entry effect mid after → AreAllAdded app p entry (take (i + 1) effects) before after
added_on app p entry effects i effect before mid after lt is h more =
    let last : take (i + 1) effects ≡ take i effects ++ effect ∷ [] = take_more effects i effect lt ∙ ap (λ (x : EffectCase). take i effects ++ x ∷ []) is in
    subst (λ (xs : List EffectCase). AreAllAdded app p entry xs before after) (sym last) (more_added app p entry (take i effects) effect before mid after h more)

-- a task or a routine executes there
abbrev pub IsExecuting : Point → Type 0
IsExecuting point.Halted = ⊥
IsExecuting point.Idle = ⊥
IsExecuting (point.Task b) = ⊤
IsExecuting (point.Routine b over) = ⊤

pub executes_there : (app : App) (p : Point) (r : Runner) → Executes app p r → IsExecuting p
executes_there app point.Halted r h = absurd h
executes_there app point.Idle r h = absurd h
executes_there app (point.Task b) r h = tt
executes_there app (point.Routine b over) r h = tt

active_by : (s : State) (x : Processor) (p : Point) → point_at (place_by s x).block x ≡ p → IsExecuting p → IsActive x
active_by s processor.Halted p e h = subst IsExecuting (sym e) h
active_by s processor.Idle p e h = subst IsExecuting (sym e) h
active_by s (processor.Running t) p e h = tt
active_by s (processor.Interrupted k over) p e h = tt

module _ (app : App) (p : Point) (entry : PlainEntry) (arrivals : List Rule) (a : AreArrivals app p arrivals) where
  -- ---- arrivals alone

  passive_by_mark : (s : State) (choice : Bool) → IsNobodys p → IsAt app p entry s → (shows app s (Run choice) ≡ Silent → ⊥) → (m : Mark) → shows app s (Run choice) ≡ m → IsMatched app arrivals s (Run choice)
  passive_by_mark s choice h at loud Silent e = absurd (loud e)
  passive_by_mark s choice h at loud Arrived e = (let k = shown_arrival app s (Run choice) e in arrival_covered app s at.well at.regular p arrivals (Run choice) a at.point k.source k.arrives choice refl)
  passive_by_mark s choice h at loud (Did o x) e = absurd (passive_by s s.processor p at.point h (shown_instruction app s (Run choice) o x e).active)

  pub passive_covering : IsNobodys p → Covering app p entry arrivals
  passive_covering h s (Run choice) at loud = passive_by_mark s choice h at loud (shows app s (Run choice)) refl
  passive_covering h s (Irq i) at loud = absurd (loud refl)
  passive_covering h s (Tick c) at loud = absurd (loud refl)

  -- nobody's instructions are foreseen
  pub passive_foresees : IsNobodys p → Foresees app p entry arrivals
  passive_foresees h s choice at active = absurd (passive_by s s.processor p at.point h active)

  -- ---- and instructions

  module _ (rules : List Rule) (i : AddsInstructionRules app p entry arrivals rules) where
    by_mark : (s : State) (choice : Bool) → IsAt app p entry s → (shows app s (Run choice) ≡ Silent → ⊥) → (m : Mark) → shows app s (Run choice) ≡ m → IsMatched app rules s (Run choice)
    by_mark s choice at loud Silent e = absurd (loud e)
    by_mark s choice at loud Arrived e =
        let k = shown_arrival app s (Run choice) e in
        let m = arrival_covered app s at.well at.regular p arrivals (Run choice) a at.point k.source k.arrives choice refl in
        record { rule = m.rule; listed = i.added.kept m.rule m.listed; matches = m.matches }
    by_mark s choice at loud (Did o x) e = instruction_covered app p entry i.effects arrivals rules i.added i.stays i.covering s (Run choice) o x at (shown_instruction app s (Run choice) o x e) e

    pub executing_covering : Covering app p entry rules
    executing_covering s (Run choice) at loud = by_mark s choice at loud (shows app s (Run choice)) refl
    executing_covering s (Irq k) at loud = absurd (loud refl)
    executing_covering s (Tick c) at loud = absurd (loud refl)

    pub executing_foresees : Foresees app p entry rules
    executing_foresees s choice at active = instruction_foreseen app p entry i.effects arrivals rules i.added i.covering s choice at active

    pub executing_exact : IsPoint app p → IsExecuting p → AreAllAllowed app p entry → Exact app p entry rules
    executing_exact is h allowed rule value m within passes = elim (i.added.each rule m) [
      | inl old ↦ arrival_shown app p rule value is (allowed_values app p entry allowed value within) (a.each rule old) passes
      | inr new ↦ instruction_shown app p entry i.effects arrivals rules i.added i.stays allowed (λ s w e. active_by s s.processor p e h) (i.exact allowed) rule value new within passes
    ]
