-- What the answer of a service says of the state in which it is called, and of the effect of its instruction.
use Rattle.std.proofs.Common.{◌≡◌, ℕ, ◌<◌, true, List, [], ◌∷◌, length, map, refl, sym, ap, subst, ◌∙◌, inl, inr, get_or-set_same, get_or-set_other, ◌⊎◌, ⊎_elim}
use Rattle.std.specs.Prelude.{if◌then◌else◌, slice_index_or}
use Rattle.std.proofs.lemmas.Bool.{cases_eq}
use Rattle.std.specs.declared.option.Option.{Option}
use Rattle.osek_values.specs.declared.{status.Status.{Status}, numbers.TaskNo.{TaskNo}}
use Rattle.osek_values.specs.declared.status.Ask.TheVariants as ask
use Rattle.osek_values.specs.declared.notes.Value.{Value}
use Rattle.osek_standard.specs.declared.{app.App.{App}, state.{State.{State}, Processor.{Processor}, Source.{Source}}}
use Rattle.osek_standard.specs.declared.state.Source.TheVariants as source
use Rattle.osek_standard.specs.declared.state.Processor.TheVariants as processor
use Rattle.osek_standard.specs.{declared.task_state.{TaskState.{TaskState}, Place.{Place}}, TaskStates.{suspended, is_live}}
use Rattle.osek_standard.specs.{States.{task_state, with_task, place_by, place_in, place_of_source}, Line.{with_line}, Points.{point_at, point_of}, Services.{Answer, answer}}
use Rattle.osek_standard.specs.Well.{Well, IsProcessor}
use Rattle.osek_standard.proofs.Members.{Among, map_among}
use Rattle.abstract_state.specs.Components.{component_count, abstract_of}
use Rattle.flow_model.specs.{declared.{test.Condition.{Condition}, case.EffectCase.{EffectCase}}, Effects.{IsKnownStay, IsLineAfter}, Tests.{PassesAll, value_after}}
use Rattle.flow_model.proofs.LinesAfter.{line_stays}
use Rattle.flow_services.specs.{declared.occasion.Occasion.{Occasion}, Occasions.{ServiceCase, service_case, case_at, last_of, puts_some}}
use Rattle.flow_services.specs.declared.occasion.Queued.TheVariants as queued

-- who has the processor keeps it, and each Live task stands where it stood
pub record Stays (m n : State) : Type 0 where
  pub processor : n.processor ≡ m.processor
  pub sources : n.sources ≡ m.sources
  pub live : (t : ℕ) → is_live (task_state m t) ≡ true → place_in (task_state n t).activity ≡ place_in (task_state m t).activity

pub stays_same : (m : State) → Stays m m
stays_same m = record { processor = refl; sources = refl; live = λ t l. refl }

-- another state of a task that isn't Live, or that stands where it stood
pub stays_with : (m : State) (t : ℕ) (x : TaskState) → t < length m.tasks → (is_live (task_state m t) ≡ true → place_in x.activity ≡ place_in (task_state m t).activity) → Stays m (with_task m t x)
stays_with m t x here kept = record {
  processor = refl;
  sources = refl;
  live = λ u l. elim (cases_eq u t) [
    | inl same ↦ subst (λ (v : ℕ). place_in (task_state (with_task m t x) v).activity ≡ place_in (task_state m v).activity) (sym same)
        (ap (λ (y : TaskState). place_in y.activity) (get_or-set_same m.tasks t x suspended here) ∙ kept (subst (λ (v : ℕ). is_live (task_state m v) ≡ true) same l))
    | inr other ↦ ap (λ (y : TaskState). place_in y.activity) (get_or-set_other m.tasks t u x suspended other)
  ];
}

-- and where the line is another
pub stays_in_line : (m n : State) (line : List TaskNo) → Stays m n → Stays m (with_line n line)
stays_in_line m n line h = record { processor = h.processor; sources = h.sources; live = h.live }

module _ (app : App) (m n : State) (h : Stays m n) where
  place_stays : (p : Processor) → IsProcessor app m p → place_by n p ≡ place_by m p
  place_stays processor.Halted has = refl
  place_stays processor.Idle has = refl
  place_stays (processor.Running t) has = h.live t.0 has.running.1
  place_stays (processor.Interrupted k over) has = ap (λ (xs : List Source). place_of_source (slice_index_or xs k.0 source.Out)) h.sources

  pub point_stays : Well app m → point_of n ≡ point_of m
  point_stays w =
      ap (λ (p : Processor). point_at (place_by n p).block p) h.processor
      ∙ ap (λ (q : Place). point_at q.block m.processor) (place_stays m.processor w.processor)

-- The answer, called in this state, is the case's.
pub record Serves (app : App) (m : State) (x : ServiceCase) (a : Answer) : Type 0 where
  pub parts : (c : ℕ) → c < component_count app → abstract_of app a.state c ≡ value_after x.changes c (abstract_of app m c)
  pub status : a.status ≡ x.status
  pub ask : a.ask ≡ (if puts_some x.queued then ask.Maybe else ask.No)
  pub stays : Stays m a.state
  pub line : IsLineAfter (last_of x.queued) m a.state

-- an answer that changes nothing and asks nothing
pub keeps_serves : (app : App) (m : State) (conditions : List Condition) (e : Option Status) (v : Option Value) → Serves app m (service_case conditions [] e queued.Nothing) (answer m e v ask.No)
keeps_serves app m conditions e v = record { parts = λ c lt. refl; status = refl; ask = refl; stays = stays_same m; line = line_stays m m refl }

-- The cases of a service that is called in the state m, by what its components were in the state s: each whose conditions
-- these pass is the answer's, and they pass those of one.
pub record IsServed (app : App) (s m : State) (xs : List ServiceCase) (a : Answer) : Type 0 where
  pub each : (x : ServiceCase) → Among x xs → PassesAll app x.conditions (abstract_of app s) → Serves app m x a
  pub some : (x : ServiceCase) × Among x xs × PassesAll app x.conditions (abstract_of app s)

-- an answer that is always the same case's
pub always_served : (app : App) (s m : State) (x : ServiceCase) (a : Answer) → PassesAll app x.conditions (abstract_of app s) → Serves app m x a → IsServed app s m (x ∷ []) a
always_served app s m x a passing h = record {
  each = λ y among passes. serves_same y among;
  some = (x, inl refl, passing);
}
  where
    serves_same : (y : ServiceCase) → Among y (x ∷ []) → Serves app m y a
    serves_same y (inl e) = subst (λ (z : ServiceCase). Serves app m z a) (sym e) h
    serves_same y (inr none) = absurd none

-- and one that is one of two cases'
pub two_served : (app : App) (s m : State) (x y : ServiceCase) (a : Answer) → (PassesAll app x.conditions (abstract_of app s) → Serves app m x a) → (PassesAll app y.conditions (abstract_of app s) → Serves app m y a) →
    PassesAll app x.conditions (abstract_of app s) ⊎ PassesAll app y.conditions (abstract_of app s) → IsServed app s m (x ∷ y ∷ []) a
two_served app s m x y a of_x of_y either = record {
  each = each_serves;
  some = ⊎_elim (λ passing. (x, inl refl, passing)) (λ passing. (y, inr (inl refl), passing)) either;
}
  where
    each_serves : (z : ServiceCase) → Among z (x ∷ y ∷ []) → PassesAll app z.conditions (abstract_of app s) → Serves app m z a
    each_serves z (inl e) passing = subst (λ (w : ServiceCase). Serves app m w a) (sym e) (of_x (subst (λ (w : ServiceCase). PassesAll app w.conditions (abstract_of app s)) e passing))
    each_serves z (inr (inl e)) passing = subst (λ (w : ServiceCase). Serves app m w a) (sym e) (of_y (subst (λ (w : ServiceCase). PassesAll app w.conditions (abstract_of app s)) e passing))
    each_serves z (inr (inr none)) passing = absurd none

-- and one that is one of three cases'
pub three_served : (app : App) (s m : State) (x y z : ServiceCase) (a : Answer) → (PassesAll app x.conditions (abstract_of app s) → Serves app m x a) → (PassesAll app y.conditions (abstract_of app s) → Serves app m y a) →
    (PassesAll app z.conditions (abstract_of app s) → Serves app m z a) → PassesAll app x.conditions (abstract_of app s) ⊎ (PassesAll app y.conditions (abstract_of app s) ⊎ PassesAll app z.conditions (abstract_of app s)) → IsServed app s m (x ∷ y ∷ z ∷ []) a
three_served app s m x y z a of_x of_y of_z either = record {
  each = each_serves;
  some = ⊎_elim (λ passing. (x, inl refl, passing)) (⊎_elim (λ passing. (y, inr (inl refl), passing)) (λ passing. (z, inr (inr (inl refl)), passing))) either;
}
  where
    serves_as : (v w : ServiceCase) → v ≡ w → (PassesAll app w.conditions (abstract_of app s) → Serves app m w a) → PassesAll app v.conditions (abstract_of app s) → Serves app m v a
    serves_as v w e of_w passing = subst (λ (u : ServiceCase). Serves app m u a) (sym e) (of_w (subst (λ (u : ServiceCase). PassesAll app u.conditions (abstract_of app s)) e passing))

    each_serves : (v : ServiceCase) → Among v (x ∷ y ∷ z ∷ []) → PassesAll app v.conditions (abstract_of app s) → Serves app m v a
    each_serves v (inl e) passing = serves_as v x e of_x passing
    each_serves v (inr (inl e)) passing = serves_as v y e of_y passing
    each_serves v (inr (inr (inl e))) passing = serves_as v z e of_z passing
    each_serves v (inr (inr (inr none))) passing = absurd none

-- cases of services stay at the point where the caller goes on
pub stay_there : (app : App) (o : Occasion) (xs : List ServiceCase) (x : EffectCase) → Among x (map (case_at o) xs) → IsKnownStay app x.leaving.stay
stay_there app o xs x m = let h = map_among (case_at o) x xs m in subst (λ (y : EffectCase). IsKnownStay app y.leaving.stay) (sym h.2) tt
