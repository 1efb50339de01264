-- Who has the processor after a decision is one task, and the changes that settle the values make what it says.
use Rattle.std.proofs.Common.{◌≡◌, ◌≢◌, ℕ, ◌+◌, ◌<◌, Bool, true, false, List, [], ◌∷◌, length, nat_le, nat_lt, refl, sym, ap, ◌∙◌, inl, inr, ⊎_elim, Some, None}
use Rattle.std.specs.{Prelude.{if◌then◌else◌, is_some, filter}, List.{range_with_len}}
use Rattle.std.proofs.lemmas.{Bool.{and_from, and_parts, cases_Bool, cases_eq, cases_lt, eqb-true, false≢true, le-leb, leb-true, lt-ltb, ltb-true}, List.{get_or_past}}
use Rattle.osek_values.specs.declared.numbers.BlockNo.{BlockNo}
use Rattle.osek_standard.specs.declared.{app.App.{App}, objects.Task.{Task}, point.Point.{Point}}
use Rattle.osek_standard.specs.declared.point.Point.TheVariants as point
use Rattle.osek_standard.specs.{Apps.{the_task, no_task}, Internal.{internal_of}, Validity.{is_within}, Well.{IsOwn}}
use Rattle.osek_standard.proofs.{Members.{Among, among_map, map_among, among_passing, passing_among}, OwnerLaws.{own_once}}
use Rattle.abstract_state.specs.declared.value.{Val.{Val, TheVariants.{Suspended, Live, Waiting}}, PartValue.{PartValue, TheVariants.{OfTask, OfEvent, OfAlarm, OfSource}}}
use Rattle.abstract_state.specs.Settling.{inside_val}
use Rattle.flow_model.specs.declared.{case.{Decision.{Decision}, Stay.{Stay}}, change.{Change.{Change}, Update.{Update}}}
use Rattle.flow_model.specs.declared.case.Decision.TheVariants as decision
use Rattle.flow_model.specs.declared.case.Stay.TheVariants as stay
use Rattle.flow_model.specs.declared.runner.Runner.TheVariants as runner
use Rattle.flow_model.specs.declared.change.Update.TheVariants as update
use Rattle.flow_model.specs.{Runners.{change}, Tests.{updated, value_after}, Scheduling.{is_at_task, has_it_after, goes_inside, settled_value, settling}}
use Rattle.flow_model.proofs.ChangeLaws.{change_here, change_there, elsewhere}

-- ---- a block of a task

module _ (app : App) (u : ℕ) (b : BlockNo) where
  pub own_within : IsOwn app u b.0 → is_within b.0 ((the_task app u).first.0, (the_task app u).count) ≡ true
  own_within own =
      and_from (nat_le (the_task app u).first.0 b.0) (nat_lt b.0 ((the_task app u).first.0 + (the_task app u).count))
      (le-leb (the_task app u).first.0 b.0 own.0) (lt-ltb b.0 ((the_task app u).first.0 + (the_task app u).count) own.1)

  pub within_own : is_within b.0 ((the_task app u).first.0, (the_task app u).count) ≡ true → IsOwn app u b.0
  within_own e =
      let h = and_parts (nat_le (the_task app u).first.0 b.0) (nat_lt b.0 ((the_task app u).first.0 + (the_task app u).count)) e in
      (leb-true (the_task app u).first.0 b.0 h.0, ltb-true b.0 ((the_task app u).first.0 + (the_task app u).count) h.1)

-- ---- one task has the processor

module _ (app : App) (t u : ℕ) (known : t < length app.tasks) (known_too : u < length app.tasks) where
  at_alone : (p : Point) → is_at_task app p t ≡ true → is_at_task app p u ≡ true → t ≡ u
  at_alone point.Halted e f = absurd (false≢true e)
  at_alone point.Idle e f = absurd (false≢true e)
  at_alone (point.Task b) e f = own_once app t u b.0 known known_too (within_own app t b e) (within_own app u b f)
  at_alone (point.Routine b over) e f = absurd (false≢true e)

  pub has_it_alone : (x : Stay) (d : Decision) → has_it_after app x d t ≡ true → has_it_after app x d u ≡ true → t ≡ u
  has_it_alone x (decision.To None) e f = absurd (false≢true e)
  has_it_alone x (decision.To (Some w)) e f = sym (eqb-true w.0 t e) ∙ eqb-true w.0 u f
  has_it_alone (stay.At p) decision.Keep e f = at_alone p e f
  has_it_alone (stay.AtBlockOf (runner.Task w)) decision.Keep e f = sym (eqb-true w.0 t e) ∙ eqb-true w.0 u f
  has_it_alone (stay.AtBlockOf (runner.Routine k z over)) decision.Keep e f = absurd (false≢true e)

-- a component that names an INTERNAL resource is a task
pub named_known : (app : App) (c : ℕ) → is_some (internal_of app c) ≡ true → c < length app.tasks
named_known app c named = elim (cases_lt c (length app.tasks)) [
  | inl lt ↦ lt
  | inr past ↦ absurd (false≢true (sym (ap (λ (x : Task). is_some x.internal) (get_or_past app.tasks c no_task past)) ∙ named))
]

pub goes_known : (app : App) (x : Stay) (d : Decision) (c : ℕ) → goes_inside app x d c ≡ true → c < length app.tasks
goes_known app x d c e = named_known app c (and_parts (has_it_after app x d c) (is_some (internal_of app c)) e).1

-- ---- the changes

inside_twice : (v : Val) → inside_val true (inside_val true v) ≡ inside_val true v
inside_twice Suspended = refl
inside_twice (Live x) = refl
inside_twice (Waiting b) = refl

pub inside_already : (v : PartValue) → updated update.Inside (updated update.Inside v) ≡ updated update.Inside v
inside_already (OfTask v) = ap OfTask (inside_twice v)
inside_already (OfEvent b) = refl
inside_already (OfAlarm b) = refl
inside_already (OfSource v) = refl

module _ (c : ℕ) where
  abbrev AllBringIn : List Change → Type 0
  AllBringIn xs = (y : Change) → Among y xs → y.update ≡ update.Inside

  stays_in : (xs : List Change) → AllBringIn xs → (v : PartValue) → updated update.Inside v ≡ v → value_after xs c v ≡ v
  stays_in [] each v already = refl
  stays_in (y ∷ xs) each v already = elim (cases_eq y.component.0 c) [
    | inl here ↦ change_here y xs c v here
        ∙ ap (λ (z : Update). value_after xs c (updated z v)) (each y (inl refl))
        ∙ ap (value_after xs c) already
        ∙ stays_in xs (λ z m. each z (inr m)) v already
    | inr there ↦ change_there y xs c v there ∙ stays_in xs (λ z m. each z (inr m)) v already
  ]

  comes_in : (xs : List Change) → AllBringIn xs → (x : Change) → Among x xs → x.component.0 ≡ c → (v : PartValue) → value_after xs c v ≡ updated update.Inside v
  comes_in [] each x m same v = absurd m
  comes_in (y ∷ xs) each x m same v = elim (cases_eq y.component.0 c) [
    | inl here ↦ change_here y xs c v here
        ∙ ap (λ (z : Update). value_after xs c (updated z v)) (each y (inl refl))
        ∙ stays_in xs (λ z n. each z (inr n)) (updated update.Inside v) (inside_already v)
    | inr there ↦ change_there y xs c v there ∙ comes_in xs (λ z n. each z (inr n)) x
        (⊎_elim (λ e. absurd (there (ap (λ (z : Change). z.component.0) (sym e) ∙ same))) (λ n. n) m) same v
  ]

module _ (app : App) (x : Stay) (d : Decision) (c : ℕ) (v : PartValue) where
  abbrev brings : ℕ → Change
  brings t = change t update.Inside

  abbrev goers : List ℕ
  goers = filter (goes_inside app x d) (range_with_len 0 (length app.tasks))

  all_bring_in : AllBringIn c (settling app x d)
  all_bring_in y m = ap (λ (z : Change). z.update) (map_among brings y goers m).2

  none_there : goes_inside app x d c ≡ false → (y : Change) → Among y (settling app x d) → y.component.0 ≢ c
  none_there stays y m same =
      let k = map_among brings y goers m in
      let goes : goes_inside app x d k.0 ≡ true = (passing_among (goes_inside app x d) (length app.tasks) k.0 k.1).0 in
      let here : k.0 ≡ c = sym (ap (λ (z : Change). z.component.0) k.2) ∙ same in
      false≢true (sym stays ∙ ap (goes_inside app x d) (sym here) ∙ goes)

  -- they make of each value what is said of it
  pub settles : value_after (settling app x d) c v ≡ settled_value app x d c v
  settles = elim (cases_Bool (goes_inside app x d c)) [
    | inl goes ↦
        (let there : Among (brings c) (settling app x d) = among_map brings c goers (among_passing (goes_inside app x d) (length app.tasks) c (goes_known app x d c goes) goes) in
        comes_in c (settling app x d) all_bring_in (brings c) there refl v ∙ ap (λ (b : Bool). if b then updated update.Inside v else v) (sym goes))
    | inr stays ↦ elsewhere (settling app x d) c v (none_there stays) ∙ ap (λ (b : Bool). if b then updated update.Inside v else v) (sym stays)
  ]
