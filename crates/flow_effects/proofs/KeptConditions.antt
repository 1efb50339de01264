-- What is known of WaitEvents, as conditions are taken out and put in.
use Rattle.std.proofs.Common.{◌≡◌, ℕ, ◌<◌, List, [], ◌∷◌, ◌++◌, length, get_or, set, sym, ap, ap₂, subst, ◌∙◌, inl, inr, arith, Some, None}
use Rattle.std.specs.{Prelude.{IfSome, OnOk, OnErr}, declared.{option.Option.{Option}, result.Result.{Result}}}
use Rattle.std.specs.declared.result.Result.TheVariants.{Ok, Err}
use Rattle.std.proofs.{Math.Seq.{get_or-append_seam}, lemmas.{Bool.{cases_eq, cases_lt}, List.{length-append, length-set, get_or_append_left, get_or-set_same, get_or-set_other}}}
use Rattle.osek_values.specs.declared.{memory.Memory.{Memory}, mask.Mask.{Mask}, numbers.TaskNo.{TaskNo}}
use Rattle.osek_standard.specs.declared.app.App.{App}
use Rattle.flow_model.specs.declared.{case.EffectCase.{EffectCase}, test.Condition.{Condition}}
use Rattle.flow_effects.specs.declared.{effects.{Alternatives.{Alternatives}, Effects.{Effects}}, known_waits.KnownWait.{KnownWait}, waiting.{Wait.{Wait}}}
use Rattle.flow_effects.specs.{Alternatives.{wait_conditions, wait_effects}, KnownWaits.{IsKnownWait, AreKnownWaits, IsPlaceOf, AreOfTheirWait, HaveWaitingCase}}

-- what is at the place of a WaitEvent's task and mask is of it
pub taken_at : (app : App) (w : Wait) (known : List KnownWait) (i : ℕ) (x : KnownWait) → AreKnownWaits app known → IsPlaceOf w known i → ((d : KnownWait) → get_or known i d ≡ x) →
    IfSome x.conditions (λ y. y ≡ wait_conditions app w.task w.mask)
taken_at app w known i x h at is =
    let here : IsKnownWait app x = subst (IsKnownWait app) (is x) (h i x at.listed) in
    let task : x.task ≡ w.task = ap (λ (k : KnownWait). k.task) (sym (is x)) ∙ at.task x in
    let mask : x.mask ≡ w.mask = ap (λ (k : KnownWait). k.mask) (sym (is x)) ∙ at.mask x in
    subst (λ (m : Mask). IfSome x.conditions (λ y. y ≡ wait_conditions app w.task m)) mask (subst (λ (t : TaskNo). IfSome x.conditions (λ y. y ≡ wait_conditions app t x.mask)) task here)

pub known_with : (app : App) (known : List KnownWait) (i : ℕ) (x : KnownWait) → AreKnownWaits app known → IsKnownWait app x → AreKnownWaits app (set known i x)
known_with app known i x h is j d lt =
    let listed : j < length known = (let size = length-set known i x in omega (arith, lt, size)) in
    elim (cases_eq j i) [
      | inl same ↦ subst (IsKnownWait app) (sym (ap (λ (k : ℕ). get_or (set known i x) k d) same ∙ get_or-set_same known i x d (omega (arith, same, listed)))) is
      | inr differ ↦ subst (IsKnownWait app) (sym (get_or-set_other known i j x d differ)) (h j d listed)
    ]

known_more : (app : App) (known : List KnownWait) (x : KnownWait) → AreKnownWaits app known → IsKnownWait app x → AreKnownWaits app (known ++ x ∷ [])
known_more app known x h is j d lt = elim (cases_lt j (length known)) [
  | inl below ↦ subst (IsKnownWait app) (sym (get_or_append_left known (x ∷ []) d j below)) (h j d below)
  | inr above ↦
      (let last : j ≡ length known = (let size = length-append known (x ∷ []) in omega (arith, lt, above, size)) in
      subst (IsKnownWait app) (sym (ap (λ (n : ℕ). get_or (known ++ x ∷ []) n d) last ∙ get_or-append_seam known x [] d)) is)
]

-- also where memory is wanted
pub known_pushed : {U : Type 0} (app : App) (known after : List KnownWait) (x : KnownWait) (r : Result U Memory) → AreKnownWaits app known → IsKnownWait app x →
    OnOk r (after ≡ known ++ x ∷ []) → OnErr r (after ≡ known) → AreKnownWaits app after
known_pushed app known after x (Ok u) h is ok err = subst (AreKnownWaits app) (sym ok) (known_more app known x h is)
known_pushed app known after x (Err e) h is ok err = subst (AreKnownWaits app) (sym err) h

-- ---- effects that are said to be those of a WaitEvent

their_case : (app : App) (x : Effects) (o : Option Wait) → IfSome o (λ w. x ≡ wait_effects app w) → IfSome o (λ w. 1 < length x.cases)
their_case app x None h = tt
their_case app x (Some w) h = (let two = ap (λ (y : Effects). length y.cases) h in omega (arith, two))

pub have_case : (app : App) (x : Effects) → AreOfTheirWait app x → HaveWaitingCase x
have_case app x h = their_case app x x.wait h

-- the conditions of a WaitEvent's effects
abbrev of_alternatives : Option Alternatives → List Condition
of_alternatives None = []
of_alternatives (Some a) = a.conditions

pub kept_conditions : (app : App) (w : Wait) (x : Effects) (case : EffectCase) (a : Alternatives) (waits : List Condition) → x ≡ wait_effects app w → ((d : EffectCase) → get_or x.cases 1 d ≡ case) → waits ≡ case.conditions → x.alternatives ≡ Some a →
    record { waits = waits; goes_on = a.conditions } ≡ wait_conditions app w.task w.mask
kept_conditions app w x case a waits e is first same =
    let asked : waits ≡ (wait_conditions app w.task w.mask).waits = first ∙ ap (λ (y : EffectCase). y.conditions) (sym (is case) ∙ ap (λ (y : Effects). get_or y.cases 1 case) e) in
    let others : a.conditions ≡ (wait_conditions app w.task w.mask).goes_on = ap of_alternatives (sym same ∙ ap (λ (y : Effects). y.alternatives) e) in
    ap₂ (λ (xs ys : List Condition). record { waits = xs; goes_on = ys }) asked others
