-- The form that a table dictates is one, and none is missing.
use Rattle.std.proofs.{Common.{◌≡◌, ◌≢◌, ◌⊎◌, ℕ, refl, sym, ap, ◌∙◌, inl, inr, Option, Some, None}, lemmas.Bool.{cases_eq}}
use Rattle.osek_values.specs.{Numbers.{task_no}, declared.{numbers.TaskNo.{TaskNo}, status.Status.{Status}}}
use Rattle.osek_values.specs.declared.status.Status.TheVariants as status
use Rattle.osek_standard.specs.{declared.app.App.{App}, Dispatch.{Outcome, Keep, To}}
use Rattle.image_model.specs.declared.site.{Form.{Form}, Known.{Known}}
use Rattle.image_model.specs.declared.site.Form.TheVariants as form
use Rattle.image_model.specs.declared.site.Known.TheVariants as known
use Rattle.abstract_state.specs.Tables.{Sets}
use Rattle.dictated_forms.specs.Forms.{Occurs, OccursAlone, OccurTwo, FormOf, Noted, NotedAlone, NotedTwo, KnownOf}

module _ (app : App) (table : Sets) (b : ℕ) where
  not_two : (o : Outcome) → OccursAlone app table b o → OccurTwo app table b → ⊥
  not_two o h two = two.differ (h.alone two.one two.one_occurs ∙ sym (h.alone two.other two.other_occurs))

  same_alone : (o p : Outcome) → OccursAlone app table b o → OccursAlone app table b p → o ≡ p
  same_alone o p x y = y.alone o x.occurs

  pub one_form : (f g : Form) → FormOf app table b f → FormOf app table b g → f ≡ g
  one_form form.Never form.Never x y = refl
  one_form form.Never form.Stay x y = absurd (x Keep y.occurs)
  one_form form.Never (form.Direct t) x y = absurd (x (To t) y.occurs)
  one_form form.Never form.General x y = absurd (x y.one y.one_occurs)
  one_form form.Stay form.Never x y = absurd (y Keep x.occurs)
  one_form form.Stay form.Stay x y = refl
  one_form form.Stay (form.Direct t) x y = absurd (let e : Keep ≡ To t = same_alone Keep (To t) x y in cc)
  one_form form.Stay form.General x y = absurd (not_two Keep x y)
  one_form (form.Direct t) form.Never x y = absurd (y (To t) x.occurs)
  one_form (form.Direct t) form.Stay x y = absurd (let e : Keep ≡ To t = same_alone Keep (To t) y x in cc)
  one_form (form.Direct t) (form.Direct u) x y = (let e : To t ≡ To u = same_alone (To t) (To u) x y in let same : t ≡ u = cc in ap form.Direct same)
  one_form (form.Direct t) form.General x y = absurd (not_two (To t) x y)
  one_form form.General form.Never x y = absurd (y x.one x.one_occurs)
  one_form form.General form.Stay x y = absurd (not_two Keep y x)
  one_form form.General (form.Direct t) x y = absurd (not_two (To t) y x)
  one_form form.General form.General x y = refl

module _ (app : App) (table : Sets) (b : ℕ) where
  not_unknown : (x : Option Status) → NotedAlone app table b x → KnownOf app table b known.Any → ⊥
  not_unknown x h (inl none) = none x h.noted
  not_unknown x h (inr two) = two.differ (h.alone two.one two.one_noted ∙ sym (h.alone two.other two.other_noted))

  pub one_known : (f g : Known) → KnownOf app table b f → KnownOf app table b g → f ≡ g
  one_known known.Any known.Any x y = refl
  one_known known.Any (known.Always t) x y = absurd (not_unknown t y x)
  one_known (known.Always t) known.Any x y = absurd (not_unknown t x y)
  one_known (known.Always t) (known.Always u) x y = ap known.Always (y.alone t x.noted)

-- outcomes are the same or differ, and so are statuses
tasks_decided : (t u : TaskNo) → (t ≡ u) ⊎ (t ≢ u)
tasks_decided t u = elim (cases_eq t.0 u.0) [
  | inl e ↦ inl (ap task_no e)
  | inr differ ↦ inr (λ e. differ (ap (λ (x : TaskNo). x.0) e))
]

some_by : (t u : TaskNo) → (t ≡ u) ⊎ (t ≢ u) → (To (Some t) ≡ To (Some u)) ⊎ (To (Some t) ≢ To (Some u))
some_by t u (inl e) = inl (ap (λ (x : TaskNo). To (Some x)) e)
some_by t u (inr differ) = inr (λ e. differ (cc))

outcomes_decided : (o p : Outcome) → (o ≡ p) ⊎ (o ≢ p)
outcomes_decided Keep Keep = inl refl
outcomes_decided Keep (To x) = inr (λ e. cc)
outcomes_decided (To x) Keep = inr (λ e. cc)
outcomes_decided (To None) (To None) = inl refl
outcomes_decided (To None) (To (Some u)) = inr (λ e. cc)
outcomes_decided (To (Some t)) (To None) = inr (λ e. cc)
outcomes_decided (To (Some t)) (To (Some u)) = some_by t u (tasks_decided t u)

statuses_decided : (x y : Status) → (x ≡ y) ⊎ (x ≢ y)
statuses_decided status.Ok status.Ok = inl refl
statuses_decided status.Access status.Access = inl refl
statuses_decided status.CallLevel status.CallLevel = inl refl
statuses_decided status.Id status.Id = inl refl
statuses_decided status.Limit status.Limit = inl refl
statuses_decided status.NoFunc status.NoFunc = inl refl
statuses_decided status.Resource status.Resource = inl refl
statuses_decided status.State status.State = inl refl
statuses_decided status.Value status.Value = inl refl
statuses_decided _ _ = inr (λ e. cc)

noted_by : (x y : Status) → (x ≡ y) ⊎ (x ≢ y) → (Some x ≡ Some y) ⊎ (Some x ≢ Some y)
noted_by x y (inl e) = inl (ap (λ (z : Status). Some z) e)
noted_by x y (inr differ) = inr (λ e. differ (cc))

notes_decided : (x y : Option Status) → (x ≡ y) ⊎ (x ≢ y)
notes_decided None None = inl refl
notes_decided None (Some y) = inr (λ e. cc)
notes_decided (Some x) None = inr (λ e. cc)
notes_decided (Some x) (Some y) = noted_by x y (statuses_decided x y)

module _ (app : App) (table : Sets) (b : ℕ) where
  -- what occurs is alone unless two occur
  occurs_alone : (o : Outcome) → Occurs app table b o → (OccurTwo app table b → ⊥) → OccursAlone app table b o
  occurs_alone o h not = record {
    occurs = h;
    alone = λ p k. elim (outcomes_decided p o) [
      | inl e ↦ e
      | inr differ ↦ absurd (not (record { one = p; other = o; one_occurs = k; other_occurs = h; differ = differ }))
    ];
  }

  form_by : (o : Outcome) → Occurs app table b o → ((f : Form) → FormOf app table b f → ⊥) → ⊥
  form_by Keep h none = none form.Stay (occurs_alone Keep h (none form.General))
  form_by (To x) h none = none (form.Direct x) (occurs_alone (To x) h (none form.General))

  pub some_form : ((f : Form) → FormOf app table b f → ⊥) → ⊥
  some_form none = none form.Never (λ o h. form_by o h none)

  noted_alone : (x : Option Status) → Noted app table b x → (NotedTwo app table b → ⊥) → NotedAlone app table b x
  noted_alone x h not = record {
    noted = h;
    alone = λ y k. elim (notes_decided y x) [
      | inl e ↦ e
      | inr differ ↦ absurd (not (record { one = y; other = x; one_noted = k; other_noted = h; differ = differ }))
    ];
  }

  pub some_known : ((x : Known) → KnownOf app table b x → ⊥) → ⊥
  some_known none = none known.Any (inl (λ x h. none (known.Always x) (noted_alone x h (λ two. none known.Any (inr two)))))
