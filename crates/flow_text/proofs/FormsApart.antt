-- A form has a text of its own.
use Rattle.std.proofs.Common.{◌≡◌, ℕ, List, ◌∷◌, ◌++◌, length, refl, ap, Option, Some, None}
use Rattle.std.specs.Prelude.{codes}
use Rattle.std.proofs.lemmas.List.{append_cancel_left}
use Rattle.osek_values.specs.declared.numbers.TaskNo.{TaskNo}
use Rattle.osek_standard.specs.declared.app.App.{App}
use Rattle.image_model.specs.declared.site.Form.{Form}
use Rattle.image_model.specs.declared.site.Form.TheVariants as form
use Rattle.image_model.specs.Sites.{IsForm}
use Rattle.trace_text.specs.PointTexts.{task_or_dash}
use Rattle.trace_text.proofs.{Parting.{heads_differ, parted}, PointsApart.{IsKnown, task_lacks, task_once}}
use Rattle.flow_text.specs.FlowLines.{form_text}

module _ (app : App) where
  direct_known : (x : Option TaskNo) → IsForm (length app.tasks) (form.Direct x) → IsKnown app x
  direct_known None h = tt
  direct_known (Some t) h = h

  pub form_once : (x y : Form) → IsForm (length app.tasks) x → IsForm (length app.tasks) y → form_text app x ≡ form_text app y → x ≡ y
  form_once form.Never form.Never h k e = refl
  form_once form.Never form.Stay h k e = absurd (heads_differ _ _ e refl)
  form_once form.Never (form.Direct y) h k e = absurd (heads_differ _ _ e refl)
  form_once form.Never form.General h k e = absurd (heads_differ _ _ e refl)
  form_once form.Stay form.Never h k e = absurd (heads_differ _ _ e refl)
  form_once form.Stay form.Stay h k e = refl
  form_once form.Stay (form.Direct y) h k e = absurd (heads_differ _ _ e refl)
  form_once form.Stay form.General h k e = absurd (heads_differ _ _ e refl)
  form_once (form.Direct x) form.Never h k e = absurd (heads_differ _ _ e refl)
  form_once (form.Direct x) form.Stay h k e = absurd (heads_differ _ _ e refl)
  form_once (form.Direct x) (form.Direct y) h k e =
      ap form.Direct (task_once app x y (direct_known x h) (direct_known y k) (append_cancel_left (codes "direct ") (task_or_dash app x) (task_or_dash app y) e))
  form_once (form.Direct x) form.General h k e = absurd (heads_differ _ _ e refl)
  form_once form.General form.Never h k e = absurd (heads_differ _ _ e refl)
  form_once form.General form.Stay h k e = absurd (heads_differ _ _ e refl)
  form_once form.General (form.Direct y) h k e = absurd (heads_differ _ _ e refl)
  form_once form.General form.General h k e = refl

  -- a form, a blank, and what stands behind it
  pub form_first : (x y : Form) (r s : List ℕ) → IsForm (length app.tasks) x → IsForm (length app.tasks) y → form_text app x ++ 32 ∷ r ≡ form_text app y ++ 32 ∷ s → (x ≡ y) × (r ≡ s)
  form_first form.Never form.Never r s h k e = (refl, append_cancel_left (codes "never ") r s e)
  form_first form.Never form.Stay r s h k e = absurd (heads_differ _ _ e refl)
  form_first form.Never (form.Direct y) r s h k e = absurd (heads_differ _ _ e refl)
  form_first form.Never form.General r s h k e = absurd (heads_differ _ _ e refl)
  form_first form.Stay form.Never r s h k e = absurd (heads_differ _ _ e refl)
  form_first form.Stay form.Stay r s h k e = (refl, append_cancel_left (codes "stay ") r s e)
  form_first form.Stay (form.Direct y) r s h k e = absurd (heads_differ _ _ e refl)
  form_first form.Stay form.General r s h k e = absurd (heads_differ _ _ e refl)
  form_first (form.Direct x) form.Never r s h k e = absurd (heads_differ _ _ e refl)
  form_first (form.Direct x) form.Stay r s h k e = absurd (heads_differ _ _ e refl)
  form_first (form.Direct x) (form.Direct y) r s h k e =
      let parts = parted 32 (task_or_dash app x) (task_or_dash app y) r s (task_lacks app x (direct_known x h)) (task_lacks app y (direct_known y k))
      (append_cancel_left (codes "direct ") (task_or_dash app x ++ 32 ∷ r) (task_or_dash app y ++ 32 ∷ s) e) in
      (ap form.Direct (task_once app x y (direct_known x h) (direct_known y k) parts.0), parts.1)
  form_first (form.Direct x) form.General r s h k e = absurd (heads_differ _ _ e refl)
  form_first form.General form.Never r s h k e = absurd (heads_differ _ _ e refl)
  form_first form.General form.Stay r s h k e = absurd (heads_differ _ _ e refl)
  form_first form.General (form.Direct y) r s h k e = absurd (heads_differ _ _ e refl)
  form_first form.General form.General r s h k e = (refl, append_cancel_left (codes "general ") r s e)
