-- What is certified is agreed to, and what is agreed to is the kernel.
use Rattle.std.proofs.Common.{◌≡◌, ℕ, List, refl, sym, subst, inr, Some, Ok}
use Rattle.std.specs.{FinMap.{get}, declared.result.Result.{Result}}
use Rattle.osek_standard.specs.declared.app.App.{App}
use Rattle.image_model.specs.declared.image.Image.{Image}
use Rattle.image_codec.specs.Spelling.{spelling}
use Rattle.abstract_state.specs.{declared.table.PlainTable.{PlainTable}, Tables.{Inductive, sets_of}}
use Rattle.dictated_forms.proofs.ImageLaws.{fitting_run}
use Rattle.table_codec.specs.Spelling.{spelling as table_spelling}
use Rattle.osek_io.specs.Files.{Files}
use Rattle.command_runs.specs.{Replaying.{SpellImage}, declared.stop.Stop.{Stop}}
use Rattle.commands.specs.Checking.{SpellTable, IsAgreed}
use Rattle.commands.specs.Due.{ImageDue, no_image, bad_image, is_read, no_table, bad_table, is_table, CheckDue, agreed, denied, ImageIsJudged}
use Rattle.commands.specs.Laws.{WhatIsCertifiedIsChecked, WhatIsCheckedIsAKernelImage}
use Rattle.commands.proofs.OneDue.{same_found, same_image}

pub certified_checked : WhatIsCertifiedIsChecked
certified_checked files image table app i t made image_stored table_stored =
    let is = sym made.fitted.kernel.is in
    let inductive : Inductive i.app (sets_of t) = subst (λ (a : App). Inductive a (sets_of t)) is made.least.least.inductive in
    let fits : IsAgreed i t = (inductive, record { forms = λ b f e. inr (inr (made.forms b f e)); statuses = λ b k e. inr (inr (made.statuses b k e)) }) in
    let spells : SpellTable i.app (table_spelling app t) t =
    subst (λ (a : App). SpellTable a (table_spelling app t) t) is (record { within = made.within; written = made.least.written; spelled = refl }) in
    is_read (spelling i) i (Ok tt) image_stored made.fitted.kernel.spelled (is_table (table_spelling app t) t (Ok tt) table_stored spells (agreed fits))

module _ (files : Files) (image table bytes : List ℕ) (i : Image) (holds : get files image ≡ Some bytes) (spells : SpellImage bytes i) where
  of_judged : (j : Image) (t : PlainTable) (r : Result (Unit {0}) Stop) → r ≡ Ok tt → CheckDue j t r → IsAgreed j t
  of_judged j t _ e (agreed said) = said
  of_judged j t _ e (denied d denies) = absurd (cc e)

  of_table : (j : Image) (r : Result (Unit {0}) Stop) → r ≡ Ok tt → ImageIsJudged files table j r → (t : PlainTable) × IsAgreed j t
  of_table j _ e (no_table x) = absurd (cc e)
  of_table j _ e (bad_table b f x p) = absurd (cc e)
  of_table j _ e (is_table b t r x p d) = (t, of_judged j t r e d)

  -- the table that the check holds the image against
  pub agreed_table : (r : Result (Unit {0}) Stop) → r ≡ Ok tt → ImageDue files image (ImageIsJudged files table) r → (t : PlainTable) × IsAgreed i t
  agreed_table _ e (no_image x) = absurd (cc e)
  agreed_table _ e (bad_image b f x p) = absurd (cc e)
  agreed_table _ e (is_read b j r x p d) =
      let same : j ≡ i = same_image files b bytes j i (same_found _ b bytes x holds) p spells in
      subst (λ (k : Image). (t : PlainTable) × IsAgreed k t) same (of_table j r e d)

pub checked_is_kernel : WhatIsCheckedIsAKernelImage
checked_is_kernel files image table bytes i due holds spells =
    let (t, fits) = agreed_table files image table bytes i holds spells (Ok tt) refl due in
    record {
      is = refl;
      spelled = subst (λ (b : List ℕ). SpellImage b i) (sym spells.spelled) spells;
      runs = λ mode events known. fitting_run i (sets_of t) fits.1 fits.0 mode events known;
    }
