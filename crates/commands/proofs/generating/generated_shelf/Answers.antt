use Rattle.std.proofs.Common.{◌≡◌, ◌<◌, ◌≤◌, ◌⊎◌, ℕ, inl, inr, ⊎_elim, IfOk, Ok, Err, subst}
use Rattle.std.specs.declared.result.Result.{Result}
use Rattle.std.proofs.lemmas.Bool.{cases_lt}
use Rattle.osek_vectors.specs.declared.generated.Generated.{Generated}
use Rattle.osek_io.specs.MemShelf.{ShelfState}
use Rattle.commands.specs.GeneratedFiles.{text_files, generated_files}
use Rattle.commands.proofs.generating.generated_shelf.Goals as goal

pub returns-in-Ok-clause-files : goal.returns-in-Ok-clause-files
unfolding generated_files
returns-in-Ok-clause-files c = subst (λ (t : Generated). IfOk c.shelf_of.result (λ (s : ShelfState). s.files ≡ text_files t)) c.in-Ok.ensures.texts c.shelf_of.ensures

few_of : (tasks : ℕ) → ((tasks < 1) ⊎ (16 < tasks) → ⊥) → (0 < tasks) × (tasks ≤ 16)
few_of tasks within = (⊎_elim (λ lt. absurd (within (inl lt))) (λ le. le) (cases_lt tasks 1), ⊎_elim (λ lt. absurd (within (inr lt))) (λ le. le) (cases_lt 16 tasks))

whichever : {X E : Type 0} (P : Type 0) (r : Result X E) → P → IfOk r (λ _. P)
whichever P (Ok x) is = is
whichever P (Err e) is = tt

pub returns-in-Ok-clause-few : goal.returns-in-Ok-clause-few
returns-in-Ok-clause-few c = whichever _ c.shelf_of.result (few_of c.args.tasks (λ out. (let e = c.in-Ok.ensures.refused.1 out in absurd cc)))
