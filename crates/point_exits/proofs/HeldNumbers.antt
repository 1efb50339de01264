-- Some numbers alone in the place of a set, and the set again.
use Rattle.std.proofs.{Common.{◌≡◌, ℕ, set, ap, ◌∙◌}, lemmas.List.{set-set, set-get_or}}
use Rattle.numbered_sets.specs.{declared.numbered_entry.NumberedEntry.{NumberedEntry}, Numbers.{Numbers}, NumberedEntries.{no_set, numbers_at}}
use Rattle.point_exits.specs.Groups.{holding}

module _ (entry held : NumberedEntry) (c : ℕ) (x : Numbers) (write : held.sets ≡ set entry.sets c x) where
  pub now_holds : held ≡ holding entry c x
  now_holds = λ i. record { sets = write i }

  pub held_back : (after : NumberedEntry) (own : Numbers) → own ≡ numbers_at entry c → after.sets ≡ set held.sets c own → after ≡ entry
  held_back after own is back =
      let sets = back ∙ ap (λ ys. set ys c own) write ∙ set-set entry.sets c x own ∙ ap (set entry.sets c) is ∙ set-get_or entry.sets c no_set in
      λ i. record { sets = sets i }
