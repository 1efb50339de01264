-- the image and the table that were loaded, and what is said of them
use Rattle.std.proofs.Common.{◌≡◌, List, ℕ, Ok, Err, refl, inl, inr, subst, sym, codes}
use Rattle.std.specs.{Prelude.{◌⊎◌}, declared.{option.Option.{Option}, result.Result.{Result}}}
use Rattle.osek_standard.specs.declared.app.App.{App}
use Rattle.image_model.specs.declared.image.Image.{Image}
use Rattle.abstract_state.specs.declared.table.PlainTable.{PlainTable}
use Rattle.osek_io.specs.Files.{Files}
use Rattle.command_runs.specs.{Inputs.{OfFile, no_memory}, Outside.{Outside, Told, outside, told}, Replaying.{SpellImage, OfImage}, declared.stop.Stop.{Stop}}
use Rattle.command_runs.specs.declared.stop.Stop.TheVariants as stop
use Rattle.command_runs.proofs.{InputFiles.{of_map}, FaultlessReads.{earlier, then_reads}}
use Rattle.commands.specs.{Checking.{SpellTable, OfTable, TableStops, IsAgreed, IsDenied, CheckAnswers, no_image, no_table, denied, agreed}, Due.{CheckDue}, Printing.{PrintAnswers}}
use Rattle.commands.specs.Due as due
use Rattle.commands.proofs.checking.check.Goals as goal

over_image : (files : Option Files) (image : List ℕ) (i : Image) (P : Image → Type 0) → OfFile files image (λ b. SpellImage b i) → P i → OfImage files image P
over_image files image i P h p = of_map files image _ _ (λ b spells. (i, spells, p)) h

over_table : (files : Option Files) (table : List ℕ) (app : App) (t : PlainTable) (P : PlainTable → Type 0) → OfFile files table (λ b. SpellTable app b t) → P t → OfTable files table app P
over_table files table app t P h p = of_map files table _ _ (λ b spells. (t, spells, p)) h

module _ (before after : Outside) (image table : List ℕ) (i : Image) (t : PlainTable) (loaded : OfFile before.shelf.files image (λ b. SpellImage b i)) (read : OfFile before.shelf.files table (λ b. SpellTable i.app b t)) where
  -- no was said, or memory ran out
  said_no : (r : Result (Unit {0}) Stop) → (r ≡ Ok tt → ⊥) → after.out ≡ before.out → (r ≡ Err stop.Memory) ⊎ CheckDue i t r → CheckAnswers before after image table r
  said_no r other same (inl e) = subst (CheckAnswers before after image table) (sym e) (no_image stop.Memory no_memory same)
  said_no _ other same (inr (due.agreed said)) = absurd (other refl)
  said_no _ other same (inr (due.denied d denies)) =
      denied d (over_image before.shelf.files image i (λ j. OfTable before.shelf.files table j.app (λ x. IsDenied j x d)) loaded (over_table before.shelf.files table i.app t (λ x. IsDenied i x d) read denies)) same

  is_yes : (r : Result (Unit {0}) Stop) → r ≡ Ok tt → (r ≡ Err stop.Memory) ⊎ CheckDue i t r → IsAgreed i t
  is_yes r e (inl memory) = absurd (cc (e, memory))
  is_yes _ e (inr (due.agreed said)) = said
  is_yes _ e (inr (due.denied d denies)) = absurd (cc e)

  said_yes : (said r : Result (Unit {0}) Stop) → said ≡ Ok tt → (said ≡ Err stop.Memory) ⊎ CheckDue i t said → PrintAnswers before after (codes "yes\n") r → CheckAnswers before after image table r
  said_yes said r e judged prints =
      agreed r (over_image before.shelf.files image i (λ j. OfTable before.shelf.files table j.app (IsAgreed j)) loaded (over_table before.shelf.files table i.app t (IsAgreed i) read (is_yes said e judged))) prints

pub returns-in-Err-clause-answer : goal.returns-in-Err-clause-answer
returns-in-Err-clause-answer g c = no_image c.in-Err.stop c.in-Err.ensures.stop refl

pub returns-in-Err-load_table-clause-answer : goal.returns-in-Err-load_table-clause-answer
returns-in-Err-load_table-clause-answer g c =
    let i = c.in-Ok.image in
    no_table c.in-Err-load_table.stop (over_image (g.F.Shelf.contents c.args.shelf.now) c.args.image.now i
    (λ j. TableStops (told g.F.Shelf c.args.shelf.now) (told g.F.Shelf c.load_table.new.shelf) c.args.table.now j.app c.in-Err-load_table.stop) c.in-Ok.ensures.image
    (earlier g.F.Shelf c.args.shelf.now c.load_image.new.shelf c.in-Ok.ensures.same c.in-Ok.ensures.no_fault
    (λ (t : Told). TableStops t (told g.F.Shelf c.load_table.new.shelf) c.args.table.now i.app c.in-Err-load_table.stop) c.in-Err-load_table.ensures.stop)) refl

pub returns-in-Err-load_table-clause-same : goal.returns-in-Err-load_table-clause-same
returns-in-Err-load_table-clause-same g c = then_reads g.F.Shelf c.args.shelf.now c.load_image.new.shelf c.in-Ok.ensures.same c.in-Ok.ensures.no_fault c.load_table.new.shelf c.in-Err-load_table.ensures.same

pub returns-clause-answer : goal.returns-clause-answer
returns-clause-answer g c =
    let i = c.in-Ok.image in
    let t = c.in-Ok-load_table.table in
    let read : OfFile (g.F.Shelf.contents c.args.shelf.now) c.args.table.now (λ b. SpellTable i.app b t) = subst (λ (f : Option Files). OfFile f c.args.table.now (λ b. SpellTable i.app b t)) c.in-Ok.ensures.same.files c.in-Ok-load_table.ensures.table in
    said_no (outside g.F.Shelf g.O.Sink c.args.shelf.now c.args.out.now) (outside g.F.Shelf g.O.Sink c.load_table.new.shelf c.args.out.now) c.args.image.now c.args.table.now i t
    c.in-Ok.ensures.image read (Err c.in-Err-judge.stop) (λ e. absurd (cc e)) refl c.in-Err-judge.ensures

pub returns-in-Ok-judge : goal.returns-in-Ok-judge
returns-in-Ok-judge g c =
    let i = c.in-Ok.image in
    let t = c.in-Ok-load_table.table in
    record {
      answer = said_yes (outside g.F.Shelf g.O.Sink c.args.shelf.now c.args.out.now) (outside g.F.Shelf g.O.Sink c.load_table.new.shelf c.print_yes.new.out) c.args.image.now c.args.table.now i t
          c.in-Ok.ensures.image (subst (λ (f : Option Files). OfFile f c.args.table.now (λ b. SpellTable i.app b t)) c.in-Ok.ensures.same.files c.in-Ok-load_table.ensures.table)
          (Ok tt) c.print_yes.result refl c.in-Ok-judge.ensures (c.print_yes.ensures (told g.F.Shelf c.load_table.new.shelf));
      same = then_reads g.F.Shelf c.args.shelf.now c.load_image.new.shelf c.in-Ok.ensures.same c.in-Ok.ensures.no_fault c.load_table.new.shelf c.in-Ok-load_table.ensures.same;
    }
