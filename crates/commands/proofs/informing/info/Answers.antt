-- the image that was loaded, and what was printed of it
use Rattle.std.proofs.Common.{List, ℕ, refl, inl, inr, subst, sym}
use Rattle.std.specs.declared.result.Result.{Result}
use Rattle.image_model.specs.declared.image.Image.{Image}
use Rattle.flow_text.specs.Texts.{info_text}
use Rattle.command_runs.specs.{Inputs.{OfFile, no_memory}, Outside.{Outside, outside}, Replaying.{SpellImage}}
use Rattle.commands.specs.{Informing.{InfoAnswers, stops, tells}, Printing.{PrintsWhole}}
use Rattle.command_runs.specs.declared.stop.Stop.{Stop}
use Rattle.command_runs.proofs.InputFiles.{of_map}
use Rattle.commands.proofs.informing.info.Goals as goal

-- what was printed of an image that was loaded
told : (before after : Outside) (image : List ℕ) (i : Image) (r : Result (Unit {0}) Stop) → OfFile before.shelf.files image (λ b. SpellImage b i) → PrintsWhole before.out after.out (info_text i) r →
    InfoAnswers before after image r
told before after image i _ holds (inl memory) = subst (InfoAnswers before after image) (sym memory.0) (stops _ no_memory memory.1)
told before after image i r holds (inr printed) = tells r (of_map before.shelf.files image _ _ (λ b spells. (i, spells, printed)) holds)

pub returns-in-Err-clause-answer : goal.returns-in-Err-clause-answer
returns-in-Err-clause-answer g c = stops c.in-Err.stop c.in-Err.ensures.stop refl

pub returns-clause-answer : goal.returns-clause-answer
returns-clause-answer g c =
    told (outside g.F.Shelf g.O.Sink c.args.shelf.now c.args.out.now) (outside g.F.Shelf g.O.Sink c.load_image.new.shelf c.print_told-printed.new.out) c.args.image.now c.in-Ok.image c.print_told-printed.result c.in-Ok.ensures.image c.print_told-printed.ensures
