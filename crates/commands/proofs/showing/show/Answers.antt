-- the application of the texts, and what was printed of it
use Rattle.std.proofs.Common.{◌≡◌, List, ℕ, refl, inl, inr, subst, sym}
use Rattle.std.specs.declared.result.Result.{Result}
use Rattle.osek_standard.specs.declared.app.App.{App}
use Rattle.flow_text.specs.Texts.{show_text}
use Rattle.command_runs.specs.{Inputs.{no_memory}, Outside.{Outside, outside}, declared.stop.Stop.{Stop}}
use Rattle.commands.specs.{Compiling.{OfApp}, Printing.{PrintsWhole, PrintAnswers}, Showing.{IsDictated, TellsLeast, ShowAnswers, stops, tells}}
use Rattle.commands.specs.declared.showing.Dictated.{Dictated}
use Rattle.commands.proofs.{Compiles.{over_app}, ShownEdges.{begin_at_points, end_at_points}}
use Rattle.commands.proofs.showing.show.Goals as goal

-- what was printed of an application that was compiled
shown : (before after : Outside) (oil code : List ℕ) (app : App) (x : Dictated) (r : Result (Unit {0}) Stop) → OfApp before.shelf.files oil code (λ a. a ≡ app) → IsDictated app x →
    PrintsWhole before.out after.out (show_text x.image.app x.image.sites x.edges x.values) r → ShowAnswers before after oil code r
shown before after oil code app x _ given is (inl memory) = subst (ShowAnswers before after oil code) (sym memory.0) (stops _ (inl no_memory) memory.1)
shown before after oil code app x r given is (inr printed) =
    tells r (over_app before.shelf.files oil code (λ (a : App). (text : List ℕ) × TellsLeast a text × PrintAnswers before after text r) app
    (show_text x.image.app x.image.sites x.edges x.values, record { dictated = x; is = is; told = told }, printed) given)
  where
    told : show_text x.image.app x.image.sites x.edges x.values ≡ show_text app x.image.sites x.edges x.values
    told = subst (λ (a : App). show_text x.image.app x.image.sites x.edges x.values ≡ show_text a x.image.sites x.edges x.values) is.is refl

pub print_shown-printed-requires-clause-begin : goal.print_shown-printed-requires-clause-begin
print_shown-printed-requires-clause-begin g c = begin_at_points c.in-Ok.app c.in-Ok-derive.dictated c.in-Ok-derive.ensures

pub print_shown-printed-requires-clause-end : goal.print_shown-printed-requires-clause-end
print_shown-printed-requires-clause-end g c = end_at_points c.in-Ok.app c.in-Ok-derive.dictated c.in-Ok-derive.ensures

pub returns-in-Err-clause-answer : goal.returns-in-Err-clause-answer
returns-in-Err-clause-answer g c = stops c.in-Err.stop c.in-Err.ensures.stop refl

pub returns-in_default-clause-answer : goal.returns-in_default-clause-answer
returns-in_default-clause-answer g c = stops _ (inl no_memory) refl

pub returns-clause-answer : goal.returns-clause-answer
returns-clause-answer g c =
    shown (outside g.F.Shelf g.O.Sink c.args.shelf.now c.args.out.now) (outside g.F.Shelf g.O.Sink c.compile.new.shelf c.print_shown-printed.new.out) c.args.oil.now c.args.code.now c.in-Ok.app c.in-Ok-derive.dictated c.print_shown-printed.result
    c.in-Ok.ensures.app c.in-Ok-derive.ensures c.print_shown-printed.ensures
