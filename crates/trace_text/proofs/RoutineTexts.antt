-- Where all routines are out a line shows none.
use Rattle.std.proofs.Common.{◌≡◌, ℕ, suc, ◌+◌, List, [], ◌∷◌, ◌++◌, refl, ◌∙◌, ap, slice_index_or}
use Rattle.std.specs.List.{flat_map, enumerate_from}
use Rattle.osek_standard.specs.declared.{app.App.{App}, state.{State.{State}, Source.{Source}, Processor.{Processor}}}
use Rattle.osek_standard.specs.{TraceText.{routine_text}, Well.{AreOut}}
use Rattle.osek_standard.specs.declared.state.Source.TheVariants as source
use Rattle.trace_text.specs.LineParts.{routines_text}

out_text : (app : App) (p : Processor) (k : ℕ) (x : Source) → x ≡ source.Out → routine_text app p (k, x) ≡ []
out_text app p k x e = ap (λ (y : Source). routine_text app p (k, y)) e

none_from : (app : App) (p : Processor) (n : ℕ) (xs : List Source) → ((k : ℕ) → slice_index_or xs k source.Out ≡ source.Out) → flat_map (routine_text app p) (enumerate_from n xs) ≡ []
none_from app p n [] out = refl
none_from app p n (x ∷ xs) out =
    ap (λ (l : List ℕ). l ++ flat_map (routine_text app p) (enumerate_from (n + 1) xs)) (out_text app p n x (out 0)) ∙ none_from app p (n + 1) xs (λ k. out (suc k))

pub no_routine : (app : App) (s : State) → AreOut app s → routines_text app s ≡ []
no_routine app s out = none_from app s.processor 0 s.sources out
