-- the mode at the place of the name
use Rattle.std.proofs.Common.{ℕ, List, sym, ◌∙◌, ap, option_map}
use Rattle.std.specs.{List.{position}, Str.{bytes_eq}, declared.option.Option.{Option}}
use Rattle.osek_values.specs.Numbers.{mode_no}
use Rattle.command_runs.proofs.running.mode_named.Goals as goal

pub returns-in-Some-clause-mode : goal.returns-in-Some-clause-mode
returns-in-Some-clause-mode c =
    ap (λ (place : Option ℕ). option_map mode_no place)
    (sym c.in-Some.is ∙ c.place_of.ensures ∙ ap (λ (name : List ℕ). position (bytes_eq name) c.as_slice.result.now) c.as_bytes.ensures.value
    ∙ ap (λ (names : List (List ℕ)). position (bytes_eq c.args.name.now) names) c.as_slice.ensures)
