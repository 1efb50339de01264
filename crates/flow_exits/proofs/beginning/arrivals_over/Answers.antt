use Rattle.std.proofs.Common.{◌≡◌, ℕ, ◌++◌, ◌∷◌, [], Bool, true, false, ◌&&◌, refl, sym, ap, ◌∙◌, arith}
use Rattle.std.proofs.lemmas.Bool.{and_from}
use Rattle.abstract_state.proofs.RangeLaws.{passed_more, failed_more}
use Rattle.flow_model.specs.declared.rule.Rule.{Rule}
use Rattle.flow_exits.specs.Arrivals.{arrival_rule, fits_internal, is_lower}
use Rattle.flow_exits.proofs.beginning.arrivals_over.Goals.{then-is_lower+then-fits_internal+in_ok-rule+in_ok-push, else-is_lower, else-is_lower-via-then-is_lower+else-fits_internal, else-is_lower-via-else-is_lower}
use Rattle.flow_exits.proofs.beginning.arrivals_over.Goals as goal

second_fails : (a b : Bool) → b ≡ false → (a && b) ≡ false
second_fails true b e = e
second_fails false b e = refl

pub loop-source-preserved : goal.loop-source-preserved
loop-source-preserved c =
    let app = c.args.app.now in
    let k = c.loop-source.source in
    let lower : Bool = is_lower app c.args.running k in
    let fits : Bool = fits_internal app c.args.over k in
    let begins : ℕ → Bool = λ j. is_lower app c.args.running j && fits_internal app c.args.over j in
    let rule : ℕ → Rule = arrival_rule app c.args.over c.args.running in
    let xs = c.loop-source.rules in
    elim c.if-is_lower.branch [
      | then-is_lower+then-fits_internal+in_ok-rule+in_ok-push w ↦
          (let pushed : c.if-is_lower.rules ≡ w.push.new.self = cc in
          let low : lower ≡ true = sym c.is_lower.ensures ∙ w.if-is_lower.true in
          let fit : fits ≡ true = sym w.fits_internal.ensures ∙ w.if-fits_internal.true in
          pushed ∙ w.in_ok-push.ensures.ok ∙ ap (λ (r : Rule). xs ++ r ∷ []) w.in_ok-rule.ensures ∙ passed_more begins rule xs k c.loop-source.invariant (and_from lower fits low fit))
      | else-is_lower w ↦
          (let kept : c.if-is_lower.rules ≡ xs = cc in
          let fails : begins k ≡ false = elim w.else-is_lower.branch [
            | else-is_lower-via-then-is_lower+else-fits_internal v ↦ second_fails lower fits (sym v.fits_internal.ensures ∙ v.if-fits_internal.false)
            | else-is_lower-via-else-is_lower v ↦ ap (λ (b : Bool). b && fits) (sym c.is_lower.ensures ∙ v.if-is_lower.false)
          ] in
          kept ∙ failed_more begins rule xs k c.loop-source.invariant fails)
    ]

pub arrival_rule-requires-clause-first : goal.arrival_rule-requires-clause-first
arrival_rule-requires-clause-first c = c.first_number-first.ensures (omega arith)
