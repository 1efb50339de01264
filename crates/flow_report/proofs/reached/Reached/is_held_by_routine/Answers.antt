use Rattle.std.proofs.Common.{◌≡◌, ℕ, false, true, refl, inl, inr, arith, sym, ap, subst, ◌∙◌}
use Rattle.std.proofs.lemmas.Bool.{cases_lt}
use Rattle.osek_values.specs.Numbers.{source_no}
use Rattle.abstract_state.specs.Components.{component_number}
use Rattle.abstract_state.specs.declared.value.Component.TheVariants as component
use Rattle.abstract_state.proofs.Numbers.{number_known}
use Rattle.flow_model.specs.declared.test.Test.TheVariants as test
use Rattle.numbered_sets.specs.Views.{plain_entry}
use Rattle.flow_report.specs.Reached.{HasPassing}
use Rattle.flow_report.proofs.PassingNumbers.{entry_count, rows_pool}
use Rattle.flow_report.proofs.reached.Reached.is_held_by_routine.Goals as goal

pub has_passing-requires-clause-numbers : goal.has_passing-requires-clause-numbers
has_passing-requires-clause-numbers c = c.requires.rows.known.each c.args.row.now c.requires.among

pub has_passing-requires-clause-values : goal.has_passing-requires-clause-values
has_passing-requires-clause-values c =
    let self = c.args.self.now in
    let count = rows_pool self.app.now self.pool.now self.rows.now c.requires.rows (omega (arith, c.requires.among.1)) in
    let known = number_known self.app.now (component.Source (source_no c.loop-source.source)) (omega arith) in
    omega (arith, count, known, c.index.ensures, c.component_number-component.ensures)

pub has_passing-requires-clause-set : goal.has_passing-requires-clause-set
has_passing-requires-clause-set c =
    let self = c.args.self.now in
    let row = c.args.row.now in
    let count = rows_pool self.app.now self.pool.now self.rows.now c.requires.rows (omega (arith, c.requires.among.1)) in
    let known = number_known self.app.now (component.Source (source_no c.loop-source.source)) (omega arith) in
    omega (arith, count, entry_count self.pool.now row.entry (c.requires.rows.known.each row c.requires.among), known, c.index.ensures, c.component_number-component.ensures)

pub loop-source-init : goal.loop-source-init
loop-source-init c = λ k lt h. omega (arith, lt)

pub returns-then-has_passing : goal.returns-then-has_passing
returns-then-has_passing c = (
  λ e. record {
    source = c.loop-source.source;
    known = omega arith;
    value = subst (λ (n : ℕ). HasPassing n (test.Holds c.args.resource) (plain_entry c.args.self.now.pool.now c.args.row.now.entry)) (c.index.ensures ∙ c.component_number-component.ensures) (c.has_passing.ensures.0 c.if-has_passing.true);
  },
  λ h. refl,
)

pub loop-source-preserved : goal.loop-source-preserved
loop-source-preserved c = λ k lt h. elim (cases_lt k c.loop-source.source) [
  | inl less ↦ c.loop-source.invariant k less h
  | inr le ↦
      (let at : k ≡ c.loop-source.source = omega (arith, lt, le) in
      let app = c.args.self.now.app.now in
      let is : component_number app (component.Source (source_no k)) ≡ c.index.result = ap (λ (n : ℕ). component_number app (component.Source (source_no n))) at ∙ sym (c.index.ensures ∙ c.component_number-component.ensures) in
      let here = subst (λ (n : ℕ). HasPassing n (test.Holds c.args.resource) (plain_entry c.args.self.now.pool.now c.args.row.now.entry)) is h in
      let wrong : false ≡ true = sym c.if-has_passing.false ∙ c.has_passing.ensures.1 here in
      absurd (cc))
]

pub returns : goal.returns
returns c = (
  λ e. absurd (cc),
  λ h. absurd (c.loop-source.invariant h.source (omega (arith, h.known)) h.value),
)
