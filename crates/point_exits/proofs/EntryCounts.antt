-- How many sets an entry has, and a pool: those of the application's components.
use Rattle.std.proofs.{Common.{◌≡◌, ℕ, ◌<◌, ◌≤◌, List, length, get_or, sym, ap, ◌∙◌, arith}, Math.ListN.{get_or-map}, lemmas.List.{length-map}}
use Rattle.osek_values.specs.Numbers.{alarm_no, task_no}
use Rattle.osek_standard.specs.declared.app.App.{App}
use Rattle.abstract_state.specs.{declared.{value.Domain.{Domain}, table.ValueSet.{ValueSet}}, Components.{components, component_count}}
use Rattle.abstract_state.specs.declared.value.Component.TheVariants as component
use Rattle.abstract_state.specs.declared.value.Domain.TheVariants as domain
use Rattle.abstract_state.specs.Domains.{domain_of, domains_of}
use Rattle.abstract_state.proofs.ComponentLaws.{task_at_its_number}
use Rattle.flow_model.specs.{declared.rule.Rule.{Rule}, Tests.{value_after}, Rules.{Applies}}
use Rattle.numbered_sets.specs.{declared.numbered_entry.NumberedEntry.{NumberedEntry}, Numbers.{Numbers}, NumberedEntries.{numbers_at, number_domains, AreFilled}}
use Rattle.numbered_sets.specs.{Pools.{Values, no_values, domain_at, pool_domains}, Views.{plain_entry}}
use Rattle.numbered_sets.proofs.ViewLaws.{same_domains}
use Rattle.flow_exits.specs.Exits.{IsFilled}
use Rattle.point_exits.proofs.{LeftLaws.{tasks_counted}, NumberLaws.{member_number, number_fills}}

-- an entry with the components' domains has a set for each
pub sets_counted : (app : App) (pool : List Values) (entry : NumberedEntry) → number_domains entry ≡ domains_of app → length (plain_entry pool entry).sets ≡ component_count app
sets_counted app pool entry e =
    sym (length-map (plain_entry pool entry).sets (λ (s : ValueSet). s.domain)) ∙ ap (λ (ds : List Domain). length ds) (same_domains pool 0 entry.sets ∙ e) ∙ length-map (components app) (domain_of app)

-- a pool for the application's components has values of each, and of each task
pub pool_counted : (app : App) (pool : List Values) → pool_domains pool ≡ domains_of app → length pool ≡ component_count app
pool_counted app pool same = sym (length-map pool (λ (x : Values). x.domain)) ∙ ap (λ (ds : List Domain). length ds) same ∙ length-map (components app) (domain_of app)

pub pool_has_tasks : (app : App) (pool : List Values) → pool_domains pool ≡ domains_of app → length app.tasks ≤ length pool
pool_has_tasks app pool same = omega (arith, pool_counted app pool same, tasks_counted app)

pub task_domain : (app : App) (pool : List Values) → pool_domains pool ≡ domains_of app → (t : ℕ) → t < length app.tasks → domain_at pool t ≡ domain_of app (component.Task (task_no t))
task_domain app pool same t known =
    sym (get_or-map (λ (x : Values). x.domain) pool t (no_values domain.Alarm))
    ∙ ap (λ (ds : List Domain). get_or ds t domain.Alarm) same
    ∙ get_or-map (domain_of app) (components app) t (component.Alarm (alarm_no 0))
    ∙ ap (domain_of app) (task_at_its_number app t known)

-- an entry with the components' domains has a set of numbers for each
pub numbers_counted : (app : App) (entry : NumberedEntry) → number_domains entry ≡ domains_of app → length entry.sets ≡ component_count app
numbers_counted app entry e = sym (length-map entry.sets (λ (x : Numbers). x.domain)) ∙ ap (λ (ds : List Domain). length ds) e ∙ length-map (components app) (domain_of app)

-- an entry that means a value of each component has a number in each set
pub filled_numbers : (app : App) (pool : List Values) (entry : NumberedEntry) → number_domains entry ≡ domains_of app → IsFilled app (plain_entry pool entry) → AreFilled entry
filled_numbers app pool entry alike filled = record {
  each = λ c lt.
      (let some = filled c (omega (arith, lt, numbers_counted app entry alike)) in
      let n = member_number pool entry c some.value some.member in
      number_fills (numbers_at entry c) n.number n.has_it);
}

-- what an effect makes of an entry has a number in each set
pub applied_filled : (app : App) (rule : Rule) (pool after : List Values) (entry made : NumberedEntry) → number_domains entry ≡ domains_of app → number_domains made ≡ number_domains entry → Applies rule (plain_entry pool entry) (plain_entry after made) → AreFilled made
applied_filled app rule pool after entry made alike same applies = record {
  each = λ c lt.
      (let size = sets_counted app pool entry alike in
      let long = numbers_counted app made (same ∙ alike) in
      let there : c < length (plain_entry pool entry).sets = omega (arith, lt, size, long) in
      let t = applies.filled c there in
      let n = member_number after made c (value_after rule.changes c t.was) (applies.to c t.was there t.there t.passes) in
      number_fills (numbers_at made c) n.number n.has_it);
}
