-- An entry's values that pass a test, by number.
use Rattle.std.proofs.Common.{◌≡◌, ℕ, ◌+◌, ◌<◌, ◌≤◌, true, false, List, [], ◌∷◌, length, get_or, IsTrue, refl, sym, ap, ◌∙◌, inl, inr, arith}
use Rattle.std.specs.{Prelude.{Contains}}
use Rattle.std.proofs.lemmas.{Bool.{cases_order}, List.{length-map}}
use Rattle.osek_standard.specs.declared.app.App.{App}
use Rattle.abstract_state.specs.declared.{value.{Domain.{Domain}, PartValue.{PartValue}}, table.{ValueSet.{ValueSet}}}
use Rattle.abstract_state.specs.{Components.{components, component_count}, Domains.{domain_of, domains_of}, Tables.{is_member}, Written.{IsRow}}
use Rattle.flow_model.specs.{declared.test.Test.{Test}, Tests.{passes}}
use Rattle.numbered_sets.specs.{declared.{numbered_entry.NumberedEntry.{NumberedEntry}, table.NumberedRow.{NumberedRow}}}
use Rattle.numbered_sets.specs.{Numbers.{Numbers, has_number}, NumberedEntries.{numbers_at}, Pools.{Values, values_at, pool_domains, IsNumberOf}, Views.{plain_entry, AreNumbersOf}}
use Rattle.numbered_sets.specs.PlainTables.{plain_row, plain_rows, plain_table}
use Rattle.numbered_sets.proofs.{PlainLaws.{member_of_plain, plain_set_at, value_with_number}, KnownNumbers.{found}}
use Rattle.numbered_sets.proofs.{WrittenRows.{row_there, number_domains_of}}
use Rattle.table_rows.specs.Rows.{AreRowsFrom}
use Rattle.flow_report.specs.Reached.{HasPassing}

module _ (vs : List PartValue) (t : Test) (x : Numbers) (end : ℕ) where
  -- in a loop over an entry's numbers of a component: none of those below one is of a value that passes
  pub record NonePasses (number : ℕ) : Type 0 where
    pub none : (k : ℕ) (d : PartValue) → k < number → has_number x k ≡ true → passes t (get_or vs k d) ≡ true → ⊥
    pub few : number ≤ end
    pub there : number < end → IsTrue (has_number x number)

  pub none_first : (first : ℕ) → first ≤ end → (first < end → IsTrue (has_number x first)) → ((k : ℕ) → 0 ≤ k → k < first → has_number x k ≡ false) → NonePasses first
  none_first first few there none = record {
    none = λ k d lt has passed. (let no = none k (omega arith) lt in absurd (cc));
    few = few;
    there = there;
  }

  pub none_next : (number next : ℕ) (v : PartValue) → NonePasses number → IsNumberOf vs v number → passes t v ≡ false
      → next ≤ end → (next < end → IsTrue (has_number x next)) → ((k : ℕ) → number + 1 ≤ k → k < next → has_number x k ≡ false) → NonePasses next
  none_next number next v h is failed few there none = record {
    none = λ k d lt has passed. elim (cases_order k number) [
      | inl same ↦ (let fails : passes t (get_or vs k d) ≡ false = ap (λ (n : ℕ). passes t (get_or vs n d)) same ∙ ap (passes t) (is.is d) ∙ failed in absurd (cc))
      | inr (inl below) ↦ h.none k d below has passed
      | inr (inr above) ↦ (let no = none k (omega (arith, above)) lt in absurd (cc))
    ];
    few = few;
    there = there;
  }

module _ (pool : List Values) (entry : NumberedEntry) (c : ℕ) (t : Test) where
  pub passing_by_number : (n : ℕ) (v : PartValue) → has_number (numbers_at entry c) n ≡ true → IsNumberOf (values_at pool c) v n → passes t v ≡ true → HasPassing c t (plain_entry pool entry)
  passing_by_number n v has is passed =
      let vs = values_at pool c in
      record {
        value = v;
        member = ap (λ (s : ValueSet). is_member s v) (plain_set_at pool entry c) ∙ member_of_plain vs (numbers_at entry c) v ∙ value_with_number vs (has_number (numbers_at entry c)) n v is.known (is.is v) has;
        passes = passed;
      }

  pub none_passing : (end number : ℕ) → NonePasses (values_at pool c) t (numbers_at entry c) end number → length (values_at pool c) ≤ number → HasPassing c t (plain_entry pool entry) → ⊥
  none_passing end number none whole h =
      let vs = values_at pool c in
      let n = found vs (has_number (numbers_at entry c)) h.value (sym (member_of_plain vs (numbers_at entry c) h.value) ∙ sym (ap (λ (s : ValueSet). is_member s h.value) (plain_set_at pool entry c)) ∙ h.member) in
      none.none n.number h.value (omega (arith, n.known, whole)) n.there (ap (passes t) (n.is h.value) ∙ h.passes)

-- ---- a pool of which a row has numbers has values for each component

pub pool_count : (app : App) (pool : List Values) (row : NumberedRow) → AreNumbersOf pool row.entry → IsRow app (plain_row pool row) → length pool ≡ component_count app
pool_count app pool row known is =
    let same : pool_domains pool ≡ domains_of app = sym known.domains ∙ number_domains_of app pool row is in
    sym (length-map pool (λ (x : Values). x.domain)) ∙ ap (λ (ds : List Domain). length ds) same ∙ length-map (components app) (domain_of app)

pub entry_count : (pool : List Values) (entry : NumberedEntry) → AreNumbersOf pool entry → length entry.sets ≡ length pool
entry_count pool entry known =
    sym (length-map entry.sets (λ (x : Numbers). x.domain)) ∙ ap (λ (ds : List Domain). length ds) known.domains ∙ length-map pool (λ (x : Values). x.domain)

-- the pool of written rows, if there are any
pub rows_pool : (app : App) (pool : List Values) (rows : List NumberedRow) → AreRowsFrom app pool rows → 0 < length rows → length pool ≡ component_count app
rows_pool app pool [] are some = absurd (omega (arith, some))
rows_pool app pool (x ∷ xs) are some =
    let first : Contains (plain_rows pool (x ∷ xs)) (plain_row pool x) = (0, omega arith, refl) in
    pool_count app pool x (are.known.each x (0, omega arith, refl)) (row_there app (plain_table pool (x ∷ xs)) are.written (plain_row pool x) first)
