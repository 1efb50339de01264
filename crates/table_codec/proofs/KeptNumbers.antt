-- Numbered entries whose empty sets are those of an entry before.
use Rattle.std.proofs.Common.{◌≡◌, ◌≢◌, ℕ, ◌+◌, ◌-◌, ◌<◌, ◌≤◌, ◌==◌, true, false, List, [], ◌∷◌, ◌++◌, length, map, get_or, set, refl, sym, ap, subst, ◌∙◌, inl, inr, arith, get_or-set_same, get_or-set_other}
use Rattle.std.proofs.{Math.{ListN.{get_or-eq_default}, Seq.{get_or-append_seam}}, lemmas.{Bool.{cases_eq, eqb-true}, List.{length-map, length_push, get_or-map}}}
use Rattle.osek_standard.specs.declared.app.App.{App}
use Rattle.abstract_state.specs.declared.{value.{Domain.{Domain}, PartValue.{PartValue}}, table.{ValueSet.{ValueSet}, PlainEntry.{PlainEntry}, TableRow.{TableRow}}}
use Rattle.abstract_state.specs.{Domains.{domains}, Tables.{empty_set, set_at}}
use Rattle.numbered_sets.specs.{declared.{numbered_entry.NumberedEntry.{NumberedEntry}, table.NumberedRow.{NumberedRow}}, Numbers.{Numbers}}
use Rattle.numbered_sets.specs.{NumberedEntries.{no_set, numbers_at, number_domains}, Pools.{Values, pool_domains}, Views.{plain_entry, AreNumbersOf, IsNumberedSet}, PlainTables.{plain_row, plain_rows}}
use Rattle.numbered_sets.proofs.{CopiedEntries.{domains_put}, PlainLaws.{plain_set_at}}
use Rattle.numbered_sets.proofs.NumberingLaws.{AreNumberedUpTo, longer_itself, as_many_sets, domain_there, numbered_known, numbered_plain}
use Rattle.table_codec.specs.Kept.{numbers_or, IsFilled, filled, set_or, members_or, last_entry, no_row, AreKept}
use Rattle.table_codec.proofs.KeptSets.{domains_or, or_at}

-- by the test of a set's values
pub numbers_before : (vs : List PartValue) (x y : Numbers) → (length vs == 0) ≡ true → numbers_or x vs y ≡ x
numbers_before [] x y e = refl
numbers_before (v ∷ vs) x y e = absurd (let none = eqb-true (length (v ∷ vs)) 0 e in omega (arith, none))

pub numbers_own : (vs : List PartValue) (x y : Numbers) → (length vs == 0) ≡ false → numbers_or x vs y ≡ y
numbers_own [] x y e = absurd (cc)
numbers_own (v ∷ vs) x y e = refl

domain_of_either : (vs : List PartValue) (x y : Numbers) (d : Domain) → x.domain ≡ d → y.domain ≡ d → (numbers_or x vs y).domain ≡ d
domain_of_either [] x y d h k = h
domain_of_either (v ∷ vs) x y d h k = k

-- ---- set by set

module _ (before : NumberedEntry) (read : PlainEntry) (old : NumberedEntry) where
  pub record AreFilledUpTo (k : ℕ) (new : NumberedEntry) : Type 0 where
    pub domains : number_domains new ≡ number_domains old
    pub done : (c : ℕ) → c < k → numbers_at new c ≡ numbers_or (numbers_at before c) (set_at read c).members (numbers_at old c)
    pub later : (c : ℕ) → k ≤ c → numbers_at new c ≡ numbers_at old c

  pub filled_begun : AreFilledUpTo 0 old
  filled_begun = record { domains = refl; done = λ c lt. absurd (omega (arith, lt)); later = λ c le. refl }

  pub filled_next : number_domains before ≡ domains read → number_domains old ≡ domains read → (k : ℕ) (new after : NumberedEntry) → k < length read.sets → AreFilledUpTo k new
      → after.sets ≡ set new.sets k (numbers_or (numbers_at before k) (set_at read k).members (numbers_at new k)) → AreFilledUpTo (k + 1) after
  filled_next of_before of_old k new after lt h is =
      let x = numbers_or (numbers_at before k) (set_at read k).members (numbers_at new k) in
      let of_new : number_domains new ≡ domains read = h.domains ∙ of_old in
      let many : length new.sets ≡ length read.sets = as_many_sets new.sets read of_new in
      let known : k < length new.sets = omega (arith, lt, many) in
      let domain : x.domain ≡ (numbers_at new k).domain
      = domain_of_either (set_at read k).members (numbers_at before k) (numbers_at new k) (numbers_at new k).domain
      (domain_there before.sets read of_before k ∙ sym (domain_there new.sets read of_new k)) refl in
      let at : (c : ℕ) → numbers_at after c ≡ get_or (set new.sets k x) c no_set = λ c. ap (λ (xs : List Numbers). get_or xs c no_set) is in
      record {
        domains = ap (map (λ (y : Numbers). y.domain)) is ∙ domains_put new.sets k x known domain ∙ h.domains;
        done = λ c below. elim (cases_eq c k) [
          | inl same ↦
              subst (λ (j : ℕ). numbers_at after j ≡ numbers_or (numbers_at before j) (set_at read j).members (numbers_at old j)) (sym same)
              (at k ∙ get_or-set_same new.sets k x no_set known ∙ ap (λ (y : Numbers). numbers_or (numbers_at before k) (set_at read k).members y) (h.later k (omega arith)))
          | inr differ ↦ at c ∙ get_or-set_other new.sets k c x no_set differ ∙ h.done c (omega (arith, below, differ))
        ];
        later = λ c le. (let differ : c ≢ k = λ e. omega (arith, e, le) in at c ∙ get_or-set_other new.sets k c x no_set differ ∙ h.later c (omega (arith, le)));
      }

  pub filled_whole : (k : ℕ) (new : NumberedEntry) → length read.sets ≤ k → AreFilledUpTo k new → IsFilled before read old new
  filled_whole k new whole h = record { domains = h.domains; each = λ c lt. h.done c (omega (arith, lt, whole)) }

-- ---- what a filled entry means

module _ (pool : List Values) where
  numbered_there : (entry : NumberedEntry) → AreNumbersOf pool entry → (c : ℕ) → IsNumberedSet pool c (set_at (plain_entry pool entry) c) (numbers_at entry c)
  numbered_there entry are c = record {
    domain = sym (ap (λ (s : ValueSet). s.domain) (plain_set_at pool entry c));
    known = are.known c;
    plain = sym (plain_set_at pool entry c);
  }

  either_numbered : (c : ℕ) (b : ValueSet) (d : Domain) (vs : List PartValue) (x y : Numbers) → IsNumberedSet pool c b x → x.domain ≡ d → IsNumberedSet pool c (record { domain = d; members = vs }) y
      → IsNumberedSet pool c (record { domain = d; members = members_or b.members vs }) (numbers_or x vs y)
  either_numbered c b d [] x y h same k = record {
    domain = same;
    known = h.known;
    plain = (let values = ap (λ (s : ValueSet). s.members) h.plain in λ i. record { domain = same i; members = values i });
  }
  either_numbered c b d (v ∷ vs) x y h same k = k

  module _ (before : NumberedEntry) (read : PlainEntry) (old new : NumberedEntry) (of_before : AreNumbersOf pool before) (of_old : AreNumbersOf pool old) (same : domains read ≡ pool_domains pool) (is : plain_entry pool old ≡ read)
      (h : IsFilled before read old new) where
    abbrev target : PlainEntry
    target = filled (plain_entry pool before) read

    same_target : domains target ≡ domains read
    same_target = domains_or (plain_entry pool before) 0 read.sets

    filled_numbered : AreNumberedUpTo pool target (length target.sets) pool new.sets
    filled_numbered = record {
      longer = longer_itself pool;
      domains = h.domains ∙ of_old.domains ∙ sym same ∙ sym same_target;
      each = λ c lt.
          let many : length target.sets ≡ length read.sets = sym (length-map target.sets (λ (s : ValueSet). s.domain)) ∙ ap length same_target ∙ length-map read.sets (λ (s : ValueSet). s.domain) in
          let there : c < length read.sets = omega (arith, lt, many) in
          let s = set_at read c in
          let own : IsNumberedSet pool c s (numbers_at old c) = subst (λ (e : PlainEntry). IsNumberedSet pool c (set_at e c) (numbers_at old c)) is (numbered_there old of_old c) in
          let domain : (numbers_at before c).domain ≡ s.domain = domain_there before.sets read (of_before.domains ∙ sym same) c in
          let both = either_numbered c (set_at (plain_entry pool before) c) s.domain s.members (numbers_at before c) (numbers_at old c) (numbered_there before of_before c) domain own in
          subst (λ (t : ValueSet). IsNumberedSet pool c t (numbers_at new c)) (sym (or_at (plain_entry pool before) c read.sets empty_set there))
          (subst (IsNumberedSet pool c (set_or (set_at (plain_entry pool before) c) s)) (sym (h.each c there)) both);
    }

    pub filled_known : AreNumbersOf pool new
    filled_known = numbered_known pool target pool new (length target.sets) refl (same_target ∙ same) filled_numbered

    pub filled_plain : plain_entry pool new ≡ filled (plain_entry pool before) read
    filled_plain = numbered_plain pool target pool new (length target.sets) refl (same_target ∙ same) filled_numbered

-- ---- the entry of the last row

pub last_plain : (pool : List Values) (rows : List NumberedRow) (row : NumberedRow) → 0 < length rows → get_or rows (length rows - 1) row ≡ row → last_entry (plain_rows pool rows) ≡ plain_entry pool row.entry
last_plain pool rows row some at =
    let place : length (plain_rows pool rows) - 1 ≡ length rows - 1 = ap (λ (n : ℕ). n - 1) (length-map rows (plain_row pool)) in
    ap (λ (n : ℕ). (get_or (plain_rows pool rows) n no_row).entry) place
    ∙ ap (λ (r : TableRow). r.entry) (get_or-map (plain_row pool) rows (length rows - 1) row no_row (omega (arith, some)) ∙ ap (plain_row pool) at)

pub last_pushed : (rows : List TableRow) (row : TableRow) → last_entry (rows ++ row ∷ []) ≡ row.entry
last_pushed rows row =
    let place : length (rows ++ row ∷ []) - 1 ≡ length rows = omega (arith, length_push rows row) in
    ap (λ (n : ℕ). (get_or (rows ++ row ∷ []) n no_row).entry) place ∙ ap (λ (r : TableRow). r.entry) (get_or-append_seam rows row [] no_row)

pub last_none : (pool : List Values) (rows : List NumberedRow) → length rows ≡ 0 → last_entry (plain_rows pool rows) ≡ no_row.entry
last_none pool rows none = ap (λ (r : TableRow). r.entry) (get_or-eq_default (plain_rows pool rows) no_row (omega (arith, none, length-map rows (plain_row pool))))

-- the bytes that are kept are those of the last row's sets
pub record AreKeptByLast (app : App) (pool : List Values) (rows : List NumberedRow) (kept : List (List ℕ)) : Type 0 where
  pub are : AreKept app (last_entry (plain_rows pool rows)) kept
