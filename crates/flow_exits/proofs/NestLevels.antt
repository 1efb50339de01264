-- Interrupt levels by the parts of a state: a source's priority is at least the level where nothing that it holds or runs at keeps
-- the source out.
use Rattle.std.proofs.Common.{◌≡◌, ℕ, ◌<◌, ◌≤◌, Bool, true, false, not, ◌||◌, nat_lt, List, [], ◌∷◌, length, refl, sym, ap, ap₂, subst, ◌∙◌, inl, inr, arith, Some, None}
use Rattle.std.specs.{Prelude.{max, is_some, if◌then◌else◌}, List.{cons_option, fold, list_any, range_with_len}, declared.option.Option.{Option}}
use Rattle.std.proofs.lemmas.{Bool.{cases_lt, Decides.{nat_tests}}, List.{get_or_past}}
use Rattle.osek_values.specs.{Bits.{has_bit}, declared.numbers.{TaskNo.{TaskNo}, ResNo.{ResNo}}}
use Rattle.oil_system.specs.declared.objects.Resource.{Resource}
use Rattle.osek_standard.specs.declared.{app.App.{App}, state.{State.{State}, Source.{Source}}}
use Rattle.osek_standard.specs.declared.state.Source.TheVariants as source
use Rattle.osek_standard.specs.{Apps.{no_resource, source_priority}, TaskStates.{held, is_inside}, States.{source_state, task_of, task_state}, Internal.{internal_of, occupied}}
use Rattle.osek_standard.specs.Levels.{highest_level, interrupt_ceiling, level, own_level, routine_level, task_level}
use Rattle.osek_standard.proofs.Members.{Among, among_range, range_among}
use Rattle.abstract_state.proofs.BitLaws.{has_bit_of_number, no_bit_past}
use Rattle.flow_model.specs.Tests.{is_none_of}
use Rattle.flow_exits.specs.Arrivals.{ceilings_above, lets_in}

module _ {X : Type 0} (f : X → ℕ) where
  -- the greatest of a number and of what the elements give
  abbrev most : ℕ → List X → ℕ
  most n xs = fold (λ m x. max m (f x)) n xs

  most_from : (n : ℕ) (xs : List X) → n ≤ most n xs
  most_from n [] = omega arith
  most_from n (x ∷ xs) = omega (arith, most_from (max n (f x)) xs)

  most_of : (n : ℕ) (xs : List X) (x : X) → Among x xs → f x ≤ most n xs
  most_of n [] x m = absurd m
  most_of n (y ∷ xs) x (inl e) = omega (arith, most_from (max n (f y)) xs, ap f e)
  most_of n (y ∷ xs) x (inr m) = most_of (max n (f y)) xs x m

  most_by : (p n : ℕ) (xs : List X) → n ≤ p → ((x : X) → Among x xs → f x ≤ p) → most n xs ≤ p
  most_by p n [] low each = low
  most_by p n (x ∷ xs) low each = let here = each x (inl refl) in most_by p (max n (f x)) xs (omega (arith, low, here)) (λ y m. each y (inr m))

module _ (app : App) (p : ℕ) where
  -- the mask has the resources whose interrupt ceiling is above
  bit_above : (r : ℕ) → has_bit (ceilings_above app p).0 r ≡ nat_lt p (interrupt_ceiling app r)
  bit_above r = elim (cases_lt r (length app.resources)) [
    | inl lt ↦ has_bit_of_number (λ q. nat_lt p (interrupt_ceiling app q)) (length app.resources) r lt
    | inr past ↦
        (let none : interrupt_ceiling app r ≡ 0 = ap (λ (x : Resource). x.interrupt_ceiling) (get_or_past app.resources r no_resource past) in
        let low : nat_lt p (interrupt_ceiling app r) ≡ false = grind (arith, nat_tests) in
        no_bit_past (λ q. nat_lt p (interrupt_ceiling app q)) (length app.resources) r past ∙ sym low)
  ]

  -- a stack whose level is no higher has none of them, and the other way round
  pub none_above : (base : ℕ) (h : List ResNo) → highest_level app base h ≤ p → is_none_of (ceilings_above app p).0 h ≡ true
  unfolding highest_level
  none_above base [] low = refl
  none_above base (r ∷ h) low =
      let least = most_from (λ (q : ResNo). interrupt_ceiling app q.0) (max base (interrupt_ceiling app r.0)) h in
      let here : nat_lt p (interrupt_ceiling app r.0) ≡ false = (let few : interrupt_ceiling app r.0 ≤ p = omega (arith, least, low) in grind (arith, nat_tests)) in
      ap (λ (b : Bool). not (b || list_any (λ (q : ResNo). has_bit (ceilings_above app p).0 q.0) h)) (bit_above r.0 ∙ here)
      ∙ none_above (max base (interrupt_ceiling app r.0)) h low

  both_not : (a b : Bool) → not (a || b) ≡ true → (a ≡ false) × (not b ≡ true)
  both_not true b e = absurd (cc)
  both_not false b e = (refl, e)

  pub low_level : (base : ℕ) (h : List ResNo) → base ≤ p → is_none_of (ceilings_above app p).0 h ≡ true → highest_level app base h ≤ p
  unfolding highest_level
  low_level base [] low none = low
  low_level base (r ∷ h) low none =
      let parts = both_not (has_bit (ceilings_above app p).0 r.0) (list_any (λ (q : ResNo). has_bit (ceilings_above app p).0 q.0) h) none in
      let here : nat_lt p (interrupt_ceiling app r.0) ≡ false = sym (bit_above r.0) ∙ parts.0 in
      let few : interrupt_ceiling app r.0 ≤ p = grind (arith, nat_tests) in
      low_level (max base (interrupt_ceiling app r.0)) h (omega (arith, low, few)) parts.1

  pub base_low : (base : ℕ) (h : List ResNo) → highest_level app base h ≤ p → base ≤ p
  unfolding highest_level
  base_low base h low = let least = most_from (λ (q : ResNo). interrupt_ceiling app q.0) base h in omega (arith, least, low)

module _ (app : App) (s : State) (k : ℕ) where
  abbrev own : ℕ
  own = source_priority app k

  -- ---- who is interrupted

  with_internal : (b : Bool) (o : Option ResNo) (h : List ResNo) → b ≡ is_some o → cons_option (if b then o else None) h ≡ cons_option o h
  with_internal true None h e = refl
  with_internal false None h e = refl
  with_internal true (Some r) h e = refl
  with_internal false (Some r) h e = absurd (cc)

  -- a task that has its INTERNAL resource, if it names one
  abbrev HasItsFlag : TaskNo → Type 0
  HasItsFlag t = is_inside (task_state s t.0) ≡ is_some (internal_of app t.0)

  occupied_is : (t : TaskNo) → HasItsFlag t → occupied app t.0 (task_state s t.0) ≡ cons_option (internal_of app t.0) (held (task_state s t.0))
  occupied_is t flag = with_internal (is_inside (task_state s t.0)) (internal_of app t.0) (held (task_state s t.0)) flag

  low_with : (o : Option ResNo) (h : List ResNo) → lets_in app o k ≡ true → is_none_of (ceilings_above app own).0 h ≡ true → highest_level app 0 (cons_option o h) ≤ own
  low_with None h lets none = low_level app own 0 h (omega arith) none
  low_with (Some r) h lets none =
      low_level app own 0 (r ∷ h) (omega arith)
      (ap₂ (λ (a b : Bool). not (a || b)) (bit_above app own r.0 ∙ not_above (nat_lt own (interrupt_ceiling app r.0)) lets) (none_is (list_any (λ (q : ResNo). has_bit (ceilings_above app own).0 q.0) h) none))
    where
      not_above : (b : Bool) → not b ≡ true → b ≡ false
      not_above true e = absurd (cc)
      not_above false e = refl

      none_is : (b : Bool) → not b ≡ true → b ≡ false
      none_is true e = absurd (cc)
      none_is false e = refl

  with_low : (o : Option ResNo) (h : List ResNo) → highest_level app 0 (cons_option o h) ≤ own → (lets_in app o k ≡ true) × (is_none_of (ceilings_above app own).0 h ≡ true)
  with_low None h low = (refl, none_above app own 0 h low)
  with_low (Some r) h low =
      let none = none_above app own 0 (r ∷ h) low in
      let parts = both_not app own (has_bit (ceilings_above app own).0 r.0) (list_any (λ (q : ResNo). has_bit (ceilings_above app own).0 q.0) h) none in
      (ap not (sym (bit_above app own r.0) ∙ parts.0), parts.1)

  -- it keeps source k out by nothing, exactly where its level is no higher
  pub task_low : (t : TaskNo) → HasItsFlag t → lets_in app (internal_of app t.0) k ≡ true → is_none_of (ceilings_above app own).0 (held (task_state s t.0)) ≡ true → task_level app s (Some t) ≤ own
  task_low t flag lets none = subst (λ (h : List ResNo). highest_level app 0 h ≤ own) (sym (occupied_is t flag)) (low_with (internal_of app t.0) (held (task_state s t.0)) lets none)

  pub low_task : (t : TaskNo) → HasItsFlag t → task_level app s (Some t) ≤ own → (lets_in app (internal_of app t.0) k ≡ true) × (is_none_of (ceilings_above app own).0 (held (task_state s t.0)) ≡ true)
  low_task t flag low = with_low (internal_of app t.0) (held (task_state s t.0)) (subst (λ (h : List ResNo). highest_level app 0 h ≤ own) (occupied_is t flag) low)

  -- ---- a source

  -- it is out, or of a lower priority and with nothing that keeps source k out
  abbrev pub LetsIn : ℕ → Source → Type 0
  LetsIn l source.Out = 0 ≤ own
  LetsIn l (source.In x) = (source_priority app l < own) × (is_none_of (ceilings_above app own).0 x.held ≡ true)

  pub source_low : (l : ℕ) (x : Source) → LetsIn l x → routine_level app l x ≤ own
  source_low l source.Out h = omega arith
  source_low l (source.In x) h = low_level app own (own_level app l) x.held (omega (arith, h.0)) h.1

  pub low_source : (l : ℕ) (x : Source) → routine_level app l x ≤ own → LetsIn l x
  low_source l source.Out low = omega arith
  low_source l (source.In x) low = (let least = base_low app own (own_level app l) x.held low in omega (arith, least), none_above app own (own_level app l) x.held low)

  -- ---- the level

  pub level_low : task_level app s (task_of s.processor) ≤ own → ((l : ℕ) → l < length s.sources → routine_level app l (source_state s l) ≤ own) → level app s ≤ own
  unfolding level
  level_low task each = most_by (λ (l : ℕ). routine_level app l (source_state s l)) own (task_level app s (task_of s.processor)) (range_with_len 0 (length s.sources)) task
      (λ l m. each l (let low = range_among 0 (length s.sources) l m in omega (arith, low.1)))

  pub low_by_task : level app s ≤ own → task_level app s (task_of s.processor) ≤ own
  unfolding level
  low_by_task low = let least = most_from (λ (l : ℕ). routine_level app l (source_state s l)) (task_level app s (task_of s.processor)) (range_with_len 0 (length s.sources)) in omega (arith, least, low)

  pub low_by_source : level app s ≤ own → (l : ℕ) → l < length s.sources → routine_level app l (source_state s l) ≤ own
  unfolding level
  low_by_source low l lt =
      let least = most_of (λ (j : ℕ). routine_level app j (source_state s j)) (task_level app s (task_of s.processor)) (range_with_len 0 (length s.sources)) l (among_range 0 (length s.sources) l (omega arith) (omega (arith, lt))) in
      omega (arith, least, low)
