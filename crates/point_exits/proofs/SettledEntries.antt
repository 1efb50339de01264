-- What the values of settled numbers are: those that the decision makes of the values before.
use Rattle.std.proofs.Common.{◌≡◌, ℕ, ◌<◌, Bool, true, false, List, length, refl, sym, ap, subst, ◌∙◌, inl, inr, arith, IsTrue, get_or-set_same, get_or-set_other}
use Rattle.std.specs.Prelude.{if◌then◌else◌}
use Rattle.std.proofs.lemmas.{Bool.{cases_eq, cases_lt}, List.{length-set}}
use Rattle.osek_standard.specs.declared.app.App.{App}
use Rattle.abstract_state.specs.declared.{value.PartValue.{PartValue}, table.ValueSet.{ValueSet}}
use Rattle.abstract_state.specs.{Components.{component_count}, Tables.{set_at, is_member}}
use Rattle.flow_model.specs.declared.change.Update.TheVariants as update
use Rattle.flow_model.specs.{Effects.{AreIn}, Tests.{updated}}
use Rattle.numbered_sets.specs.{declared.numbered_entry.NumberedEntry.{NumberedEntry}, Numbers.{Numbers, has_number}, NumberedEntries.{no_set, numbers_at}, Pools.{Values, values_at}}
use Rattle.numbered_sets.specs.Views.{plain_set, plain_entry, AreNumbersOf}
use Rattle.numbered_sets.proofs.PlainLaws.{plain_set_at}
use Rattle.flow_exits.specs.Exits.{IsFilled}
use Rattle.point_exits.specs.{Groups.{holding}, Settling.{AreSettled, IsSettledEntry}}
use Rattle.point_exits.proofs.{NumberLaws.{member_number, number_member}, NumbersPassing.{domains_alike}}

-- what becomes of a value
abbrev pub settled_if : Bool → PartValue → PartValue
settled_if goes v = if goes then updated update.Inside v else v

pub settled_domain : (goes : Bool) (vs : List PartValue) (old new : Numbers) → AreSettled goes vs old new → new.domain ≡ old.domain
settled_domain true vs old new made = made.domain
settled_domain false vs old new same = ap (λ (x : Numbers). x.domain) same

pub settled_below : (goes : Bool) (vs : List PartValue) (old new : Numbers) → ((n : ℕ) → IsTrue (has_number old n) → n < length vs) → AreSettled goes vs old new → (n : ℕ) → IsTrue (has_number new n) → n < length vs
settled_below true vs old new known made n has = (made.from n has).is.known
settled_below false vs old new known same n has = known n (ap (λ (x : Numbers). has_number x n) (sym same) ∙ has)

-- values of which these come
pub record IsSettledOf (entry : (ℕ → PartValue → Type 0)) (goes : ℕ → Bool) (count : ℕ) (value : ℕ → PartValue) : Type 0 where
  pub before : ℕ → PartValue
  pub there : (c : ℕ) → c < count → entry c (before c)
  pub settles : (c : ℕ) → c < count → settled_if (goes c) (before c) ≡ value c

module _ (goes : ℕ → Bool) (pool : List Values) (entry after : NumberedEntry) (h : IsSettledEntry goes pool entry after) where
  same_member : (c : ℕ) → numbers_at after c ≡ numbers_at entry c → set_at (plain_entry pool after) c ≡ set_at (plain_entry pool entry) c
  same_member c same = plain_set_at pool after c ∙ ap (plain_set (values_at pool c)) same ∙ sym (plain_set_at pool entry c)

  member_by : (c : ℕ) (b : Bool) → AreSettled b (values_at pool c) (numbers_at entry c) (numbers_at after c) → (v : PartValue) → IsTrue (is_member (set_at (plain_entry pool entry) c) v)
      → IsTrue (is_member (set_at (plain_entry pool after) c) (settled_if b v))
  member_by c true made v m =
      let x = member_number pool entry c v m in
      let to = made.to x.number v x.is.known x.has_it x.is in
      number_member pool after c (updated update.Inside v) to.0 to.2 to.1
  member_by c false same v m = ap (λ (s : ValueSet). is_member s v) (same_member c same) ∙ m

  pub settled_member : (c : ℕ) (v : PartValue) → IsTrue (is_member (set_at (plain_entry pool entry) c) v) → IsTrue (is_member (set_at (plain_entry pool after) c) (settled_if (goes c) v))
  settled_member c v m = member_by c (goes c) (h.each c) v m

  before_by : (c : ℕ) (b : Bool) → AreSettled b (values_at pool c) (numbers_at entry c) (numbers_at after c) → (v : PartValue) → IsTrue (is_member (set_at (plain_entry pool after) c) v)
      → (w : PartValue) × IsTrue (is_member (set_at (plain_entry pool entry) c) w) × (settled_if b w ≡ v)
  before_by c true made v m =
      let x = member_number pool after c v m in
      let from = made.from x.number x.has_it in
      (from.value, number_member pool entry c from.value from.number from.there from.was, sym (from.is.is v) ∙ x.is.is v)
  before_by c false same v m = (v, ap (λ (s : ValueSet). is_member s v) (sym (same_member c same)) ∙ m, refl)

  pub settled_known : AreNumbersOf pool entry → AreNumbersOf pool after
  settled_known known = record {
    domains = domains_alike after.sets entry.sets h.size (λ c. settled_domain (goes c) (values_at pool c) (numbers_at entry c) (numbers_at after c) (h.each c)) ∙ known.domains;
    known = λ c. settled_below (goes c) (values_at pool c) (numbers_at entry c) (numbers_at after c) (known.known c) (h.each c);
  }

  module _ (app : App) where
    -- what becomes of the entry's values is in the settled one
    pub settled_in : (value : ℕ → PartValue) → AreIn app (plain_entry pool entry) value → AreIn app (plain_entry pool after) (λ c. settled_if (goes c) (value c))
    settled_in value within c lt = settled_member c (value c) (within c lt)

    -- and all that is in it comes of them
    pub settled_from : (value : ℕ → PartValue) → AreIn app (plain_entry pool after) value
        → IsSettledOf (λ c v. IsTrue (is_member (set_at (plain_entry pool entry) c) v)) goes (component_count app) value
    settled_from value within = record {
      before = λ c. (its c).0;
      there = λ c lt. (its c).1 lt;
      settles = λ c lt. (its c).2 lt;
    }
      where
        its : (c : ℕ) → (w : PartValue) × (c < component_count app → IsTrue (is_member (set_at (plain_entry pool entry) c) w)) × (c < component_count app → settled_if (goes c) w ≡ value c)
        its c = elim (cases_lt c (component_count app)) [
          | inl lt ↦ (let x = before_by c (goes c) (h.each c) (value c) (within c lt) in (x.0, λ _. x.1, λ _. x.2))
          | inr past ↦ (value c, λ lt. absurd (omega (arith, lt, past)), λ lt. absurd (omega (arith, lt, past)))
        ]

    pub settled_filled : IsFilled app (plain_entry pool entry) → IsFilled app (plain_entry pool after)
    settled_filled filled c lt = (let x = filled c lt in record { value = settled_if (goes c) x.value; member = settled_member c x.value x.member })

  -- so it is with some numbers alone of a component
  pub settled_held : (c : ℕ) (x y : Numbers) → c < length entry.sets → AreSettled (goes c) (values_at pool c) x y → IsSettledEntry goes pool (holding entry c x) (holding after c y)
  settled_held c x y there settled = record {
    size = length-set after.sets c y ∙ h.size ∙ sym (length-set entry.sets c x);
    each = λ k. elim (cases_eq k c) [
      | inl same ↦
          subst (λ (j : ℕ). AreSettled (goes j) (values_at pool j) (numbers_at (holding entry c x) j) (numbers_at (holding after c y) j)) (sym same)
          (subst (λ (z : Numbers). AreSettled (goes c) (values_at pool c) z (numbers_at (holding after c y) c)) (sym (get_or-set_same entry.sets c x no_set there))
          (subst (AreSettled (goes c) (values_at pool c) x) (sym (get_or-set_same after.sets c y no_set (omega (arith, there, h.size)))) settled))
      | inr other ↦
          subst (λ (z : Numbers). AreSettled (goes k) (values_at pool k) z (numbers_at (holding after c y) k)) (sym (get_or-set_other entry.sets c k x no_set other))
          (subst (AreSettled (goes k) (values_at pool k) (numbers_at entry k)) (sym (get_or-set_other after.sets c k y no_set other)) (h.each k))
    ];
  }
