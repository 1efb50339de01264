-- Routines over each other: their order, and which one goes on where another ends.
use Rattle.std.proofs.{Common.{◌≡◌, ℕ, ◌<◌, true, false, length, refl, ap, inl, inr, Some, None}, lemmas.{Bool.{cases_Bool, cases_lt}, List.{get_or_past}}}
use Rattle.std.specs.{Prelude.{option_map}, declared.option.Option.{Option}}
use Rattle.osek_values.specs.{declared.numbers.SourceNo.{SourceNo}, Numbers.{source_no}}
use Rattle.osek_standard.specs.{declared.{app.App.{App}, state.{State.{State}, Source.{Source}}}, Apps.{source_priority}, States.{is_in, source_state}}
use Rattle.osek_standard.specs.{Levels.{comes_before, entered_sources, next_routine}, Well.{AreOut}}
use Rattle.osek_standard.specs.declared.state.Source.TheVariants as source
use Rattle.osek_standard.proofs.{Members.{Among, among_passing, passing_among}, AheadLaws.{either_ahead, once_ahead, onward_ahead}}
use Rattle.osek_standard.proofs.FirstLaws.{Orders, first_is, is_first, first_none}

-- the order of the sources, by priority and number
pub source_orders : (app : App) → Orders (comes_before app)
source_orders app = record {
  either = λ k l. either_ahead (source_priority app k) k (source_priority app l) l;
  once = λ k l e f. once_ahead (source_priority app k) k (source_priority app l) l e f;
  onward = λ k l m e f. onward_ahead (source_priority app k) k (source_priority app l) l (source_priority app m) m e f;
}

pub number_of_source : (o : Option ℕ) (k : SourceNo) → option_map source_no o ≡ Some k → o ≡ Some k.0
number_of_source None k e = absurd (cc)
number_of_source (Some n) k e = cc

pub no_source : (o : Option ℕ) → option_map source_no o ≡ None → o ≡ None
no_source None e = refl
no_source (Some n) e = absurd (cc)

pub out_of : (x : Source) → is_in x ≡ false → x ≡ source.Out
out_of source.Out e = refl
out_of (source.In x) e = absurd (cc)

-- the routine k began, and comes before each other one that did
pub record IsNext (app : App) (s : State) (k : ℕ) : Type 0 where
  pub began : is_in (source_state s k) ≡ true
  pub before_each : (l : ℕ) → is_in (source_state s l) ≡ true → comes_before app k l ≡ true

module _ (app : App) (s : State) where
  -- a routine that began is one of a source
  pub entered_known : (k : ℕ) → is_in (source_state s k) ≡ true → k < length s.sources
  entered_known k e = elim (cases_lt k (length s.sources)) [
    | inl h ↦ h
    | inr h ↦ (let out : is_in (source_state s k) ≡ false = ap is_in (get_or_past s.sources k source.Out h) in absurd (cc))
  ]

  among_entered : (k : ℕ) → is_in (source_state s k) ≡ true → Among k (entered_sources app s)
  among_entered k e = among_passing (λ l. is_in (source_state s l)) (length s.sources) k (entered_known k e) e

  entered_among : (k : ℕ) → Among k (entered_sources app s) → is_in (source_state s k) ≡ true
  entered_among k m = (passing_among (λ l. is_in (source_state s l)) (length s.sources) k m).0

  -- the routine that goes on
  pub next_is : (k : SourceNo) → next_routine app s ≡ Some k → IsNext app s k.0
  next_is k e =
      let first = first_is (comes_before app) (entered_sources app s) k.0 (number_of_source _ k e) in
      record {
        began = entered_among k.0 first.among;
        before_each = λ l h. first.before_each l (among_entered l h);
      }

  pub is_next : (k : ℕ) → IsNext app s k → next_routine app s ≡ Some (source_no k)
  is_next k h = ap (option_map source_no) (is_first (comes_before app) (source_orders app) (entered_sources app s) k (record {
    among = among_entered k h.began;
    before_each = λ l m. h.before_each l (entered_among l m);
  }))

  -- where none goes on, all are out
  pub none_next : next_routine app s ≡ None → AreOut app s
  none_next e k = elim (cases_Bool (is_in (source_state s k))) [
    | inl began ↦ absurd (first_none (comes_before app) (source_orders app) (entered_sources app s) (no_source _ e) k (among_entered k began))
    | inr out ↦ out_of (source_state s k) out
  ]
