-- The set of what one change makes of the values of another set.
use Rattle.std.proofs.Common.{◌≡◌, ℕ, List, length, sym, subst, ◌∙◌, arith, IsTrue}
use Rattle.abstract_state.specs.{declared.value.PartValue.{PartValue}, Tables.{is_member}}
use Rattle.flow_model.specs.{declared.change.{Change.{Change}, Update.{Update}}, Tests.{updated, value_after}}
use Rattle.numbered_sets.specs.{Numbers.{Numbers, has_number}, Pools.{Values, values_at, IsNumberOf, IsLonger}, Views.{values_with, plain_set}, Made.{AreMade}}
use Rattle.numbered_sets.proofs.{PlainLaws.{ascending_in_order, member_of_plain, value_with_number}, KnownNumbers.{found}, MadeLaws.{number_stays, number_was}}
use Rattle.point_exits.specs.{Applying.{IsPassedSet}, Changing.{making}}

-- a value with a number of a set is a member of it
pub number_is_member : (vs : List PartValue) (x : Numbers) (n : ℕ) (v : PartValue) → IsNumberOf vs v n → IsTrue (has_number x n) → IsTrue (is_member (plain_set vs x) v)
number_is_member vs x n v is there = member_of_plain vs x v ∙ value_with_number vs (has_number x) n v is.known (is.is v) there

pub made_passed : (xs : List Change) (u : Update) (before after : List Values) (c : ℕ) (old new : Numbers) → ((v : PartValue) → value_after xs c v ≡ updated u v) → IsLonger before after
    → AreMade (updated u) (values_at after c) old (length (values_at before c)) new → IsPassedSet (making xs) before c old after new
made_passed xs u before after c old new becomes longer h = record {
  domain = h.domain;
  known = λ m has. (h.from m has).is.known;
  passed = record {
    domain = h.domain;
    ascending = ascending_in_order (values_with (values_at after c) (has_number new));
    from = λ w m.
        (let f = found (values_at after c) (has_number new) w (sym (member_of_plain (values_at after c) new w) ∙ m) in
        let x = h.from f.number f.there in
        let was : IsNumberOf (values_at before c) x.value x.number = number_was (values_at before c) (values_at after c) x.value x.number (longer.values c) x.below x.was in
        record {
          was = x.value;
          there = number_is_member (values_at before c) old x.number x.value was x.there;
          passes = λ y listed _. absurd (let none = listed.1 in omega (arith, none));
          becomes = becomes x.value ∙ sym (x.is.is w) ∙ f.is w;
        });
    to = λ v m p.
        (let f = found (values_at before c) (has_number old) v (sym (member_of_plain (values_at before c) old v) ∙ m) in
        let here : IsNumberOf (values_at before c) v f.number = record { known = f.known; is = f.is } in
        let x = h.to f.number v f.known f.there (number_stays (values_at before c) (values_at after c) v f.number (longer.values c) here) in
        subst (λ (w : PartValue). IsTrue (is_member (plain_set (values_at after c) new) w)) (sym (becomes v)) (number_is_member (values_at after c) new x.0 (updated u v) x.1 x.2));
  };
}
