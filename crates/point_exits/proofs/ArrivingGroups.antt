-- The exits by which routines begin, one routine after another, in a pool that grows.
use Rattle.std.proofs.Common.{◌≡◌, ◌≢◌, ◌⊎◌, ℕ, ◌+◌, ◌<◌, ◌≤◌, Bool, true, false, ◌&&◌, List, [], ◌∷◌, ◌++◌, length, get_or, set, take, refl, sym, ap, subst, ◌∙◌, inl, inr, arith, None}
use Rattle.std.specs.{Prelude.{◌==◌, Contains}, List.{list_any}}
use Rattle.std.proofs.lemmas.Bool.{cases_Bool, eqb-true, and_parts, true≢false}
use Rattle.std.proofs.lemmas.List.{drop_all, get_or_default, take_more, take_all, Elements.{Contains-append_left, Contains-append_right, Contains-append_cases}}
use Rattle.osek_values.specs.Numbers.{source_no}
use Rattle.osek_standard.specs.{declared.{app.App.{App}, point.Point.{Point}}, Apps.{routine_start}}
use Rattle.osek_standard.proofs.Members.{among_contained, contained_among, among_map, map_among}
use Rattle.abstract_state.specs.declared.value.Component.TheVariants as component
use Rattle.abstract_state.specs.declared.value.SourceVal.TheVariants as source_val
use Rattle.abstract_state.specs.{declared.{table.PlainEntry.{PlainEntry}, value.PartValue.{PartValue}}, Components.{component_count, routine_val}, Domains.{domains_of}, Tables.{is_member}}
use Rattle.abstract_state.proofs.Numbers.{number_known}
use Rattle.flow_model.specs.declared.change.Update.{Update}
use Rattle.flow_model.specs.declared.change.Update.TheVariants as update
use Rattle.flow_model.specs.{declared.{change.Change.{Change}, rule.Rule.{Rule}, test.Condition.{Condition}}, Changes.{source_change}, Rules.{Applies, HasNone}, Tests.{updated}}
use Rattle.numbered_sets.specs.{declared.numbered_entry.NumberedEntry.{NumberedEntry}, Numbers.{Numbers}, NumberedEntries.{numbers_at, number_domains, AreFilled}, Pools.{Values, values_at, domain_at, IsLonger}, Views.{plain_set, plain_entry, AreNumbersOf}}
use Rattle.numbered_sets.proofs.{NumberingLaws.{longer_itself, longer_onward}, SiftLaws.{some_value}, ViewLaws.{same_view, still_known}}
use Rattle.flow_exits.specs.{Arrivals.{IsArrivalRule, AreArrivals}, declared.exit.Exit.{Exit}, Exits.{IsFilled}, Leaving.{IsArrivalExit, HasArrivalsFor}}
use Rattle.flow_exits.proofs.AfterEffect.{made_by, all_after, nothing_arrives}
use Rattle.point_exits.specs.declared.group.{NumberEnd.{NumberEnd}, ExitGroup.{ExitGroup}}
use Rattle.point_exits.specs.declared.group.Ends.TheVariants as ends_of
use Rattle.point_exits.specs.{Applying.{KeepsDomains, IsPassedSet, IsAloneIn}, Changing.{names, up_to, making, IsAlone, StaysWithin, AreAllPassed}, Passing.{AreTaken}, Sifting.{AreSifted}}
use Rattle.point_exits.specs.{Groups.{with_end, exit_at, exits_of, all_exits, IsKnownEnd, AreKnownGroups}, Leaving.{AddsRoutines, is_bare, IsAmongFirst, IsEndOf, IsSharedEnd, HasSharedEnd, AreSharedEnds}}
use Rattle.point_exits.proofs.{GroupLaws.{old_exit, new_exit, exit_cases, known_with}, GrowingPools.{end_known, exits_same, groups_known, known_ends}, NumberLaws.{filled_plain}}
use Rattle.point_exits.proofs.{NumbersPassing.{made_applies, alike_there}, SetValues.{alone_passed}, SiftedSets.{all_sifted, taken_of_filled}, ChangedSets.{alone_there, all_changes, changed_one, stays_within}}
use Rattle.point_exits.proofs.EntryCounts.{sets_counted, numbers_counted, applied_filled}

-- a rule of an arrival is one of them
pub arrival_listed : (app : App) (p : Point) (rules : List Rule) → AreArrivals app p rules → (rule : Rule) → IsArrivalRule app p rule → Contains rules rule
arrival_listed app p rules are rule r = subst (Contains rules) (sym r.is) (are.some r.source r.over r.running r.known r.may)

-- it changes a component of the application
pub arrival_known : (app : App) (p : Point) (rule : Rule) → IsArrivalRule app p rule → (x : Change) → get_or rule.changes 0 x ≡ x → x.component.0 < component_count app
arrival_known app p rule r x at =
    let first : get_or rule.changes 0 x ≡ source_change app r.source (source_val.In (routine_val (routine_start app r.source) [])) = ap (λ (y : Rule). get_or y.changes 0 x) r.is in
    subst (λ (y : Change). y.component.0 < component_count app) (sym first ∙ at) (number_known app (component.Source (source_no r.source)) r.known)

-- exits that were found are found among more
pub still_arrives : (app : App) (rule : Rule) (entry : PlainEntry) (some more : List Exit) → ((x : Exit) → Contains some x → Contains more x) →
    HasArrivalsFor app rule entry some → HasArrivalsFor app rule entry more
still_arrives app rule entry some more onward h value within passes =
    let x = h value within passes in
    record { exit = x.exit; listed = onward x.exit x.listed; target = x.target; decision = x.decision; status = x.status; within = x.within }

module _ (app : App) (p : Point) (entry : PlainEntry) where
  -- where no rule has the property
  pub no_routine : (P : Rule → Type 0) → ((rule : Rule) → P rule → ⊥) → (pool : List Values) (groups : List ExitGroup) → AreKnownGroups pool groups →
      AddsRoutines app p entry P pool groups pool groups
  no_routine P never pool groups known = record {
    longer = longer_itself pool;
    known = known;
    kept = λ x m. m;
    each = λ x m. inl m;
    some = λ rule has. absurd (never rule has);
  }

  -- those of one property and then those of another
  pub routines_then : (P Q R : Rule → Type 0) → ((rule : Rule) → R rule → P rule ⊎ Q rule) → (pool mid after : List Values) (a b c : List ExitGroup) →
      AddsRoutines app p entry P pool a mid b → AddsRoutines app p entry Q mid b after c → AddsRoutines app p entry R pool a after c
  routines_then P Q R either pool mid after a b c h k = record {
    longer = longer_onward pool mid after h.longer k.longer;
    known = k.known;
    kept = λ x m. k.kept x (h.kept x m);
    each = λ x m. elim (k.each x m) [
      | inl old ↦ h.each x old
      | inr new ↦ inr new
    ];
    some = λ rule r. elim (either rule r) [
      | inl first ↦ still_arrives app rule entry (all_exits mid b) (all_exits after c) k.kept (h.some rule first)
      | inr next ↦ k.some rule next
    ];
  }

  -- the same in a pool that grew
  pub routines_later : (P : Rule → Type 0) → (pool after later : List Values) (a b : List ExitGroup) → AddsRoutines app p entry P pool a after b → IsLonger after later → AddsRoutines app p entry P pool a later b
  routines_later P pool after later a b h longer =
      let same_there : all_exits later b ≡ all_exits after b = exits_same after later longer b h.known in
      record {
        longer = longer_onward pool after later h.longer longer;
        known = groups_known after later longer b h.known;
        kept = λ x m. subst (λ (xs : List Exit). Contains xs x) (sym same_there) (h.kept x m);
        each = λ x m. h.each x (subst (λ (xs : List Exit). Contains xs x) same_there m);
        some = λ rule has. subst (HasArrivalsFor app rule entry) (sym same_there) (h.some rule has);
      }

  -- the same where the property is called otherwise
  pub routines_alike : (P R : Rule → Type 0) → ((rule : Rule) → R rule → P rule) → (pool after : List Values) (a b : List ExitGroup) → AddsRoutines app p entry P pool a after b →
      AddsRoutines app p entry R pool a after b
  routines_alike P R has pool after a b h = record { longer = h.longer; known = h.known; kept = h.kept; each = h.each; some = λ rule r. h.some rule (has rule r) }

  module _ (size : length entry.sets ≡ component_count app) (rule : Rule) (arrival : IsArrivalRule app p rule) (pool after : List Values) (longer : IsLonger pool after)
      (before : List ExitGroup) (known : AreKnownGroups pool before) where
    same : all_exits after before ≡ all_exits pool before
    same = exits_same pool after longer before known

    -- a rule that takes no values
    pub routine_skipped : HasNone rule entry → AddsRoutines app p entry (λ (r : Rule). r ≡ rule) pool before after before
    routine_skipped none = record {
      longer = longer;
      known = groups_known pool after longer before known;
      kept = λ x m. subst (λ (xs : List Exit). Contains xs x) (sym same) m;
      each = λ x m. inl (subst (λ (xs : List Exit). Contains xs x) same m);
      some = λ r is. subst (λ (y : Rule). HasArrivalsFor app y entry (all_exits after before)) (sym is) (nothing_arrives app rule entry (all_exits after before) none size);
    }

    -- and one that takes some
    module _ (made : NumberedEntry) (numbers : AreNumbersOf after made) (filled : AreFilled made) (long : length made.sets ≡ component_count app)
        (applies : Applies rule entry (plain_entry after made)) where
      abbrev begun : ExitGroup
      begun = record { decision = None; status = None; entry = made; ends = ends_of.At (rule.target ∷ []) }

      abbrev exit : Exit
      exit = exit_at after begun made rule.target

      begins : IsArrivalExit app p entry exit
      begins = record {
        rule = rule;
        arrival = arrival;
        target = refl;
        decision = refl;
        status = refl;
        filled = filled_plain app after made numbers filled (omega (arith, long));
        comes = made_by app rule entry (plain_entry after made) size applies;
      }

      here : (x : Exit) → Contains (exits_of after begun) x → exit ≡ x
      here x m = elim (contained_among (exit ∷ []) x m) [ inl is ↦ sym is | inr none ↦ absurd none ]

      pub routine_begins : AddsRoutines app p entry (λ (r : Rule). r ≡ rule) pool before after (before ++ begun ∷ [])
      routine_begins = record {
        longer = longer;
        known = known_with after before begun (groups_known pool after longer before known) (record { numbers = numbers; ends = tt });
        kept = λ x m. old_exit after before begun x (subst (λ (xs : List Exit). Contains xs x) (sym same) m);
        each = λ x m. elim (exit_cases after before begun x m) [
          | inl old ↦ inl (subst (λ (xs : List Exit). Contains xs x) same old)
          | inr new ↦ inr (subst (IsArrivalExit app p entry) (here x new) begins)
        ];
        some = λ r is. subst (λ (y : Rule). HasArrivalsFor app y entry (all_exits after (before ++ begun ∷ []))) (sym is) (λ value within passes. record {
          exit = exit;
          listed = new_exit after before begun exit (among_contained (exit ∷ []) exit (inl refl));
          target = refl;
          decision = refl;
          status = refl;
          within = all_after app rule entry (plain_entry after made) size applies value within passes;
        });
      }

-- ---- routines that begin with all values

-- an end is one in a pool that grew
end_later : (rule : Rule) (entry : NumberedEntry) (before pool after : List Values) → IsLonger pool after → AreNumbersOf pool entry → (x : NumberEnd) → IsEndOf rule entry before pool x → IsEndOf rule entry before after x
end_later rule entry before pool after longer known x h =
    let same = same_view pool after (with_end entry x) longer (end_known pool entry x known h.known) in
    record {
      target = h.target;
      known = known_ends pool after longer entry (ends_of.With (x ∷ [])) (λ y m. elim (contained_among (x ∷ []) y m) [
        | inl is ↦ subst (IsKnownEnd pool entry) (sym is) h.known
        | inr none ↦ absurd none
      ]) x (among_contained (x ∷ []) x (inl refl));
      applies = subst (Applies rule (plain_entry before entry)) (sym same) h.applies;
    }

module _ (app : App) (p : Point) (before pool : List Values) (entry : NumberedEntry) (groups : List ExitGroup) (rules : List Rule) (are : AreArrivals app p rules) (alike : number_domains entry ≡ domains_of app)
    (longer : IsLonger before pool) (numbers : AreNumbersOf before entry) (known : AreKnownGroups pool groups) (ends : List NumberEnd) (shared : AreSharedEnds rules (length rules) entry before pool ends) where
  abbrev together : ExitGroup
  together = record { decision = None; status = None; entry = entry; ends = ends_of.With ends }

  abbrev plain : PlainEntry
  plain = plain_entry before entry

  abbrev exit_of_end : NumberEnd → Exit
  exit_of_end x = exit_at pool together (with_end entry x) x.target

  known_here : AreNumbersOf pool entry
  known_here = still_known before pool entry longer numbers

  its_rule : (rule : Rule) → IsAmongFirst rules (length rules) true rule → IsArrivalRule app p rule
  its_rule rule m = are.each rule (subst (λ (xs : List Rule). Contains xs rule) (take_all (length rules) rules (omega arith)) m.listed)

  module _ (rule : Rule) (x : NumberEnd) (h : IsEndOf rule entry before pool x) where
    end_numbers : AreNumbersOf pool (with_end entry x)
    end_numbers = end_known pool entry x known_here h.known

    same_as_entry : number_domains (with_end entry x) ≡ number_domains entry
    same_as_entry = end_numbers.domains ∙ longer.domains ∙ sym numbers.domains

    size : length plain.sets ≡ component_count app
    size = sets_counted app before entry alike

    end_filled : IsFilled app (plain_entry pool (with_end entry x))
    end_filled =
        filled_plain app pool (with_end entry x) end_numbers (applied_filled app rule before pool entry (with_end entry x) alike same_as_entry h.applies)
        (let long = numbers_counted app (with_end entry x) (same_as_entry ∙ alike) in omega (arith, long))

  begins_so : (x : NumberEnd) → IsSharedEnd rules (length rules) entry before pool x → IsArrivalExit app p plain (exit_of_end x)
  begins_so x t = record {
    rule = t.rule;
    arrival = its_rule t.rule t.among;
    target = t.is.target;
    decision = refl;
    status = refl;
    filled = end_filled t.rule x t.is;
    comes = made_by app t.rule plain (plain_entry pool (with_end entry x)) (size t.rule x t.is) t.is.applies;
  }

  begins_for : (rule : Rule) → HasSharedEnd rule entry before pool ends → HasArrivalsFor app rule plain (all_exits pool (groups ++ together ∷ []))
  begins_for rule h value within passes =
      let x = h.end in
      record {
        exit = exit_of_end x;
        listed = new_exit pool groups together (exit_of_end x) (among_contained (exits_of pool together) (exit_of_end x) (among_map exit_of_end x ends (contained_among ends x h.listed)));
        target = h.is.target;
        decision = refl;
        status = refl;
        within = all_after app rule plain (plain_entry pool (with_end entry x)) (size rule x h.is) h.is.applies value within passes;
      }

  pub begin_together : AddsRoutines app p plain (IsAmongFirst rules (length rules) true) pool groups pool (groups ++ together ∷ [])
  begin_together = record {
    longer = longer_itself pool;
    known = known_with pool groups together known (record { numbers = known_here; ends = λ x m. (shared.each x m).is.known });
    kept = old_exit pool groups together;
    each = λ x m. elim (exit_cases pool groups together x m) [
      | inl old ↦ inl old
      | inr new ↦
          (let y = map_among exit_of_end x ends (contained_among (exits_of pool together) x new) in
          inr (subst (IsArrivalExit app p plain) (sym y.2) (begins_so y.0 (shared.each y.0 (among_contained ends y.0 y.1)))))
    ];
    some = λ rule m. begins_for rule (shared.some rule m);
  }

  -- where none does
  pub none_together : (length ends == 0) ≡ true → AddsRoutines app p plain (IsAmongFirst rules (length rules) true) pool groups pool groups
  none_together e = no_routine app p plain (IsAmongFirst rules (length rules) true)
      (λ rule m. (let h = shared.some rule m in let none = eqb-true (length ends) 0 e in omega (arith, none, h.listed.1))) pool groups known

-- ---- one rule after another

module _ (rules : List Rule) where
  pub none_first : (bare : Bool) (rule : Rule) → IsAmongFirst rules 0 bare rule → ⊥
  none_first bare rule m = contained_among [] rule m.listed

  module _ (i : ℕ) (x : Rule) (lt : i < length rules) (at : get_or rules i x ≡ x) where
    next : take (i + 1) rules ≡ take i rules ++ x ∷ []
    next = take_more rules i x lt ∙ ap (λ (y : Rule). take i rules ++ y ∷ []) at

    -- the next one is among them, and so are those before
    among_next : (bare : Bool) → is_bare x ≡ bare → IsAmongFirst rules (i + 1) bare x
    among_next bare is = record {
      listed = subst (λ (xs : List Rule). Contains xs x) (sym next) (Contains-append_right (take i rules) (x ∷ []) x (among_contained (x ∷ []) x (inl refl)));
      is = is;
    }

    among_more : (bare : Bool) (rule : Rule) → IsAmongFirst rules i bare rule → IsAmongFirst rules (i + 1) bare rule
    among_more bare rule m = record { listed = subst (λ (xs : List Rule). Contains xs rule) (sym next) (Contains-append_left (take i rules) (x ∷ []) rule m.listed); is = m.is }

    -- and no other
    pub among_either : (bare : Bool) (rule : Rule) → IsAmongFirst rules (i + 1) bare rule → IsAmongFirst rules i bare rule ⊎ (rule ≡ x)
    among_either bare rule m = elim (Contains-append_cases (take i rules) (x ∷ []) rule (subst (λ (xs : List Rule). Contains xs rule) next m.listed)) [
      | inl old ↦ inl (record { listed = old; is = m.is })
      | inr new ↦ elim (contained_among (x ∷ []) rule new) [ inl same ↦ inr same | inr none ↦ absurd none ]
    ]

    pub among_before : (bare other : Bool) → is_bare x ≡ other → bare ≢ other → (rule : Rule) → IsAmongFirst rules (i + 1) bare rule → IsAmongFirst rules i bare rule
    among_before bare other is differ rule m = elim (among_either bare rule m) [
      | inl old ↦ old
      | inr same ↦ absurd (differ (sym m.is ∙ ap is_bare same ∙ is))
    ]

    -- the ends of bare rules in a pool that grew, with one more or without
    module _ (entry : NumberedEntry) (before pool after : List Values) (longer : IsLonger pool after) (known : AreNumbersOf pool entry) (ends : List NumberEnd) (h : AreSharedEnds rules i entry before pool ends) where
      old_end : (e : NumberEnd) → Contains ends e → IsSharedEnd rules (i + 1) entry before after e
      old_end e m = (let t = h.each e m in record { rule = t.rule; among = among_more true t.rule t.among; is = end_later t.rule entry before pool after longer known e t.is })

      found_end : (rule : Rule) → IsAmongFirst rules i true rule → HasSharedEnd rule entry before after ends
      found_end rule m = (let t = h.some rule m in record { end = t.end; listed = t.listed; is = end_later rule entry before pool after longer known t.end t.is })

      pub ends_same : (now : List NumberEnd) → now ≡ ends → is_bare x ≡ false → AreSharedEnds rules (i + 1) entry before after now
      ends_same now kept is = subst (AreSharedEnds rules (i + 1) entry before after) (sym kept) (record {
        each = old_end;
        some = λ rule m. found_end rule (among_before true false is true≢false rule m);
      })

      pub ends_more : (end : NumberEnd) (now : List NumberEnd) → now ≡ ends ++ end ∷ [] → is_bare x ≡ true → IsEndOf x entry before after end → AreSharedEnds rules (i + 1) entry before after now
      ends_more end now pushed bare is = subst (AreSharedEnds rules (i + 1) entry before after) (sym pushed) (record {
        each = λ e m. elim (Contains-append_cases ends (end ∷ []) e m) [
          | inl old ↦ old_end e old
          | inr new ↦ elim (contained_among (end ∷ []) e new) [
            | inl same ↦ record { rule = x; among = among_next true bare; is = subst (IsEndOf x entry before after) (sym same) is }
            | inr none ↦ absurd none
          ]
        ];
        some = λ rule m. elim (among_either true rule m) [
          | inl old ↦ (let t = found_end rule old in record { end = t.end; listed = Contains-append_left ends (end ∷ []) t.end t.listed; is = t.is })
          | inr same ↦ record {
            end = end;
            listed = Contains-append_right ends (end ∷ []) end (among_contained (end ∷ []) end (inl refl));
            is = subst (λ (r : Rule). IsEndOf r entry before after end) (sym same) is;
          }
        ];
      })

pub no_ends : (rules : List Rule) (entry : NumberedEntry) (before pool : List Values) (ends : List NumberEnd) → ends ≡ [] → AreSharedEnds rules 0 entry before pool ends
no_ends rules entry before pool ends none = subst (AreSharedEnds rules 0 entry before pool) (sym none) (record {
  each = λ x m. absurd (contained_among [] x m);
  some = λ rule m. absurd (none_first rules true rule m);
})

-- a rule is bare or isn't
pub among_all : (rules : List Rule) (rule : Rule) → Contains rules rule → IsAmongFirst rules (length rules) false rule ⊎ IsAmongFirst rules (length rules) true rule
among_all rules rule m =
    let listed : Contains (take (length rules) rules) rule = subst (λ (xs : List Rule). Contains xs rule) (sym (take_all (length rules) rules (omega arith))) m in
    elim (cases_Bool (is_bare rule)) [
      | inl bare ↦ inr (record { listed = listed; is = bare })
      | inr not_bare ↦ inl (record { listed = listed; is = not_bare })
    ]

-- past all of them
pub first_whole : (rules : List Rule) (i : ℕ) (bare : Bool) → length rules ≤ i → (rule : Rule) → IsAmongFirst rules (length rules) bare rule → IsAmongFirst rules i bare rule
first_whole rules i bare whole rule m = record { listed = subst (λ (xs : List Rule). Contains xs rule) (take_all (length rules) rules (omega arith) ∙ sym (take_all i rules whole)) m.listed; is = m.is }

pub ends_whole : (rules : List Rule) (i : ℕ) (entry : NumberedEntry) (before pool : List Values) (ends : List NumberEnd) → length rules ≤ i → AreSharedEnds rules i entry before pool ends → AreSharedEnds rules (length rules) entry before pool ends
ends_whole rules i entry before pool ends whole h = record {
  each = λ x m.
      (let t = h.each x m in
      record {
        rule = t.rule;
        among = record { listed = subst (λ (xs : List Rule). Contains xs t.rule) (take_all i rules whole ∙ sym (take_all (length rules) rules (omega arith))) t.among.listed; is = t.among.is };
        is = t.is;
      });
  some = λ rule m. h.some rule (first_whole rules i true whole rule m);
}

-- what the loop over the rules keeps
pub record AreBegun (app : App) (p : Point) (entry : NumberedEntry) (rules : List Rule) (i : ℕ) (pool : List Values) (before : List ExitGroup) (after : List Values) (now : List ExitGroup) (ends : List NumberEnd) : Type 0 where
  pub added : AddsRoutines app p (plain_entry pool entry) (IsAmongFirst rules i false) pool before after now
  pub shared : AreSharedEnds rules i entry pool after ends

-- ---- one end more

module _ (rule : Rule) (bare : is_bare rule ≡ true) where
  both : (length rule.conditions == 0) ≡ true × (length rule.changes == 1) ≡ true
  both = and_parts (length rule.conditions == 0) (length rule.changes == 1) bare

  none_asked : rule.conditions ≡ []
  none_asked = empty rule.conditions (eqb-true (length rule.conditions) 0 both.0)
    where
      empty : (xs : List Condition) → length xs ≡ 0 → xs ≡ []
      empty [] e = refl
      empty (x ∷ xs) e = absurd (omega (arith, e))

  pub one_change : length rule.changes ≡ 1
  one_change = eqb-true (length rule.changes) 1 both.1

  module _ (pool : List Values) (entry : NumberedEntry) (numbers : AreNumbersOf pool entry) (filled : AreFilled entry) where
    sifted : AreSifted pool rule.conditions entry entry
    sifted = subst (λ (xs : List Condition). AreSifted pool xs entry entry) (sym none_asked) (record {
      as_many = refl;
      each = λ c lt. record { domain = refl; fewer = λ n has. has; values = λ v. sym (and_true (is_member (plain_set (values_at pool c) (numbers_at entry c)) v)) };
    })
      where
        and_true : (b : Bool) → (b && true) ≡ b
        and_true true = refl
        and_true false = refl

    at_first : AreAllPassed (up_to rule 0) pool entry (length entry.sets) pool entry.sets
    at_first = all_sifted pool rule entry entry numbers sifted

    pub all_taken : AreTaken rule (plain_entry pool entry)
    all_taken = taken_of_filled pool rule entry entry numbers sifted filled

    -- what the change makes of the component's values is of its domain
    pub made_within : KeepsDomains rule (plain_entry pool entry) → StaysWithin rule.changes 0 pool entry
    made_within keeps = stays_within rule pool entry 0 pool entry numbers (keeps.sets all_taken) at_first

    module _ (x : Change) (at : get_or rule.changes 0 x ≡ x) where
      -- the change alone says what becomes of its component
      pub is_alone : IsAlone rule.changes x.component.0 0
      is_alone = record {
        known = omega (arith, one_change);
        becomes = λ y v is. alone_there rule.changes 0 y (omega (arith, one_change)) is x.component.0 v
            (ap (λ (z : Change). z.component.0) (sym is ∙ get_or_default rule.changes 0 y x (omega (arith, one_change)) ∙ at)) refl
            (ap (list_any (names x.component.0)) (drop_all 1 rule.changes (omega (arith, one_change))));
      }

      module _ (lt : x.component.0 < length entry.sets) (after : List Values) (longer : IsLonger pool after) (made : Numbers) (passed : IsPassedSet (making rule.changes) pool x.component.0 (numbers_at entry x.component.0) after made) where
        abbrev end : NumberEnd
        end = record { component = x.component.0; numbers = made; target = rule.target }

        pub end_is : IsEndOf rule entry pool after end
        end_is =
            let one = changed_one rule 0 x (omega (arith, one_change)) at pool entry pool entry.sets at_first after made longer refl lt passed in
            let whole = all_changes rule 1 pool entry (length entry.sets) after (set entry.sets x.component.0 made) (omega (arith, one_change)) one in
            record {
              target = refl;
              known = record { component = lt; numbers = record { domain = passed.domain; known = passed.known } };
              applies = made_applies rule pool entry (length entry.sets) after (with_end entry end) refl numbers whole all_taken;
            }

      -- the number alone of the value that it sets is such an end's
      pub end_alone : x.component.0 < length entry.sets → (v : PartValue) → x.update ≡ update.Set v → (made : Numbers) → IsAloneIn pool x.component.0 v made →
          IsEndOf rule entry pool pool (record { component = x.component.0; numbers = made; target = rule.target })
      end_alone lt v sets made alone =
          let c = x.component.0 in
          let old = numbers_at entry c in
          let some = some_value (values_at pool c) old (numbers.known c) (filled.each c lt) in
          let like : old.domain ≡ domain_at pool c = alike_there pool pool entry c old numbers (longer_itself pool) refl in
          end_is lt pool (longer_itself pool) made (alone_passed rule.changes pool c old v (λ w. is_alone.becomes x w at ∙ ap (λ (u : Update). updated u w) sets) some.0 some.1 like made alone)
