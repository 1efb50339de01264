use Rattle.std.proofs.Common.{◌≡◌, ◌+◌, ◌<◌, ◌≤◌, true, false, List, length, get_or, ◌∙◌, refl, sym, subst, inl, inr, arith}
use Rattle.std.specs.Prelude.{Contains}
use Rattle.std.proofs.lemmas.Bool.{true≢false}
use Rattle.osek_standard.specs.{declared.{app.App.{App}, point.Point.{Point}}, Points.{IsPoint}}
use Rattle.abstract_state.specs.{declared.table.PlainEntry.{PlainEntry}, Domains.{domains_of}}
use Rattle.flow_model.specs.{declared.{change.Change.{Change}, rule.Rule.{Rule}}, Effects.{AreAllAllowed}, Rules.{Applies}}
use Rattle.numbered_sets.specs.{declared.numbered_entry.NumberedEntry.{NumberedEntry}, NumberedEntries.{number_domains}, Pools.{Values, IsLonger}, Views.{plain_entry, AreNumbersOf}}
use Rattle.numbered_sets.proofs.ViewLaws.{same_view, same_domains, still_known}
use Rattle.flow_exits.specs.Arrivals.{AreArrivals}
use Rattle.point_exits.specs.declared.group.{NumberEnd.{NumberEnd}, ExitGroup.{ExitGroup}}
use Rattle.point_exits.specs.{Applying.{KeepsDomains}, Groups.{with_end}, Leaving.{AddsRoutines, is_bare, IsAmongFirst, IsEndOf}}
use Rattle.point_exits.proofs.ArrivingGroups.{AreBegun, arrival_known, no_routine, no_ends, none_first, routines_then, routines_alike, routines_later}
use Rattle.point_exits.proofs.ArrivingGroups.{among_either, among_before, among_all, first_whole, ends_same, ends_more, ends_whole}
use Rattle.point_exits.proofs.PassivePoints.{passive_exact}
use Rattle.point_exits.proofs.{EntryCounts.{numbers_counted}, KeptDomains.{exact_keep}}
use Rattle.point_exits.proofs.arrivals.NumberedPoint.push_begun.Goals.{then-is_bare+in_ok-push_end, else-is_bare+in_ok-push_arrival}
use Rattle.point_exits.proofs.arrivals.NumberedPoint.push_begun.Goals as goal

pub loop-rule-init : goal.loop-rule-init
loop-rule-init c =
    let rules = c.as_slice-rule-items.result.now in
    let pool = c.args.pool.now in
    let entry = c.args.self.now.entry.now in
    record {
      added = no_routine c.args.self.now.app.now c.args.self.now.point (plain_entry pool entry) (IsAmongFirst rules 0 false) (none_first rules false) pool c.args.groups.now.items c.requires.known;
      shared = no_ends rules entry pool pool c.new-shared.result c.new-shared.ensures;
    }

-- a rule of the list keeps the domains
module _ (app : App) (p : Point) (pool grown : List Values) (entry : NumberedEntry) (rules : List Rule) (are : AreArrivals app p rules) (is : IsPoint app p) (numbers : AreNumbersOf pool entry) (alike : number_domains entry ≡ domains_of app)
    (allowed : AreAllAllowed app p (plain_entry pool entry)) (longer : IsLonger pool grown) (x : Rule) (listed : Contains rules x) where
  keeps : KeepsDomains x (plain_entry grown entry)
  keeps =
      let plain = plain_entry pool entry in
      subst (KeepsDomains x) (sym (same_view pool grown entry longer numbers))
      (exact_keep app p plain rules x (same_domains pool 0 entry.sets ∙ alike) listed (passive_exact app p plain rules are is allowed))

  its_component : (y : Change) → get_or x.changes 0 y ≡ y → y.component.0 < length entry.sets
  its_component y at = (let known = arrival_known app p x (are.each x listed) y at in omega (arith, known, numbers_counted app entry alike))

pub push_end-requires : goal.push_end-requires
push_end-requires c =
    let at = c.requires.at in
    let entry = c.args.self.now.entry.now in
    let grown = c.loop-rule.pool in
    let longer = c.loop-rule.invariant.added.longer in
    let x = c.rule-item.result in
    let listed = subst (λ (xs : List Rule). Contains xs x) c.as_slice-rule-items.ensures (c.loop-rule.rule-index, c.loop-rule-test.true, sym c.rule-item.is) in
    record {
      numbers = still_known c.args.pool.now grown entry longer at.numbers;
      filled = at.filled;
      kept = keeps c.args.self.now.app.now c.args.self.now.point c.args.pool.now grown entry c.args.rules.now c.requires.rules at.point at.numbers c.args.self.now.domains at.allowed longer x listed;
    }

pub invariant_of-bare : goal.invariant_of-bare
invariant_of-bare c =
    let x = c.rule-item.result in
    let listed = subst (λ (xs : List Rule). Contains xs x) c.as_slice-rule-items.ensures (c.loop-rule.rule-index, c.loop-rule-test.true, sym c.rule-item.is) in
    record {
      bare = sym c.is_bare.ensures ∙ c.if-is_bare.true;
      known = its_component c.args.self.now.app.now c.args.self.now.point c.args.pool.now c.loop-rule.pool c.args.self.now.entry.now c.args.rules.now c.requires.rules c.requires.at.point c.requires.at.numbers c.args.self.now.domains
          c.requires.at.allowed c.loop-rule.invariant.added.longer x listed;
      filled = c.requires.at.filled;
    }

pub push_arrival-requires-clause-rule : goal.push_arrival-requires-clause-rule
push_arrival-requires-clause-rule c =
    let at = c.requires.at in
    let entry = c.args.self.now.entry.now in
    let grown = c.loop-rule.pool in
    let longer = c.loop-rule.invariant.added.longer in
    let x = c.rule-item.result in
    let listed = subst (λ (xs : List Rule). Contains xs x) c.as_slice-rule-items.ensures (c.loop-rule.rule-index, c.loop-rule-test.true, sym c.rule-item.is) in
    record {
      numbers = still_known c.args.pool.now grown entry longer at.numbers;
      filled = at.filled;
      kept = keeps c.args.self.now.app.now c.args.self.now.point c.args.pool.now grown entry c.args.rules.now c.requires.rules at.point at.numbers c.args.self.now.domains at.allowed longer x listed;
    }

pub push_arrival-requires-clause-known : goal.push_arrival-requires-clause-known
push_arrival-requires-clause-known c = c.loop-rule.invariant.added.known

pub loop-rule-preserved : goal.loop-rule-preserved
loop-rule-preserved c =
    let app = c.args.self.now.app.now in
    let p = c.args.self.now.point in
    let pool = c.args.pool.now in
    let entry = c.args.self.now.entry.now in
    let plain = plain_entry pool entry in
    let rules = c.as_slice-rule-items.result.now in
    let i = c.loop-rule.rule-index in
    let x = c.rule-item.result in
    let first = c.args.groups.now.items in
    let grown = c.loop-rule.pool in
    let mid = c.loop-rule.groups.items in
    let ends = c.loop-rule.shared in
    let inv = c.loop-rule.invariant in
    let at = sym c.rule-item.is in
    let lt = c.loop-rule-test.true in
    let here : AreNumbersOf grown entry = still_known pool grown entry inv.added.longer c.requires.at.numbers in
    let view : plain_entry grown entry ≡ plain = same_view pool grown entry inv.added.longer c.requires.at.numbers in
    let listed_here : Contains c.args.rules.now x = subst (λ (xs : List Rule). Contains xs x) c.as_slice-rule-items.ensures (i, lt, at) in
    let now : List Values → List ExitGroup → List NumberEnd → Type 0 = λ q gs es. AreBegun app p entry rules (i + 1) pool first q gs es in
    elim c.if-is_bare.branch [
      | then-is_bare+in_ok-push_end w ↦
          (let after = w.push_end.new.pool in
          let is : is_bare x ≡ true = sym c.is_bare.ensures ∙ w.if-is_bare.true in
          let one = w.in_ok-push_end.ensures.added in
          let of_it : IsEndOf x entry pool after one.end = record {
            target = one.is.target;
            known = one.is.known;
            applies = subst (λ (e : PlainEntry). Applies x e (plain_entry after (with_end entry one.end))) view one.is.applies;
          } in
          let done : now after mid w.push_end.new.shared = record {
            added = routines_alike app p plain (IsAmongFirst rules i false) (IsAmongFirst rules (i + 1) false) (among_before rules i x lt at false true is (λ e. true≢false (sym e))) pool after first mid
                (routines_later app p plain (IsAmongFirst rules i false) pool grown after first mid inv.added w.push_end.ensures.pool);
            shared = ends_more rules i x lt at entry pool grown after w.push_end.ensures.pool here ends inv.shared one.end w.push_end.new.shared one.added is of_it;
          } in
          let pools : c.if-is_bare.pool ≡ after = w.pool-is in
          let groups : c.if-is_bare.groups.items ≡ mid = λ j. (w.groups-is j).items in
          let shared : c.if-is_bare.shared ≡ w.push_end.new.shared = w.shared-is in
          subst (λ (q : List Values). now q c.if-is_bare.groups.items c.if-is_bare.shared) (sym pools)
          (subst (λ (gs : List ExitGroup). now after gs c.if-is_bare.shared) (sym groups) (subst (λ (es : List NumberEnd). now after mid es) (sym shared) done)))
      | else-is_bare+in_ok-push_arrival w ↦
          (let after = w.push_arrival.new.pool in
          let more = w.push_arrival.new.groups.items in
          let is : is_bare x ≡ false = sym c.is_bare.ensures ∙ w.if-is_bare.false in
          let adds : AddsRoutines app p plain (λ (r : Rule). r ≡ x) grown mid after more =
          subst (λ (e : PlainEntry). AddsRoutines app p e (λ (r : Rule). r ≡ x) grown mid after more) view (w.in_ok-push_arrival.ensures.added app p (c.requires.rules.each x listed_here) c.args.self.now.domains) in
          let done : now after more ends = record {
            added = routines_then app p plain (IsAmongFirst rules i false) (λ (r : Rule). r ≡ x) (IsAmongFirst rules (i + 1) false) (among_either rules i x lt at false) pool grown after first mid more inv.added adds;
            shared = ends_same rules i x lt at entry pool grown after w.push_arrival.ensures.pool here ends inv.shared ends refl is;
          } in
          let pools : c.if-is_bare.pool ≡ after = w.pool-is in
          let groups : c.if-is_bare.groups.items ≡ more = λ j. (w.groups-is j).items in
          let shared : c.if-is_bare.shared ≡ ends = w.shared-is in
          subst (λ (q : List Values). now q c.if-is_bare.groups.items c.if-is_bare.shared) (sym pools)
          (subst (λ (gs : List ExitGroup). now after gs c.if-is_bare.shared) (sym groups) (subst (λ (es : List NumberEnd). now after more es) (sym shared) done)))
    ]

pub returns-clause-added : goal.returns-clause-added
returns-clause-added c =
    let app = c.args.self.now.app.now in
    let p = c.args.self.now.point in
    let pool = c.args.pool.now in
    let entry = c.args.self.now.entry.now in
    let plain = plain_entry pool entry in
    let rules = c.args.rules.now in
    let i = c.loop-rule.rule-index in
    let first = c.args.groups.now.items in
    let grown = c.loop-rule.pool in
    let mid = c.loop-rule.groups.items in
    let ends = c.loop-rule.shared in
    let now = c.push_shared.new.groups.items in
    let are = c.requires.rules in
    let inv : AreBegun app p entry rules i pool first grown mid ends = subst (λ (xs : List Rule). AreBegun app p entry xs i pool first grown mid ends) c.as_slice-rule-items.ensures c.loop-rule.invariant in
    let past : length rules ≤ i = subst (λ (xs : List Rule). length xs ≤ i) c.as_slice-rule-items.ensures c.loop-rule-test.false in
    let shared : AddsRoutines app p plain (IsAmongFirst rules (length rules) true) grown mid grown now =
    c.in_ok-push_shared.ensures app p pool grown rules are c.args.self.now.domains inv.added.longer c.requires.at.numbers inv.added.known (ends_whole rules i entry pool grown ends past inv.shared) in
    record {
      rules = rules;
      are = are;
      added = routines_then app p plain (IsAmongFirst rules i false) (IsAmongFirst rules (length rules) true) (Contains rules)
          (λ rule m. elim (among_all rules rule m) [
            | inl some_values ↦ inl (first_whole rules i false past rule some_values)
            | inr all_values ↦ inr all_values
          ])
          pool grown grown first mid now inv.added shared;
    }
