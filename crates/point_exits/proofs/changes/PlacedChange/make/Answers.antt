use Rattle.std.proofs.Common.{◌≡◌, ◌<◌, ◌≤◌, ◌+◌, length, get_or, set, true, false, sym, ap, subst, ℕ, ◌∙◌, List, map, arith, IsTrue}
use Rattle.std.specs.Prelude.{IfSome}
use Rattle.abstract_state.specs.{Domains.{IsWithin}, Tables.{is_member}}
use Rattle.flow_model.specs.{Tests.{value_after}}
use Rattle.numbered_sets.specs.{Numbers.{Numbers}, NumberedEntries.{no_set}, Pools.{values_at, domain_at}, Views.{plain_set}}
use Rattle.numbered_sets.proofs.{CopiedEntries.{domains_put}, NumberingLaws.{longer_itself}}
use Rattle.point_exits.specs.{Applying.{IsPassedSet, bare_rule}, Changing.{is_named, up_to, making, IsAlone, AreAllPassed}}
use Rattle.point_exits.proofs.{NumbersPassing.{alike_there, known_there}, ChangedSets.{changed_none, changed_beyond, changed_one}, BlockLaws.{pool_has}}
use Rattle.point_exits.proofs.changes.PlacedChange.make.Goals.{then-component-len-via-then-component-len, then-component-len-via-else-component-len+then-was_named}
use Rattle.point_exits.proofs.changes.PlacedChange.make.Goals as goal

pub returns-then-component-len-clause-passed : goal.returns-then-component-len-clause-passed
returns-then-component-len-clause-passed c = λ conditions before was h.
    let rule = bare_rule conditions c.args.self.now.changes.now in
    let x = c.args.self.now.change.now in
    let at = c.args.self.now.there x in
    let index = c.index-component.ensures in
    elim c.then-component-len.branch [
      | then-component-len-via-then-component-len w ↦
          (let beyond : length was.sets ≤ x.component.0 = (let over = w.if-component-len.true in omega (arith, over, index, c.len.ensures, h.size)) in
          changed_beyond rule c.args.self.now.place x c.args.self.now.known at before was c.args.pool.now c.args.entry.now.sets h beyond)
      | then-component-len-via-else-component-len+then-was_named w ↦
          (let named : is_named rule.changes c.args.self.now.place x.component.0 ≡ true = sym w.was_named.ensures ∙ w.if-was_named.true in
          changed_none rule c.args.self.now.place x c.args.self.now.known at before was c.args.pool.now c.args.entry.now.sets h named)
    ]

pub alone-alone-requires : goal.alone-alone-requires
alone-alone-requires c = sym c.was_named.ensures ∙ c.if-was_named.false

pub updated-requires-clause-alone : goal.updated-requires-clause-alone
updated-requires-clause-alone c =
    subst (λ (j : ℕ). IfSome c.alone-alone.result (IsAlone c.args.self.now.changes.now j)) (sym c.index-component.ensures) c.alone-alone.ensures

pub updated-requires-clause-set : goal.updated-requires-clause-set
updated-requires-clause-set c =
    let pool = c.args.pool.now in
    let entry = c.args.entry.now in
    let x = c.args.self.now.change.now in
    let index : c.index-component.result ≡ x.component.0 = c.index-component.ensures in
    let fresh : is_named c.args.self.now.changes.now c.args.self.now.place x.component.0 ≡ false = sym c.was_named.ensures ∙ c.if-was_named.false in
    let known : x.component.0 < length entry.sets = (let below = c.if-component-len.false in omega (arith, below, index, c.len.ensures)) in
    record {
      known = pool_has pool entry x.component.0 c.index-component.result c.requires.numbers known index;
      alike = alike_there pool pool entry c.index-component.result c.in_ok-numbers.numbers c.requires.numbers (longer_itself pool) (sym c.in_ok-numbers.ensures);
      listed = known_there pool pool entry c.index-component.result c.in_ok-numbers.numbers c.requires.numbers (longer_itself pool) (sym c.in_ok-numbers.ensures);
      within = λ v m.
          (let there = subst (λ (j : ℕ). IsTrue (is_member (plain_set (values_at pool j) (get_or entry.sets j no_set)) v)) index
          (subst (λ (s : Numbers). IsTrue (is_member (plain_set (values_at pool c.index-component.result) s) v)) c.in_ok-numbers.ensures m) in
          subst (λ (j : ℕ). IsWithin (domain_at pool j) (value_after c.args.self.now.changes.now j v)) (sym index) (c.requires.domain.each x v (c.args.self.now.there x) known fresh there));
    }

pub returns-clause-passed : goal.returns-clause-passed
returns-clause-passed c = λ conditions before was h.
    let rule = bare_rule conditions c.args.self.now.changes.now in
    let x = c.args.self.now.change.now in
    let at = c.args.self.now.there x in
    let sets = c.args.entry.now.sets in
    let index : c.index-component.result ≡ x.component.0 = c.index-component.ensures in
    let fresh : is_named rule.changes c.args.self.now.place x.component.0 ≡ false = sym c.was_named.ensures ∙ c.if-was_named.false in
    let known : x.component.0 < length was.sets = (let below = c.if-component-len.false in omega (arith, below, index, c.len.ensures, h.size)) in
    let made : IsPassedSet (making rule.changes) c.args.pool.now x.component.0 (get_or sets x.component.0 no_set) c.updated.new.pool c.in_ok-set.set =
    subst (λ (j : ℕ). IsPassedSet (making rule.changes) c.args.pool.now j (get_or sets j no_set) c.updated.new.pool c.in_ok-set.set) index
    (subst (λ (o : Numbers). IsPassedSet (making rule.changes) c.args.pool.now c.index-component.result o c.updated.new.pool c.in_ok-set.set) c.in_ok-numbers.ensures c.in_ok-set.ensures.passed) in
    subst (AreAllPassed (up_to rule (c.args.self.now.place + 1)) before was (length was.sets) c.updated.new.pool) (sym (c.in_ok-put.ensures.sets ∙ ap (λ (j : ℕ). set sets j c.in_ok-set.set) index))
    (changed_one rule c.args.self.now.place x c.args.self.now.known at before was c.args.pool.now sets h c.updated.new.pool c.in_ok-set.set c.in_ok-set.ensures.pool fresh known made)

pub returns-clause-alike : goal.returns-clause-alike
returns-clause-alike c =
    ap (λ (xs : List Numbers). map (λ (x : Numbers). x.domain) xs) c.in_ok-put.ensures.sets
    ∙ domains_put c.args.entry.now.sets c.index-component.result c.in_ok-set.set (omega (arith, c.if-component-len.false, c.len.ensures))
    (c.in_ok-set.ensures.passed.domain ∙ ap (λ (x : Numbers). x.domain) c.in_ok-numbers.ensures)

pub put-requires-clause-alike : goal.put-requires-clause-alike
put-requires-clause-alike c = sym (c.in_ok-set.ensures.passed.domain ∙ ap (λ (x : Numbers). x.domain) c.in_ok-numbers.ensures)
