use Rattle.std.proofs.Common.{◌≡◌, ◌∙◌, refl, sym, subst, arith}
use Rattle.std.specs.{Prelude.{IfSome}, declared.option.Option.{Option}}
use Rattle.flow_model.specs.Rules.{Applies}
use Rattle.numbered_sets.specs.{declared.numbered_entry.NumberedEntry.{NumberedEntry}, NumberedEntries.{number_domains}, Views.{plain_entry, AreNumbersOf}}
use Rattle.numbered_sets.proofs.{NumberingLaws.{longer_onward}, ViewLaws.{same_view, still_known}}
use Rattle.flow_exits.specs.Leaving.{effect_rule}
use Rattle.point_exits.proofs.{LevelLaws.{levels_longer}, EntryCounts.{numbers_counted, applied_filled}}
use Rattle.point_exits.proofs.numbering.Numbering.after.Goals as goal

pub invariant_of-self : goal.invariant_of-self
invariant_of-self c = record {
  domains = c.applied.ensures.pool.domains ∙ c.args.self.now.domains;
  known = levels_longer c.args.self.now.app.now c.args.self.now.pool c.applied.new.pool c.args.self.now.levels c.applied.ensures.pool c.args.self.now.known;
  conditions = c.args.self.now.conditions;
}

pub returns-in_default-clause-grown : goal.returns-in_default-clause-grown
returns-in_default-clause-grown c = record { app = refl; pool = c.applied.ensures.pool }

pub returns-clause-grown : goal.returns-clause-grown
returns-clause-grown c = record { app = c.judge.ensures.grown.app; pool = longer_onward c.args.self.now.pool c.applied.new.pool c.judge.new.self.pool c.applied.ensures.pool c.judge.ensures.grown.pool }

pub returns-clause-some : goal.returns-clause-some
returns-clause-some c =
    let app = c.args.self.now.app.now in
    let rule = effect_rule c.args.effect.now in
    let pool = c.args.self.now.pool in
    let mid = c.applied.new.pool in
    let after = c.judge.new.self.pool in
    let entry = c.args.before.now in
    let made = c.in-Some.after in
    let alike = c.requires.numbers.domains ∙ c.args.self.now.domains in
    let applies : Applies rule (plain_entry pool entry) (plain_entry mid made) = subst (λ (o : Option NumberedEntry). IfSome o (λ new. Applies rule (plain_entry pool entry) (plain_entry mid new))) c.in-Some.is c.in_ok-after.ensures.some in
    let known : AreNumbersOf mid made = subst (λ (o : Option NumberedEntry). IfSome o (AreNumbersOf mid)) c.in-Some.is c.in_ok-after.ensures.numbers in
    let same : number_domains made ≡ number_domains entry = known.domains ∙ c.applied.ensures.pool.domains ∙ sym c.requires.numbers.domains in
    let size = numbers_counted app made (same ∙ alike) in
    record {
      all = c.in_ok-judge.ensures.all;
      whole = record {
        size = omega (arith, size);
        numbers = still_known mid after made c.judge.ensures.grown.pool known;
        filled = applied_filled app rule pool mid entry made alike same applies;
      };
      applies = subst (Applies rule (plain_entry pool entry)) (sym (same_view mid after made c.judge.ensures.grown.pool known)) applies;
    }
