use Rattle.std.proofs.Common.{true, ◌∙◌, sym, ap}
use Rattle.std.specs.{Prelude.{not, cond}, Str.{bytes_eq}}
use Rattle.std.proofs.lemmas.Map.Text.{is_eq-slice_cmp}
use Rattle.oil_model.specs.NameSets.{has_name}
use Rattle.oil_model.proofs.NameSets.{any_key, cond_or}
use Rattle.oil_model.proofs.name_set.NameSet.add.Goals as goal

pub returns-clause-new : goal.returns-clause-new
returns-clause-new c = c.in_ok-new.ensures.added ∙ ap not (any_key c.args.name.now c.args.self.now.names.keys)

pub returns-clause-added : goal.returns-clause-added
returns-clause-added c = λ n.
    let query = record c.args.name { now = n } in
    let at = c.in_ok-new.ensures.updates.0 query in
    sym (any_key n c.insert.new.self.keys)
    ∙ at
    ∙ (λ i. cond (is_eq-slice_cmp c.args.name.now n i) true (any_key n c.args.self.now.names.keys i))
    ∙ cond_or (bytes_eq c.args.name.now n) (has_name c.args.self.now n)
