use Rattle.std.proofs.Common.{◌≡◌, List, [], ◌∙◌, sym, ap, subst, IsTrue}
use Rattle.std.specs.Prelude.{All}
use Rattle.osek_values.specs.Names.{is_name}
use Rattle.oil_model.specs.Systems.{system_of}
use Rattle.osek_values.specs.declared.refusal.OilRule.TheVariants.{O6, O9, O13, O14}
use Rattle.oil_model.specs.Linkable.{IsLinkable}
use Rattle.oil_tree.specs.declared.tree.Object.{Object}
use Rattle.oil_model.specs.{Lists.{found_in}, Rules.{wrong_in, wrong_activations, late_times, beyond_limits}}
use Rattle.oil_model.proofs.{Clean.{no_line}, Linking.{linkable}}
use Rattle.oil_model.proofs.resolver.system.Goals as goal

pub build-requires-clause-allowed : goal.build-requires-clause-allowed
build-requires-clause-allowed c = subst (λ (os : List Object). found_in wrong_in os ≡ []) (sym c.as_slice-objects.ensures) (no_line (found_in wrong_in c.args.tree.now.objects) (c.requires O6))

pub build-requires-clause-activated : goal.build-requires-clause-activated
build-requires-clause-activated c = subst (λ (os : List Object). wrong_activations os ≡ []) (sym c.as_slice-objects.ensures) (no_line (wrong_activations c.args.tree.now.objects) (c.requires O9))

pub build-requires-clause-inside : goal.build-requires-clause-inside
build-requires-clause-inside c = subst (λ (os : List Object). late_times os ≡ []) (sym c.as_slice-objects.ensures) (no_line (late_times c.args.tree.now.objects) (c.requires O14))

pub build-requires-clause-room : goal.build-requires-clause-room
build-requires-clause-room c = subst (λ (os : List Object). beyond_limits os ≡ []) (sym c.as_slice-objects.ensures) (no_line (beyond_limits c.args.tree.now.objects) (c.requires O13))

pub returns-clause-linkable : goal.returns-clause-linkable
returns-clause-linkable c = subst IsLinkable (sym (c.in_ok-system.ensures ∙ ap system_of c.as_slice-objects.ensures)) (linkable c.args.tree.now (subst (λ (os : List Object). All (λ (o : Object). IsTrue (is_name o.name)) os) c.as_slice-objects.ensures c.read_names.ensures) c.requires)

pub returns-clause-is : goal.returns-clause-is
returns-clause-is c = c.in_ok-system.ensures ∙ ap system_of c.as_slice-objects.ensures
