-- The values of a numbered entry that states have at a point.
use Rattle.std.proofs.{Common.{◌≡◌, ℕ, ◌<◌, List, length, All, sym, subst, ◌∙◌, IsTrue}, lemmas.{List.Elements.{All-contains, All-get_or}, Map.Views.{Contains-from_any}}}
use Rattle.osek_standard.specs.declared.{app.App.{App}, point.Point.{Point}}
use Rattle.abstract_state.specs.{declared.{value.{Domain.{Domain}, PartValue.{PartValue}}, table.PlainEntry.{PlainEntry}}, Components.{component_at, component_count}}
use Rattle.abstract_state.specs.{Concrete.{AreAllowed}, Domains.{IsWithin, IsSound, domain_of, domains, domains_of}, Tables.{empty_set, set_at, is_member}}
use Rattle.abstract_state.proofs.OrderLaws.{part_right}
use Rattle.flow_model.specs.Effects.{AreIn, AreAllAllowed}
use Rattle.numbered_sets.specs.{declared.numbered_entry.NumberedEntry.{NumberedEntry}, NumberedEntries.{number_domains}, Pools.{Values, AreValues, pool_domains}}
use Rattle.numbered_sets.specs.Views.{plain_entry, AreNumbersOf}
use Rattle.numbered_sets.proofs.ViewLaws.{same_domains, sound_sets}
use Rattle.point_exits.proofs.KeptDomains.{its_domain}
use Rattle.flow_rules.specs.Allowed.{IsAllowedPart}
use Rattle.flow_rules.proofs.{AllowedSets.{part_domains, part_sound}, AllowedValues.{part_allowed, in_part}}
use Rattle.point_exits.proofs.EntryCounts.{sets_counted}

module _ (app : App) (p : Point) (pool : List Values) (entry : NumberedEntry) (from : PlainEntry) (alike : number_domains entry ≡ domains_of app) (all : All AreValues pool) (known : AreNumbersOf pool entry)
    (part : IsAllowedPart app p (plain_entry pool entry) from) where
  abbrev plain : PlainEntry
  plain = plain_entry pool entry

  plain_alike : domains plain ≡ domains_of app
  plain_alike = same_domains pool 0 entry.sets ∙ alike

  size : length (plain_entry pool entry).sets ≡ component_count app
  size = sets_counted app pool entry alike

  within : (c : ℕ) (v : PartValue) → c < component_count app → IsTrue (is_member (set_at plain c) v) → IsWithin (domain_of app (component_at app c)) v
  within c v lt m =
      let sound : IsSound (set_at plain c) = All-get_or IsSound (plain_entry pool entry).sets c empty_set (subst (λ (n : ℕ). c < n) (sym size) lt) (sound_sets pool entry all known) in
      subst (λ (d : Domain). IsWithin d v) (its_domain app plain plain_alike c lt)
      (All-contains (IsWithin (set_at plain c).domain) (set_at plain c).members v sound.within (Contains-from_any part_right v (set_at plain c).members m))

  pub all_allowed : AreAllAllowed app p from
  all_allowed = part_allowed app p plain from size within part

  pub allowed_there : (value : ℕ → PartValue) → AreIn app plain value → AreAllowed app p value → AreIn app from value
  allowed_there = in_part app p plain from size within part

  -- it can be numbered
  pub from_domains : domains from ≡ pool_domains pool
  from_domains = part_domains app p plain from part ∙ same_domains pool 0 entry.sets ∙ known.domains

  pub from_sound : All IsSound from.sets
  from_sound = part_sound app p plain from part (sound_sets pool entry all known)
