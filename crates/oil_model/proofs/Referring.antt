-- What an attribute refers to, where no required one is missing, none is wrong, and none refers to nothing.
use Rattle.std.proofs.Common.{◌≡◌, ℕ, inl, inr, List, [], ◌∷◌, Bool, true, false, refl, sym, ap, ◌∙◌, subst}
use Rattle.std.specs.{Prelude.{⊤, Option, Some, None, if◌then◌else◌, cond, not, ◌||◌, codes, filter}, List.{AllByRecursion}, Str.{bytes_eq}}
use Rattle.std.proofs.lemmas.Slice.Eq.{bytes_eq-Decides}
use Rattle.oil_tree.specs.AttrLists.{attr_list}
use Rattle.oil_tree.specs.declared.tree.{Attr.{Attr}, Object.{Object}, Value.{Value, TheVariants.{Word, Quoted, Numeric}}, Sign.{Sign, TheVariants.{Bare, Plus, Minus}}}
use Rattle.oil_model.specs.declared.table.{Scope.{Scope}, Presence.{Presence, TheVariants.{Required}}, Entry.{Entry}}
use Rattle.oil_model.specs.declared.table.Scope.TheVariants as scope
use Rattle.oil_model.specs.declared.domain.Domain.{Domain}
use Rattle.oil_model.specs.declared.domain.Domain.TheVariants as domain
use Rattle.oil_model.specs.{Table.{inner_scope, entry_of, allows}, Lists.{found_within, found_below}}
use Rattle.oil_model.specs.{LookUp.{has, first_named, word_of, word_at, word, says, inner_at, inner, attr_line}, Objects.{declares}}
use Rattle.oil_model.specs.Rules.{lacks, missing_in, forbids, is_wrong, wrong_in, is_declared, names_nothing, is_dangling, dangling_in}
use Rattle.oil_model.proofs.{Clean.{true_not_false, map_empty, mark_empty, none_pass, all_both}, Facts.{true_or_false, not_false, NoneWrong, none_wrong}}

or_second : (a b : Bool) → a ≡ false → (a || b) ≡ true → b ≡ true
or_second true b f h = absurd (true_not_false f)
or_second false b f h = h

one_there : (a : Bool) → (not a || false) ≡ false → a ≡ true
one_there true e = refl
one_there false e = absurd cc

two_there : (a b : Bool) → (not a || (not b || false)) ≡ false → (a ≡ true) × (b ≡ true)
two_there true true e = (refl, refl)
two_there true false e = absurd cc
two_there false b e = absurd cc

-- the first attribute of a name, of which holds what holds of all
pub record IsFirst (P : Attr → Type 0) (n : List ℕ) (attrs : List Attr) : Type 0 where
  pub attr : Attr
  pub is : first_named n attrs ≡ Some attr
  pub named : attr.name ≡ n
  pub holds : P attr

pub first_is : (P : Attr → Type 0) (n : List ℕ) (attrs : List Attr) → has n attrs ≡ true → AllByRecursion P attrs → IsFirst P n attrs
first_is P n [] h all = absurd (true_not_false (sym h))
first_is P n (a ∷ attrs) h all =
    elim (true_or_false (bytes_eq a.name n)) [
      | inl t ↦ record { attr = a; is = ap (λ (b : Bool). cond b (Some a) (first_named n attrs)) t; named = (bytes_eq-Decides a.name n).0 t; holds = all.0 }
      | inr f ↦
          let later = first_is P n attrs (or_second (bytes_eq a.name n) (has n attrs) f h) all.1 in
          record { attr = later.attr; is = ap (λ (b : Bool). cond b (Some a) (first_named n attrs)) f ∙ later.is; named = later.named; holds = later.holds }
    ]

module _ (objects : List Object) where
  abbrev pub NoneDangling : Scope → List Attr → Type 0
  NoneDangling s attrs = AllByRecursion (λ (a : Attr). is_dangling objects s a ≡ false) attrs

  pub none_dangling : (s : Scope) (line : ℕ) (attrs : List Attr) → dangling_in objects s line attrs ≡ [] → NoneDangling s attrs
  none_dangling s line attrs e = none_pass (is_dangling objects s) attrs (map_empty attr_line (filter (is_dangling objects s) attrs) e)

  -- a list that keeps the rules on lists
  pub record IsSound (s : Scope) (attrs : List Attr) : Type 0 where
    pub complete : lacks s attrs ≡ false
    pub allowed : NoneWrong s attrs
    pub declared : NoneDangling s attrs

  pub sound_list : (s : Scope) (line : ℕ) (attrs : List Attr) → missing_in s line attrs ≡ [] → wrong_in s line attrs ≡ [] → dangling_in objects s line attrs ≡ [] → IsSound s attrs
  sound_list s line attrs m w d = record { complete = mark_empty (lacks s attrs) line m; allowed = none_wrong s line attrs w; declared = none_dangling s line attrs d }

  value_declared : (dom : Domain) (p : Presence) (value : Value) → ((t : List ℕ) → allows dom (Quoted t) ≡ false) → ((s : Sign) (v : ℕ) → allows dom (Numeric s v) ≡ false) → allows dom value ≡ true → names_nothing objects (Some (record { domain = dom; presence = p })) value ≡ false → is_declared objects dom (word_of value) ≡ true
  value_declared dom p (Word w) no_text no_number h k = not_false (is_declared objects dom w) k
  value_declared dom p (Quoted t) no_text no_number h k = absurd (true_not_false (sym h ∙ no_text t))
  value_declared dom p (Numeric s v) no_text no_number h k = absurd (true_not_false (sym h ∙ no_number s v))

  -- the word at a name is that of something declared
  pub word_declared : (s : Scope) (n : List ℕ) (dom : Domain) (p : Presence) (attrs : List Attr) → ((t : List ℕ) → allows dom (Quoted t) ≡ false) → ((g : Sign) (v : ℕ) → allows dom (Numeric g v) ≡ false) → entry_of s n ≡ Some (record { domain = dom; presence = p }) → has n attrs ≡ true → NoneWrong s attrs → NoneDangling s attrs → is_declared objects dom (word n attrs) ≡ true
  word_declared s n dom p attrs no_text no_number e h wrong dangling =
      let first = first_is (λ (a : Attr). (is_wrong s a ≡ false) × (is_dangling objects s a ≡ false)) n attrs h (all_both (λ (a : Attr). is_wrong s a ≡ false) (λ (a : Attr). is_dangling objects s a ≡ false) attrs wrong dangling) in
      let a : Attr = first.attr in
      let entry : entry_of s a.name ≡ Some (record { domain = dom; presence = p }) = ap (entry_of s) first.named ∙ e in
      let allowed : allows dom a.value ≡ true = not_false (allows dom a.value) (subst (λ (q : Option Entry). forbids q a.value ≡ false) entry first.holds.0) in
      let names : names_nothing objects (Some (record { domain = dom; presence = p })) a.value ≡ false = subst (λ (q : Option Entry). names_nothing objects q a.value ≡ false) entry first.holds.1 in
      subst (λ (w : List ℕ). is_declared objects dom w ≡ true) (sym (ap word_at first.is)) (value_declared dom p a.value no_text no_number allowed names)

  -- what an action refers to
  pub record RefersToDeclared (sets : Bool) (attrs : List Attr) : Type 0 where
    pub task : declares (codes "TASK") (word (codes "TASK") attrs) objects ≡ true
    pub event : sets ≡ true → declares (codes "EVENT") (word (codes "EVENT") attrs) objects ≡ true

  no_task_number : (g : Sign) (v : ℕ) → allows domain.TaskName (Numeric g v) ≡ false
  no_task_number Bare v = refl
  no_task_number Plus v = refl
  no_task_number Minus v = refl

  no_event_number : (g : Sign) (v : ℕ) → allows domain.EventName (Numeric g v) ≡ false
  no_event_number Bare v = refl
  no_event_number Plus v = refl
  no_event_number Minus v = refl

  no_counter_number : (g : Sign) (v : ℕ) → allows domain.CounterName (Numeric g v) ≡ false
  no_counter_number Bare v = refl
  no_counter_number Plus v = refl
  no_counter_number Minus v = refl

  activates : (attrs : List Attr) (sets : Bool) → sets ≡ false → IsSound scope.Activation attrs → RefersToDeclared sets attrs
  activates attrs sets f s =
      let there : has (codes "TASK") attrs ≡ true = one_there (has (codes "TASK") attrs) s.complete in
      record {
        task = word_declared scope.Activation (codes "TASK") domain.TaskName Required attrs (λ t. refl) no_task_number refl there s.allowed s.declared;
        event = λ t. absurd (true_not_false (sym t ∙ f));
      }

  sets_event : (attrs : List Attr) (sets : Bool) → IsSound scope.EventSetting attrs → RefersToDeclared sets attrs
  sets_event attrs sets s =
      let there = two_there (has (codes "TASK") attrs) (has (codes "EVENT") attrs) s.complete in
      record {
        task = word_declared scope.EventSetting (codes "TASK") domain.TaskName Required attrs (λ t. refl) no_task_number refl there.0 s.allowed s.declared;
        event = λ t. word_declared scope.EventSetting (codes "EVENT") domain.EventName Required attrs (λ t. refl) no_event_number refl there.1 s.allowed s.declared;
      }

  -- the list in an attribute keeps the rules on lists, where the table has one there
  abbrev pub IsSoundWithin : Option Scope → List Attr → Type 0
  IsSoundWithin None attrs = ⊤
  IsSoundWithin (Some s) attrs = IsSound s attrs

  within : (a : Attr) (o : Option Scope) → found_within missing_in a o ≡ [] → found_within wrong_in a o ≡ [] → found_within (dangling_in objects) a o ≡ [] → IsSoundWithin o (attr_list a.attrs)
  within a None m w d = tt
  within a (Some s) m w d = sound_list s a.line (attr_list a.attrs) m w d

  abbrev setting_else : Bool → Option Scope
  setting_else b = if b then Some scope.EventSetting else None

  by_word : (w : List ℕ) (attrs : List Attr) → allows domain.Action (Word w) ≡ true → bytes_eq w (codes "ALARMCALLBACK") ≡ false → IsSoundWithin (inner_scope scope.Alarm (codes "ACTION") (Word w)) attrs → RefersToDeclared (bytes_eq w (codes "SETEVENT")) attrs
  by_word w attrs allowed other s =
      elim (true_or_false (bytes_eq w (codes "ACTIVATETASK"))) [
        | inl t ↦
            let same : w ≡ codes "ACTIVATETASK" = (bytes_eq-Decides w (codes "ACTIVATETASK")).0 t in
            activates attrs (bytes_eq w (codes "SETEVENT")) (ap (λ (v : List ℕ). bytes_eq v (codes "SETEVENT")) same) (subst (λ (b : Bool). IsSoundWithin (if b then Some scope.Activation else setting_else (bytes_eq w (codes "SETEVENT"))) attrs) t s)
        | inr f ↦
            elim (true_or_false (bytes_eq w (codes "SETEVENT"))) [
              | inl t ↦
                  let later : IsSoundWithin (setting_else (bytes_eq w (codes "SETEVENT"))) attrs = subst (λ (b : Bool). IsSoundWithin (if b then Some scope.Activation else setting_else (bytes_eq w (codes "SETEVENT"))) attrs) f s in
                  sets_event attrs (bytes_eq w (codes "SETEVENT")) (subst (λ (b : Bool). IsSoundWithin (setting_else b) attrs) t later)
              | inr g ↦
                  absurd (true_not_false (sym allowed ∙ (λ i. f i || (g i || other i))))
            ]
      ]

  by_value : (value : Value) (attrs : List Attr) → allows domain.Action value ≡ true → bytes_eq (word_of value) (codes "ALARMCALLBACK") ≡ false → IsSoundWithin (inner_scope scope.Alarm (codes "ACTION") value) attrs → RefersToDeclared (bytes_eq (word_of value) (codes "SETEVENT")) attrs
  by_value (Word w) attrs allowed other s = by_word w attrs allowed other s
  by_value (Quoted t) attrs allowed other s = absurd (true_not_false (sym allowed))
  by_value (Numeric Bare v) attrs allowed other s = absurd (true_not_false (sym allowed))
  by_value (Numeric Plus v) attrs allowed other s = absurd (true_not_false (sym allowed))
  by_value (Numeric Minus v) attrs allowed other s = absurd (true_not_false (sym allowed))

  -- what an alarm refers to
  pub record IsSoundAlarm (attrs : List Attr) : Type 0 where
    pub counter : declares (codes "COUNTER") (word (codes "COUNTER") attrs) objects ≡ true
    pub action : RefersToDeclared (says (codes "ACTION") (codes "SETEVENT") attrs) (inner (codes "ACTION") attrs)

  abbrev AreFound : Attr → Type 0
  AreFound a = (is_wrong scope.Alarm a ≡ false) × ((found_below missing_in scope.Alarm a ≡ []) × ((found_below wrong_in scope.Alarm a ≡ []) × (found_below (dangling_in objects) scope.Alarm a ≡ [])))

  pub sound_alarm : (line : ℕ) (attrs : List Attr) → IsSound scope.Alarm attrs → AllByRecursion (λ (a : Attr). found_below missing_in scope.Alarm a ≡ []) attrs → AllByRecursion (λ (a : Attr). found_below wrong_in scope.Alarm a ≡ []) attrs → AllByRecursion (λ (a : Attr). found_below (dangling_in objects) scope.Alarm a ≡ []) attrs → says (codes "ACTION") (codes "ALARMCALLBACK") attrs ≡ false → IsSoundAlarm attrs
  sound_alarm line attrs s m w d other =
      let there = two_there (has (codes "COUNTER") attrs) (has (codes "ACTION") attrs) s.complete in
      let all = all_both _ _ attrs s.allowed (all_both _ _ attrs m (all_both _ _ attrs w d)) in
      let first : IsFirst AreFound (codes "ACTION") attrs = first_is AreFound (codes "ACTION") attrs there.1 all in
      let a : Attr = first.attr in
      let allowed : allows domain.Action a.value ≡ true = not_false (allows domain.Action a.value) (subst (λ (n : List ℕ). forbids (entry_of scope.Alarm n) a.value ≡ false) first.named first.holds.0) in
      let inside : IsSoundWithin (inner_scope scope.Alarm (codes "ACTION") a.value) (attr_list a.attrs) = subst (λ (n : List ℕ). IsSoundWithin (inner_scope scope.Alarm n a.value) (attr_list a.attrs)) first.named (within a (inner_scope scope.Alarm a.name a.value) first.holds.1.0 first.holds.1.1.0 first.holds.1.1.1) in
      let said : word (codes "ACTION") attrs ≡ word_of a.value = ap word_at first.is in
      let not_callback : bytes_eq (word_of a.value) (codes "ALARMCALLBACK") ≡ false = ap (λ (v : List ℕ). bytes_eq v (codes "ALARMCALLBACK")) (sym said) ∙ other in
      let refers : RefersToDeclared (bytes_eq (word_of a.value) (codes "SETEVENT")) (attr_list a.attrs) = by_value a.value (attr_list a.attrs) allowed not_callback inside in
      record {
        counter = word_declared scope.Alarm (codes "COUNTER") domain.CounterName Required attrs (λ t. refl) no_counter_number refl there.0 s.allowed s.declared;
        action = subst (λ (q : Option Attr). RefersToDeclared (bytes_eq (word_at q) (codes "SETEVENT")) (inner_at q)) (sym first.is) refers;
      }
