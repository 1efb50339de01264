-- A line tells one finding.
use Rattle.std.proofs.Common.{◌≡◌, ℕ, ◌<◌, ◌≤◌, ◌^◌, false, List, [], ◌∷◌, ◌++◌, length, drop, refl, sym, ap, ◌∙◌, inl, inr, Some, arith, append_assoc}
use Rattle.std.specs.{Prelude.{codes, if◌then◌else◌}, Str.{bytes_eq, Parse.{digits_value}}}
use Rattle.std.proofs.{Math.Nat.{pow-le-pow_right}, lemmas.{Fmt.{digits_is_IsNumeral}, List.{append_cancel_left, append_cancel_right}}}
use Rattle.osek_values.specs.{Hooks.{hook_set, startup, shutdown, error, pre_task, post_task}, Numbers.{alarm_no, block_no, mask, hexadecimal}}
use Rattle.osek_values.specs.declared.numbers.{TaskNo.{TaskNo}, AlarmNo.{AlarmNo}, BlockNo.{BlockNo}}
use Rattle.oil_system.specs.declared.objects.Alarm.{Alarm}
use Rattle.osek_standard.specs.{declared.app.App.{App}, Apps.{the_task, the_alarm, no_alarm}}
use Rattle.text_pieces.proofs.NameLaws.{name_once}
use Rattle.trace_text.specs.PointTexts.{block_text}
use Rattle.trace_text.proofs.{Parting.{heads_differ, parted}, PointsApart.{block_once, few, task_once, task_lacks}}
use Rattle.flow_report.specs.{declared.finding.Finding.{Finding}, Findings.{IsHook, IsOf}}
use Rattle.flow_report.specs.declared.finding.Finding.TheVariants as finding
use Rattle.flow_report.specs.FindingLines.{hook_name, finding_words, finding_line}

-- ---- an event, by the number that its digits write

few_bits : (k : ℕ) → k < 64 → 2 ^ k < 16 ^ 64
few_bits k h =
    let le : k ≤ 64 = omega (arith, h) in
    let within : 2 ^ k ≤ 2 ^ 64 = pow-le-pow_right {n = 2} (omega arith) le in
    omega (arith, within)

number_once : (m n : ℕ) → m < 16 ^ 64 → n < 16 ^ 64 → hexadecimal m ≡ hexadecimal n → m ≡ n
number_once m n low high e =
    sym (digits_is_IsNumeral 16 false (omega arith) (omega arith) m low).1 ∙ ap (digits_value 16) e ∙ (digits_is_IsNumeral 16 false (omega arith) (omega arith) n high).1

event_once : (j k : ℕ) → j < 64 → k < 64 → hexadecimal (2 ^ j) ≡ hexadecimal (2 ^ k) → 2 ^ j ≡ 2 ^ k
event_once j k low high e = number_once (2 ^ j) (2 ^ k) (few_bits j low) (few_bits k high) e

-- ---- a hook, by its name

abbrev hook_of : List ℕ → ℕ
hook_of xs = if bytes_eq xs (codes "Error") then error else if bytes_eq xs (codes "Startup") then startup else if bytes_eq xs (codes "Shutdown") then shutdown else if bytes_eq xs (codes "PostTask") then post_task else pre_task

hook_back : (h : ℕ) → IsHook h → hook_of (hook_name h) ≡ h
hook_back h (inl e) = ap (λ (n : ℕ). hook_of (hook_name n)) e ∙ sym e
hook_back h (inr (inl e)) = ap (λ (n : ℕ). hook_of (hook_name n)) e ∙ sym e
hook_back h (inr (inr (inl e))) = ap (λ (n : ℕ). hook_of (hook_name n)) e ∙ sym e
hook_back h (inr (inr (inr (inl e)))) = ap (λ (n : ℕ). hook_of (hook_name n)) e ∙ sym e
hook_back h (inr (inr (inr (inr e)))) = ap (λ (n : ℕ). hook_of (hook_name n)) e ∙ sym e

hook_once : (h k : ℕ) → IsHook h → IsHook k → hook_name h ≡ hook_name k → h ≡ k
hook_once h k a b e = sym (hook_back h a) ∙ ap hook_of e ∙ hook_back k b

-- ---- a task and an alarm, by their names

module _ (app : App) where
  task_named : (t u : TaskNo) → t.0 < length app.tasks → u.0 < length app.tasks → (the_task app t.0).name ≡ (the_task app u.0).name → t ≡ u
  task_named t u h k e = (let same : Some t ≡ Some u = task_once app (Some t) (Some u) h k e in cc)

  alarm_named : (a b : AlarmNo) → a.0 < length app.alarms → b.0 < length app.alarms → (the_alarm app a.0).name ≡ (the_alarm app b.0).name → a ≡ b
  alarm_named a b h k e = ap alarm_no (name_once (λ (x : Alarm). x.name) app.alarms no_alarm app.valid.alarm_names.distinct a.0 b.0 h k e)

  block_named : (b c : BlockNo) → b.0 < length app.blocks → c.0 < length app.blocks → block_text b.0 ≡ block_text c.0 → b ≡ c
  block_named b c h k e = ap block_no (block_once b.0 c.0 (few app b.0 h) (few app c.0 k) e)

  regrouped : (w a b : List ℕ) → w ++ a ++ codes " " ++ b ≡ w ++ (a ++ 32 ∷ b)
  regrouped w a b = simp append_assoc

  event_named : (t u : TaskNo) (j k : ℕ) → t.0 < length app.tasks → u.0 < length app.tasks → j < 64 → k < 64 → finding_words app (finding.Unset t (mask (2 ^ j))) ≡ finding_words app (finding.Unset u (mask (2 ^ k)))
      → finding.Unset t (mask (2 ^ j)) ≡ finding.Unset u (mask (2 ^ k))
  event_named t u j k h i low high e =
      let name : TaskNo → List ℕ = λ (x : TaskNo). (the_task app x.0).name in
      let word = codes "unset " in
      let whole = append_cancel_left word (name t ++ 32 ∷ hexadecimal (2 ^ j)) (name u ++ 32 ∷ hexadecimal (2 ^ k)) (sym (regrouped word (name t) (hexadecimal (2 ^ j))) ∙ e ∙ regrouped word (name u) (hexadecimal (2 ^ k))) in
      let parts = parted 32 (name t) (name u) (hexadecimal (2 ^ j)) (hexadecimal (2 ^ k)) (task_lacks app (Some t) h) (task_lacks app (Some u) i) whole in
      ap (λ (x : TaskNo). finding.Unset x (mask (2 ^ j))) (task_named t u h i parts.0) ∙ ap (λ (m : ℕ). finding.Unset u (mask m)) (event_once j k low high parts.1)

  of_unset : (t u : TaskNo) (m n : ℕ) → IsOf app (finding.Unset t (mask m)) → IsOf app (finding.Unset u (mask n)) → finding_words app (finding.Unset t (mask m)) ≡ finding_words app (finding.Unset u (mask n))
      → finding.Unset t (mask m) ≡ finding.Unset u (mask n)
  of_unset t u m n h k e =
      let first = ap (λ (x : ℕ). finding.Unset t (mask x)) h.2.is in
      let last = ap (λ (x : ℕ). finding.Unset u (mask x)) k.2.is in
      first ∙ event_named t u h.1 k.1 h.0 k.0 h.2.known k.2.known (sym (ap (finding_words app) first) ∙ e ∙ ap (finding_words app) last) ∙ sym last

  -- ---- findings

  words_once : (f g : Finding) → IsOf app f → IsOf app g → finding_words app f ≡ finding_words app g → f ≡ g
  words_once (finding.Suspended t) (finding.Suspended u) h k e = ap finding.Suspended (task_named t u h k (append_cancel_left (codes "suspended ") _ _ e))
  words_once (finding.Suspended t) (finding.Unarmed b) h k e = absurd (heads_differ _ _ e refl)
  words_once (finding.Suspended t) (finding.Unset u n) h k e = absurd (heads_differ _ _ e refl)
  words_once (finding.Suspended t) (finding.Silent y) h k e = absurd (heads_differ _ _ (ap (drop 1) e) refl)
  words_once (finding.Suspended t) (finding.Free c) h k e = absurd (heads_differ _ _ e refl)
  words_once (finding.Suspended t) (finding.Dead c) h k e = absurd (heads_differ _ _ e refl)
  words_once (finding.Unarmed a) (finding.Suspended u) h k e = absurd (heads_differ _ _ e refl)
  words_once (finding.Unarmed a) (finding.Unarmed b) h k e = ap finding.Unarmed (alarm_named a b h k (append_cancel_left (codes "unarmed ") _ _ e))
  words_once (finding.Unarmed a) (finding.Unset u n) h k e = absurd (heads_differ _ _ (ap (drop 2) e) refl)
  words_once (finding.Unarmed a) (finding.Silent y) h k e = absurd (heads_differ _ _ e refl)
  words_once (finding.Unarmed a) (finding.Free c) h k e = absurd (heads_differ _ _ e refl)
  words_once (finding.Unarmed a) (finding.Dead c) h k e = absurd (heads_differ _ _ e refl)
  words_once (finding.Unset t m) (finding.Suspended u) h k e = absurd (heads_differ _ _ e refl)
  words_once (finding.Unset t m) (finding.Unarmed b) h k e = absurd (heads_differ _ _ (ap (drop 2) e) refl)
  words_once (finding.Unset t m) (finding.Unset u n) h k e = of_unset t u m.0 n.0 h k e
  words_once (finding.Unset t m) (finding.Silent y) h k e = absurd (heads_differ _ _ e refl)
  words_once (finding.Unset t m) (finding.Free c) h k e = absurd (heads_differ _ _ e refl)
  words_once (finding.Unset t m) (finding.Dead c) h k e = absurd (heads_differ _ _ e refl)
  words_once (finding.Silent x) (finding.Suspended u) h k e = absurd (heads_differ _ _ (ap (drop 1) e) refl)
  words_once (finding.Silent x) (finding.Unarmed b) h k e = absurd (heads_differ _ _ e refl)
  words_once (finding.Silent x) (finding.Unset u n) h k e = absurd (heads_differ _ _ e refl)
  words_once (finding.Silent x) (finding.Silent y) h k e = ap (λ (n : ℕ). finding.Silent (hook_set n)) (hook_once x.0 y.0 h.0 k.0 (append_cancel_left (codes "silent ") _ _ e))
  words_once (finding.Silent x) (finding.Free c) h k e = absurd (heads_differ _ _ e refl)
  words_once (finding.Silent x) (finding.Dead c) h k e = absurd (heads_differ _ _ e refl)
  words_once (finding.Free b) (finding.Suspended u) h k e = absurd (heads_differ _ _ e refl)
  words_once (finding.Free b) (finding.Unarmed a) h k e = absurd (heads_differ _ _ e refl)
  words_once (finding.Free b) (finding.Unset u n) h k e = absurd (heads_differ _ _ e refl)
  words_once (finding.Free b) (finding.Silent y) h k e = absurd (heads_differ _ _ e refl)
  words_once (finding.Free b) (finding.Free c) h k e = ap finding.Free (block_named b c h.0 k.0 (append_cancel_left (codes "free ") _ _ e))
  words_once (finding.Free b) (finding.Dead c) h k e = absurd (heads_differ _ _ e refl)
  words_once (finding.Dead b) (finding.Suspended u) h k e = absurd (heads_differ _ _ e refl)
  words_once (finding.Dead b) (finding.Unarmed a) h k e = absurd (heads_differ _ _ e refl)
  words_once (finding.Dead b) (finding.Unset u n) h k e = absurd (heads_differ _ _ e refl)
  words_once (finding.Dead b) (finding.Silent y) h k e = absurd (heads_differ _ _ e refl)
  words_once (finding.Dead b) (finding.Free c) h k e = absurd (heads_differ _ _ e refl)
  words_once (finding.Dead b) (finding.Dead c) h k e = ap finding.Dead (block_named b c h k (append_cancel_left (codes "dead ") _ _ e))

  pub finding_once : (f g : Finding) → IsOf app f → IsOf app g → finding_line app f ≡ finding_line app g → f ≡ g
  finding_once f g h k e = words_once f g h k (append_cancel_right (finding_words app f) (finding_words app g) (10 ∷ []) e)
