-- Bits of masks and of modes.
use Rattle.std.proofs.Common.{◌≡◌, ℕ, ◌+◌, ◌-◌, ◌<◌, ◌≤◌, ◌^◌, ◌⊎◌, inl, inr, ⊎_elim, List, [], ◌∷◌, length, Bool, true, false, refl, sym, subst, arith}
use Rattle.std.specs.{Prelude.{if◌then◌else◌, codes, bit_or, ◌||◌}, List.{AllByRecursion}, Str.{bytes_eq}}
use Rattle.std.proofs.{Math.Pow.{pow-lt, pow-sub-lt}, lemmas.Nat.{or_lt, le_or_l, le_or_r, pow_pos}}
use Rattle.osek_values.specs.Hooks.{when, startup, shutdown, error, pre_task, post_task}
use Rattle.oil_tree.specs.declared.tree.{Attr.{Attr}, Object.{Object}}
use Rattle.oil_model.specs.{LookUp.{is_named, has, word_of, inner}, Objects.{priority, is_started, start, alarm_time, cycle_time}}
use Rattle.oil_model.specs.Systems.{hook, hooks, number_from, number_in, mode_bits, start_bits, autostart, above_all, above_isrs}
use Rattle.oil_model.proofs.Facts.{true_or_false}

small_hook : (b : Bool) (h : ℕ) → h < 2 ^ 5 → when b h < 2 ^ 5
small_hook true h lt = lt
small_hook false h lt = omega (arith, lt)

pub known_hooks : (objects : List Object) → hooks objects < 32
known_hooks objects =
    let a : hook (codes "STARTUPHOOK") startup objects < 2 ^ 5 = small_hook _ startup (omega arith) in
    let b : hook (codes "SHUTDOWNHOOK") shutdown objects < 2 ^ 5 = small_hook _ shutdown (omega arith) in
    let c : hook (codes "ERRORHOOK") error objects < 2 ^ 5 = small_hook _ error (omega arith) in
    let d : hook (codes "PRETASKHOOK") pre_task objects < 2 ^ 5 = small_hook _ pre_task (omega arith) in
    let e : hook (codes "POSTTASKHOOK") post_task objects < 2 ^ 5 = small_hook _ post_task (omega arith) in
    or_lt 5 _ _ a (or_lt 5 _ _ b (or_lt 5 _ _ c (or_lt 5 _ _ d e)))

-- a name's number is one of the list, or 0
number_or_none : (k : ℕ) (n : List ℕ) (names : List (List ℕ)) → (number_from k n names < k + length names) ⊎ (number_from k n names ≡ 0)
number_or_none k n [] = inr refl
number_or_none k n (m ∷ names) =
    ⊎_elim
    (λ t. subst (λ (b : Bool). ((if b then k else number_from (k + 1) n names) < k + length (m ∷ names)) ⊎ ((if b then k else number_from (k + 1) n names) ≡ 0)) (sym t) (inl (omega arith)))
    (λ f. subst (λ (b : Bool). ((if b then k else number_from (k + 1) n names) < k + length (m ∷ names)) ⊎ ((if b then k else number_from (k + 1) n names) ≡ 0)) (sym f) (⊎_elim (λ lt. inl (omega (arith, lt))) (λ none. inr none) (number_or_none (k + 1) n names)))
    (true_or_false (bytes_eq m n))

pub mode_number : (modes : List (List ℕ)) (n : List ℕ) → 0 < length modes → number_in modes n < length modes
mode_number modes n some = ⊎_elim (λ lt. omega (arith, lt)) (λ none. omega (arith, none, some)) (number_or_none 0 n modes)

or_if : (b : Bool) (bits one w : ℕ) → bits < 2 ^ w → one < 2 ^ w → (if b then bit_or bits one else bits) < 2 ^ w
or_if true bits one w h k = or_lt w bits one h k
or_if false bits one w h k = h

mode_bits_below : (bits : ℕ) (modes : List (List ℕ)) (attrs : List Attr) → 0 < length modes → bits < 2 ^ length modes → mode_bits bits modes attrs < 2 ^ length modes
mode_bits_below bits modes [] some h = h
mode_bits_below bits modes (a ∷ attrs) some h =
    mode_bits_below (if is_named (codes "APPMODE") a then bit_or bits (2 ^ number_in modes (word_of a.value)) else bits) modes attrs some (or_if (is_named (codes "APPMODE") a) bits (2 ^ number_in modes (word_of a.value)) (length modes) h (pow-lt (mode_number modes (word_of a.value) some)))

or_if_some : (b : Bool) (bits one : ℕ) → 0 < bits → 0 < (if b then bit_or bits one else bits)
or_if_some true bits one h = let le = le_or_l bits one in omega (arith, h, le)
or_if_some false bits one h = h

mode_bits_stay : (bits : ℕ) (modes : List (List ℕ)) (attrs : List Attr) → 0 < bits → 0 < mode_bits bits modes attrs
mode_bits_stay bits modes [] h = h
mode_bits_stay bits modes (a ∷ attrs) h = mode_bits_stay (if is_named (codes "APPMODE") a then bit_or bits (2 ^ number_in modes (word_of a.value)) else bits) modes attrs (or_if_some (is_named (codes "APPMODE") a) bits (2 ^ number_in modes (word_of a.value)) h)

mode_bits_some : (bits : ℕ) (modes : List (List ℕ)) (attrs : List Attr) → has (codes "APPMODE") attrs ≡ true → 0 < mode_bits bits modes attrs
mode_bits_some bits modes [] h = absurd cc
mode_bits_some bits modes (a ∷ attrs) h =
    let one : ℕ = 2 ^ number_in modes (word_of a.value) in
    ⊎_elim
    (λ t.
    let pos : 0 < one = pow_pos (number_in modes (word_of a.value)) in
    let le : one ≤ bit_or bits one = le_or_r bits one in
    let more : 0 < bit_or bits one = omega (arith, pos, le) in
    subst (λ (b : Bool). 0 < mode_bits (if b then bit_or bits one else bits) modes attrs) (sym t) (mode_bits_stay (bit_or bits one) modes attrs more))
    (λ f.
    let later : has (codes "APPMODE") attrs ≡ true = subst (λ (b : Bool). (b || has (codes "APPMODE") attrs) ≡ true) f h in
    subst (λ (b : Bool). 0 < mode_bits (if b then bit_or bits one else bits) modes attrs) (sym f) (mode_bits_some bits modes attrs later))
    (true_or_false (is_named (codes "APPMODE") a))

start_bits_below : (b : Bool) (modes : List (List ℕ)) (attrs : List Attr) → 0 < length modes → (if b then mode_bits 0 modes attrs else 2 ^ length modes - 1) < 2 ^ length modes
start_bits_below true modes attrs some = mode_bits_below 0 modes attrs some (pow_pos (length modes))
start_bits_below false modes attrs some = let one : 0 < 1 = omega arith in pow-sub-lt (length modes) one

-- an object is autostarted in modes that there are
pub autostart_below : (modes : List (List ℕ)) (attrs : List Attr) → 0 < length modes → autostart modes attrs < 2 ^ length modes
autostart_below modes attrs some =
    ⊎_elim
    (λ t. subst (λ (b : Bool). (if b then start_bits modes (start attrs) else 0) < 2 ^ length modes) (sym t) (start_bits_below (has (codes "APPMODE") (start attrs)) modes (start attrs) some))
    (λ f. subst (λ (b : Bool). (if b then start_bits modes (start attrs) else 0) < 2 ^ length modes) (sym f) (pow_pos (length modes)))
    (true_or_false (is_started attrs))

start_bits_some : (modes : List (List ℕ)) (attrs : List Attr) → 0 < length modes → 0 < start_bits modes attrs
start_bits_some modes attrs some =
    ⊎_elim
    (λ t. subst (λ (b : Bool). 0 < (if b then mode_bits 0 modes attrs else 2 ^ length modes - 1)) (sym t) (mode_bits_some 0 modes attrs t))
    (λ f. subst (λ (b : Bool). 0 < (if b then mode_bits 0 modes attrs else 2 ^ length modes - 1)) (sym f) (let two : 2 ^ 0 < 2 ^ length modes = pow-lt some in omega (arith, two)))
    (true_or_false (has (codes "APPMODE") attrs))

-- an alarm without modes isn't autostarted, and has no times
pub no_start : (modes : List (List ℕ)) (attrs : List Attr) → 0 < length modes → autostart modes attrs ≡ 0 → (alarm_time (start attrs) ≡ 0) × (cycle_time (start attrs) ≡ 0)
no_start modes attrs some e =
    ⊎_elim
    (λ t.
    let none : start_bits modes (start attrs) ≡ 0 = subst (λ (b : Bool). (if b then start_bits modes (start attrs) else 0) ≡ 0) t e in
    let more = start_bits_some modes (start attrs) some in
    absurd (omega (arith, none, more)))
    (λ f. subst (λ (b : Bool). (alarm_time (if b then inner (codes "AUTOSTART") attrs else []) ≡ 0) × (cycle_time (if b then inner (codes "AUTOSTART") attrs else []) ≡ 0)) (sym f) (refl, refl))
    (true_or_false (is_started attrs))

pub ceiling_small : (tasks : List Object) → AllByRecursion (λ (o : Object). priority o ≤ 65535) tasks → above_all tasks ≤ 131071
ceiling_small [] h = omega arith
ceiling_small (o ∷ tasks) h = let le = h.0 in let rest = ceiling_small tasks h.1 in omega (arith, le, rest)

pub interrupt_ceiling_small : (isrs : List Object) → AllByRecursion (λ (o : Object). priority o ≤ 255) isrs → above_isrs isrs ≤ 256
interrupt_ceiling_small [] h = omega arith
interrupt_ceiling_small (o ∷ isrs) h = let le = h.0 in let rest = interrupt_ceiling_small isrs h.1 in omega (arith, le, rest)
