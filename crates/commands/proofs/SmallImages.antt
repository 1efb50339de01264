-- Each image's bytes fit into a file that is read: its tables are few, its names short, and its blocks are of a few
-- bytes each.
use Rattle.std.proofs.Common.{◌≡◌, ℕ, ◌*◌, ◌≤◌, true, List, [], ◌∷◌, length, map, get_or, Option, Some, None, refl, sym, subst, arith}
use Rattle.std.specs.{Prelude.{All, IsTrue, nat_le}, List.{flat_map, zip}}
use Rattle.std.proofs.lemmas.{Bool.{leb-true, and_parts}, List.{length-append, Concat.{length-flat_map}, Elements.{All-nil, All-cons, All-head, All-tail}, Sums.{sum_by-le}}}
use Rattle.osek_values.specs.{Names.{is_word, is_name}, declared.{limits.TheConstants.{MAX_BLOCKS, MAX_FILE, MAX_NAME, MAX_TASKS}, numbers.BlockNo.{BlockNo}}}
use Rattle.oil_system.specs.declared.objects.{Alarm.{Alarm}, Resource.{Resource}, Action.{Action}}
use Rattle.oil_system.specs.declared.objects.Action.TheVariants as action
use Rattle.osek_standard.specs.declared.{objects.{Task.{Task}, Isr.{Isr}, Counter.{Counter}}, block.{Block.{Block}, Kind.{Kind}}}
use Rattle.osek_standard.specs.declared.block.Kind.TheVariants as kind
use Rattle.osek_standard.specs.{Apps.{tables}, Validity.{IsValid}}
use Rattle.image_model.specs.CallNames as call
use Rattle.image_model.specs.declared.{site.Site.{Site}, image.{Image.{Image}, Version.{Version}}}
use Rattle.image_model.specs.declared.image.Version.TheVariants as version
use Rattle.image_codec.specs.Spelling.{name_bytes, task_bytes, isr_bytes, counter_bytes, action_bytes, alarm_bytes, resource_bytes, operand_bytes, way_bytes, site_bytes, block_bytes, spelling}

-- ---- fields

name_within : (name : List ℕ) → is_name name ≡ true → length name ≤ MAX_NAME
name_within name e = leb-true _ _ (and_parts (is_word name) (nat_le (length name) MAX_NAME) e).1

task_within : (v : Version) (x : Task) → length x.name ≤ MAX_NAME → length (task_bytes v x) ≤ 100
task_within version.One x le = grind (arith, le, length-append)
task_within version.Two x le = grind (arith, le, length-append)

isr_within : (v : Version) (x : Isr) → length x.name ≤ MAX_NAME → length (isr_bytes v x) ≤ 100
isr_within version.One x le = grind (arith, le, length-append)
isr_within version.Two x le = grind (arith, le, length-append)

counter_within : (x : Counter) → length x.name ≤ MAX_NAME → length (counter_bytes x) ≤ 100
counter_within x le = grind (arith, le, length-append)

action_len : (x : Action) → length (action_bytes x) ≡ 10
action_len (action.ActivateTask t) = refl
action_len (action.SetEvent t m) = refl

alarm_within : (x : Alarm) → length x.name ≤ MAX_NAME → length (alarm_bytes x) ≤ 100
alarm_within x le = grind (arith, le, action_len x.action, length-append)

resource_within : (v : Version) (x : Resource) → length x.name ≤ MAX_NAME → length (resource_bytes v x) ≤ 100
resource_within version.One x le = grind (arith, le, length-append)
resource_within version.Two x le = grind (arith, le, length-append)

mode_within : (name : List ℕ) → length name ≤ MAX_NAME → length (name_bytes name) ≤ 100
mode_within name le = omega (arith, le)

operands_within : (k : Kind) → length (operand_bytes k) ≤ 17
operands_within (kind.Work n) = omega arith
operands_within (kind.Choice o) = omega arith
operands_within kind.Loop = omega arith
operands_within (kind.Call (call.Plain k)) = omega arith
operands_within (kind.Call (call.Task k t)) = omega arith
operands_within (kind.Call (call.Resource k r)) = omega arith
operands_within (kind.Call (call.SetEvent t m)) = omega arith
operands_within (kind.Call (call.Mask k m)) = omega arith
operands_within (kind.Call (call.Alarm k a)) = omega arith
operands_within (kind.Call (call.Arm k a i c)) = omega arith
operands_within (kind.Call (call.Lock l)) = omega arith
operands_within (kind.Call call.ShutdownOs) = omega arith
operands_within kind.TaskEnd = omega arith
operands_within kind.IsrEnd = omega arith
operands_within kind.CountUp = omega arith
operands_within (kind.Expire a) = omega arith

ways_within : (k : Kind) (next : BlockNo) → length (way_bytes k next) ≤ 4
ways_within (kind.Choice o) next = omega arith
ways_within kind.TaskEnd next = omega arith
ways_within kind.IsrEnd next = omega arith
ways_within _ next = omega arith

site_within : (v : Version) (x : Option Site) → length (site_bytes v x) ≤ 3
site_within v None = omega arith
site_within version.One (Some x) = omega arith
site_within version.Two (Some x) = omega arith

block_within : (v : Version) (x : Block × Option Site) → length (block_bytes v x) ≤ 30
block_within v x = grind (arith, operands_within x.0.kind, ways_within x.0.kind x.0.next, site_within v x.1, length-append)

-- ---- tables

module _ {X : Type 0} (spell : X → List ℕ) where
  -- entries of so many bytes each at most
  entries_within : (m : ℕ) (xs : List X) → All (λ x. length (spell x) ≤ m) xs → length (flat_map spell xs) ≤ length xs * m
  entries_within m xs h = subst (λ (n : ℕ). n ≤ length xs * m) (sym (length-flat_map spell xs)) (sum_by-le (λ x. length (spell x)) m xs h)

  module _ (name : X → List ℕ) (one_within : (x : X) → length (name x) ≤ MAX_NAME → length (spell x) ≤ 100) where
    each_within : (xs : List X) → All (λ (n : List ℕ). IsTrue (is_name n)) (map name xs) → All (λ x. length (spell x) ≤ 100) xs
    each_within [] h = All-nil (λ (x : X). length (spell x) ≤ 100)
    each_within (x ∷ xs) h =
        let first = name_within (name x) (All-head (λ (n : List ℕ). IsTrue (is_name n)) (name x) (map name xs) h) in
        let rest = each_within xs (All-tail (λ (n : List ℕ). IsTrue (is_name n)) (name x) (map name xs) h) in
        All-cons (λ (y : X). length (spell y) ≤ 100) x xs (one_within x first) rest

    -- a table of as many entries as there are tasks at most, each with its name
    table_within : (xs : List X) → length xs ≤ MAX_TASKS → All (λ (n : List ℕ). IsTrue (is_name n)) (map name xs) → length (flat_map spell xs) ≤ 1600
    table_within xs few h = omega (arith, few, entries_within 100 xs (each_within xs h))

modes_within : (names : List (List ℕ)) → All (λ (n : List ℕ). IsTrue (is_name n)) names → All (λ n. length (name_bytes n) ≤ 100) names
modes_within names h k d lt = mode_within (get_or names k d) (name_within (get_or names k d) (h k d lt))

zip_within : {K X : Type 0} (ks : List K) (xs : List X) → length (zip ks xs) ≤ length ks
zip_within [] xs = omega arith
zip_within (k ∷ ks) [] = omega arith
zip_within (k ∷ ks) (x ∷ xs) = omega (arith, zip_within ks xs)

blocks_within : (v : Version) (xs : List (Block × Option Site)) → length xs ≤ MAX_BLOCKS → length (flat_map (block_bytes v) xs) ≤ 31680
blocks_within v xs few = omega (arith, few, entries_within (block_bytes v) 30 xs (λ k d lt. block_within v (get_or xs k d)))

-- ---- the whole

pub small : (i : Image) → length (spelling i) ≤ MAX_FILE
unfolding spelling
small i =
    let a = i.app in
    let valid : IsValid (tables a) = a.valid in
    let v : Version = i.version in
    let tasks = flat_map (task_bytes v) a.tasks in
    let isrs = flat_map (isr_bytes v) a.isrs in
    let counters = flat_map counter_bytes a.counters in
    let alarms = flat_map alarm_bytes a.alarms in
    let resources = flat_map (resource_bytes v) a.resources in
    let modes = flat_map name_bytes a.modes in
    let blocks = flat_map (block_bytes v) (zip a.blocks i.sites) in
    let of_blocks : length blocks ≤ 31680 = blocks_within v (zip a.blocks i.sites) (omega (arith, valid.few_blocks, zip_within a.blocks i.sites)) in
    let of_modes : length modes ≤ 1600 = omega (arith, valid.few_modes, entries_within name_bytes 100 a.modes (modes_within a.modes valid.mode_names.each)) in
    let of_resources : length resources ≤ 1600 = table_within (resource_bytes v) (λ x. x.name) (resource_within v) a.resources (omega (arith, valid.few_resources)) valid.resource_names.each in
    let of_alarms : length alarms ≤ 1600 = table_within alarm_bytes (λ x. x.name) alarm_within a.alarms (omega (arith, valid.few_alarms)) valid.alarm_names.each in
    let of_counters : length counters ≤ 1600 = table_within counter_bytes (λ x. x.name) counter_within a.counters (omega (arith, valid.few_counters)) valid.counter_names.each in
    let of_isrs : length isrs ≤ 1600 = table_within (isr_bytes v) (λ x. x.name) (isr_within v) a.isrs (omega (arith, valid.few_isrs)) valid.isr_names.each in
    let of_tasks : length tasks ≤ 1600 = table_within (task_bytes v) (λ x. x.name) (task_within v) a.tasks (omega (arith, valid.few_tasks)) valid.task_names.each in
    grind (arith, of_blocks, of_modes, of_resources, of_alarms, of_counters, of_isrs, of_tasks, length-append)
