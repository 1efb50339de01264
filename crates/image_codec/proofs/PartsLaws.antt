-- The reader of a whole image, and its spelling.
use Rattle.std.proofs.Common.{◌≡◌, ℕ, ◌^◌, ◌<◌, Bool, ◌&&◌, eqb, List, [], ◌∷◌, ◌++◌, length, map, Option, Ok, refl, sym, ap, subst, ◌∙◌, append_assoc}
use Rattle.std.specs.{Prelude.{nat_lt, nat_le}, Int.{w16}, List.{flat_map, zip}}
use Rattle.std.proofs.lemmas.{Bool.{eqb-true}, List.{append-nil, nil_from_length, length-map}}
use Rattle.osek_values.specs.{declared.hooks.HookSet.{HookSet}, Hooks.{hook_set}}
use Rattle.osek_standard.specs.declared.block.Block.{Block}
use Rattle.image_fields.specs.declared.fault.ImageRule.TheVariants.{I3, I6}
use Rattle.image_model.specs.declared.site.Site.{Site}
use Rattle.image_fields.specs.declared.parts.{Header.{Header}, Tables.{Tables}}
use Rattle.image_codec.specs.declared.parts.Parts.{Parts}
use Rattle.image_model.specs.declared.image.{Image.{Image}, Version.{Version}}
use Rattle.image_codec.specs.Spelling.{one, two, block_bytes, spelling, task_bytes, isr_bytes, counter_bytes, alarm_bytes, resource_bytes, name_bytes}
use Rattle.image_fields.specs.Magic.{magic}
use Rattle.image_fields.specs.Reading.{AreBytes, Read, ◌>>=◌, kept, byte_below_at, tested_byte_at, tested_at}
use Rattle.image_fields.specs.TableReading.{version_at, header_at, tables_at}
use Rattle.image_fields.specs.BlockReading.{blocks_at}
use Rattle.image_codec.specs.ImageReading.{parts_at, all_at, parts_of}
use Rattle.image_fields.proofs.Steps.{bind_ok, kept_ok}
use Rattle.image_codec.proofs.Spells.{Spells, nothing_more, and_then, and_then_by, said, wide16, Tested, tested_byte_law, tested_number_law, GoodEntries, entries_law}
use Rattle.image_codec.proofs.{VersionLaws.{version_law}, TableLaws.{GoodTables, tables_bytes, tables_law}, BlockLaws.{Entry, GoodBlock, block_law}}
use Rattle.image_fields.proofs.BlockLoop.{read_block, zip_firsts, zip_seconds}

abbrev is_below : ℕ → ℕ → Bool
is_below limit n = nat_lt n limit

abbrev is_mode_count : ℕ → Bool
is_mode_count n = nat_lt 0 n && nat_le n 8

abbrev is_block_count : ℕ → Bool
is_block_count n = nat_le n 1056

abbrev pub a_header : Version → HookSet → ℕ → ℕ → ℕ → ℕ → ℕ → ℕ → ℕ → Header
a_header v hooks tasks isrs counters alarms resources modes blocks = record { version = v; hooks = hooks; tasks = tasks; isrs = isrs; counters = counters; alarms = alarms; resources = resources; modes = modes; blocks = blocks }

abbrev pub header_spelled : Header → List ℕ
header_spelled h = one h.hooks.0 ++ one h.tasks ++ one h.isrs ++ one h.counters ++ one h.alarms ++ one h.resources ++ one h.modes ++ two h.blocks

joined9 : (m a b c d e f g h : List ℕ) → m ++ (a ++ (b ++ (c ++ (d ++ (e ++ (f ++ (g ++ (h ++ [])))))))) ≡ m ++ (a ++ b ++ c ++ d ++ e ++ f ++ g ++ h)
joined9 m a b c d e f g h = simp (append_assoc, append-nil)

abbrev Few : ℕ → ℕ → Type 0
Few limit = Tested (is_below limit) (λ n. n < 256)

pub record GoodHeader (h : Header) : Type 0 where
  pub hooks : Few 32 h.hooks.0
  pub tasks : Few 17 h.tasks
  pub isrs : Few 9 h.isrs
  pub counters : Few 9 h.counters
  pub alarms : Few 17 h.alarms
  pub resources : Few 9 h.resources
  pub modes : Tested is_mode_count (λ n. n < 256) h.modes
  pub blocks : Tested is_block_count (λ n. n < 2 ^ 16) h.blocks

few_law : (limit : ℕ) → Spells (byte_below_at limit) one (Few limit)
few_law limit = tested_byte_law (is_below limit) I3

pub header_law : Spells header_at (λ h. magic h.version ++ header_spelled h) GoodHeader
unfolding header_at
header_law =
    said header_at _ _ (λ h. magic h.version ++ header_spelled h) GoodHeader
    (and_then version_at magic (λ _. Unit {0}) (λ (h : Header). h.version) _ _ _ version_law (λ v _.
    and_then (byte_below_at 32) one (Few 32) (λ (h : Header). h.hooks.0) _ _ _ (few_law 32) (λ hooks _.
    and_then (byte_below_at 17) one (Few 17) (λ (h : Header). h.tasks) _ _ _ (few_law 17) (λ tasks _.
    and_then (byte_below_at 9) one (Few 9) (λ (h : Header). h.isrs) _ _ _ (few_law 9) (λ isrs _.
    and_then (byte_below_at 9) one (Few 9) (λ (h : Header). h.counters) _ _ _ (few_law 9) (λ counters _.
    and_then (byte_below_at 17) one (Few 17) (λ (h : Header). h.alarms) _ _ _ (few_law 17) (λ alarms _.
    and_then (byte_below_at 9) one (Few 9) (λ (h : Header). h.resources) _ _ _ (few_law 9) (λ resources _.
    and_then (tested_byte_at is_mode_count I3) one (Tested is_mode_count (λ n. n < 256)) (λ (h : Header). h.modes) _ _ _ (tested_byte_law is_mode_count I3) (λ modes _.
    and_then (tested_at w16 is_block_count I3) two (Tested is_block_count (λ n. n < 2 ^ 16)) (λ (h : Header). h.blocks)
    (λ blocks rest. Ok (a_header v (hook_set hooks) tasks isrs counters alarms resources modes blocks, rest)) (λ _. []) (λ blocks h. h ≡ a_header v (hook_set hooks) tasks isrs counters alarms resources modes blocks)
    (tested_number_law w16 (2 ^ 16) wide16 is_block_count I3) (λ blocks _. nothing_more (a_header v (hook_set hooks) tasks isrs counters alarms resources modes blocks))
    (λ blocks h _ is. ap (λ (g : Header). g.blocks) is))
    (λ modes h _ good. ap (λ (g : Header). g.modes) good.1))
    (λ resources h _ good. ap (λ (g : Header). g.resources) good.1.1))
    (λ alarms h _ good. ap (λ (g : Header). g.alarms) good.1.1.1))
    (λ counters h _ good. ap (λ (g : Header). g.counters) good.1.1.1.1))
    (λ isrs h _ good. ap (λ (g : Header). g.isrs) good.1.1.1.1.1))
    (λ tasks h _ good. ap (λ (g : Header). g.tasks) good.1.1.1.1.1.1))
    (λ hooks h _ good. ap (λ (g : Header). g.hooks.0) good.1.1.1.1.1.1.1))
    (λ v h _ good. ap (λ (g : Header). g.version) good.1.1.1.1.1.1.1.1))
    (λ h. joined9 (magic h.version) (one h.hooks.0) (one h.tasks) (one h.isrs) (one h.counters) (one h.alarms) (one h.resources) (one h.modes) (two h.blocks))
    (λ h good. record { hooks = good.1.0; tasks = good.1.1.0; isrs = good.1.1.1.0; counters = good.1.1.1.1.0; alarms = good.1.1.1.1.1.0; resources = good.1.1.1.1.1.1.0; modes = good.1.1.1.1.1.1.1.0; blocks = good.1.1.1.1.1.1.1.1.0 })
    (λ h good. (tt, (good.hooks, (good.tasks, (good.isrs, (good.counters, (good.alarms, (good.resources, (good.modes, (good.blocks, refl))))))))))

-- ---- all parts

abbrev pub header_of : Parts → Header
header_of p = a_header p.version p.hooks (length p.tables.tasks) (length p.tables.isrs) (length p.tables.counters) (length p.tables.alarms) (length p.tables.resources) (length p.tables.modes) (length p.blocks)

abbrev the_parts : Header → Tables → List Entry → Parts
the_parts h t es = record { version = h.version; hooks = h.hooks; tables = t; blocks = map (λ (x : Entry). x.0) es; sites = map (λ (x : Entry). x.1) es }

zip_again : (es : List Entry) → zip (map (λ (x : Entry). x.0) es) (map (λ (x : Entry). x.1) es) ≡ es
zip_again [] = refl
zip_again (x ∷ es) = ap (λ ys. x ∷ ys) (zip_again es)

header_is : (v : Version) (h g : HookSet) (a b c d e f i j k l m n o q : ℕ) → h ≡ g → a ≡ b → c ≡ d → e ≡ f → i ≡ j → k ≡ l → m ≡ n → o ≡ q → a_header v h a c e i k m o ≡ a_header v g b d f j l n q
header_is v h g a b c d e f i j k l m n o q e0 e1 e2 e3 e4 e5 e6 e7 = cc

abbrev pub GoodBlocks : Version → Tables → ℕ → List Entry → Type 0
GoodBlocks v t count = GoodEntries (λ (earlier : List Entry). GoodBlock t count (length earlier) v) count

blocks_law : (v : Version) (t : Tables) (count : ℕ) → Spells (blocks_at v t count) (flat_map (block_bytes v)) (GoodBlocks v t count)
blocks_law v t count = entries_law (read_block v t count) (block_bytes v) (λ (earlier : List Entry). GoodBlock t count (length earlier) v) (λ earlier. block_law t count (length earlier) v) count

pub record GoodParts (p : Parts) : Type 0 where
  pub header : GoodHeader (header_of p)
  pub tables : GoodTables (header_of p) p.tables
  pub blocks : GoodBlocks p.version p.tables (length p.blocks) (zip p.blocks p.sites)
  pub same : length p.blocks ≡ length p.sites

abbrev pub parts_bytes : Parts → List ℕ
parts_bytes p = (magic p.version ++ header_spelled (header_of p)) ++ (tables_bytes p.version p.tables ++ (flat_map (block_bytes p.version) (zip p.blocks p.sites) ++ []))

module _ (h : Header) (t : Tables) (es : List Entry) (p : Parts) (tables : GoodTables h t) (blocks : GoodBlocks h.version t h.blocks es) (is : p ≡ the_parts h t es) where
  its_header : header_of p ≡ h
  its_header =
      ap header_of is ∙ header_is h.version h.hooks h.hooks (length t.tasks) h.tasks (length t.isrs) h.isrs (length t.counters) h.counters (length t.alarms) h.alarms (length t.resources) h.resources (length t.modes) h.modes
      (length (map (λ (x : Entry). x.0) es)) h.blocks refl tables.tasks.0 tables.isrs.0 tables.counters.0 tables.alarms.0 tables.resources.0 tables.modes.0 (length-map es (λ (x : Entry). x.0) ∙ blocks.0)

abbrev some_parts : Version → HookSet → Tables → List Block → List (Option Site) → Parts
some_parts v hooks t bs ss = record { version = v; hooks = hooks; tables = t; blocks = bs; sites = ss }

with_lists : (v : Version) (hooks : HookSet) (t : Tables) {bs bs' : List Block} {ss ss' : List (Option Site)} → bs' ≡ bs → ss' ≡ ss → some_parts v hooks t bs ss ≡ some_parts v hooks t bs' ss'
with_lists v hooks t e f = cc

parts_again : (p : Parts) → length p.blocks ≡ length p.sites → p ≡ the_parts (header_of p) p.tables (zip p.blocks p.sites)
parts_again p same = with_lists p.version p.hooks p.tables (zip_firsts p.blocks p.sites same) (zip_seconds p.blocks p.sites same)

pub parts_law : Spells parts_at parts_bytes GoodParts
unfolding parts_at
parts_law =
    said parts_at _ _ parts_bytes GoodParts
    (and_then_by header_at (λ h. magic h.version ++ header_spelled h) GoodHeader header_of _ _ _ header_law (λ h _.
    and_then (tables_at h) (tables_bytes h.version) (GoodTables h) (λ (p : Parts). p.tables) _ _ _ (tables_law h) (λ t _.
    and_then (blocks_at h.version t h.blocks) (flat_map (block_bytes h.version)) (GoodBlocks h.version t h.blocks) (λ (p : Parts). zip p.blocks p.sites) (λ es rest. Ok (the_parts h t es, rest)) (λ _. []) (λ es p. p ≡ the_parts h t es)
    (blocks_law h.version t h.blocks) (λ es _. nothing_more (the_parts h t es))
    (λ es p _ is. ap (λ (q : Parts). zip q.blocks q.sites) is ∙ zip_again es))
    (λ t p _ good. ap (λ (q : Parts). q.tables) good.1))
    (λ h p _ good. its_header h p.tables (zip p.blocks p.sites) p good.0 good.1.0 good.1.1))
    (λ p. refl)
    (λ p good. record {
      header = good.0;
      tables = good.1.0;
      blocks = good.1.1.0;
      same = ap (λ (q : Parts). length q.blocks) good.1.1.1 ∙ length-map (zip p.blocks p.sites) (λ (x : Entry). x.0) ∙ sym (length-map (zip p.blocks p.sites) (λ (x : Entry). x.1)) ∙ sym (ap (λ (q : Parts). length q.sites) good.1.1.1);
    })
    (λ p good. (good.header, (good.tables, (good.blocks, parts_again p good.same))))

-- the spelling of an image is that of its parts
regroup : (m h a b c d e f g : List ℕ) → m ++ h ++ a ++ b ++ c ++ d ++ e ++ f ++ g ≡ (m ++ h) ++ ((a ++ b ++ c ++ d ++ e ++ f) ++ (g ++ []))
regroup m h a b c d e f g = simp (append_assoc, append-nil)

pub spelling_is : (i : Image) → spelling i ≡ parts_bytes (parts_of i)
unfolding spelling
spelling_is i = regroup (magic i.version) (header_spelled (header_of (parts_of i))) (flat_map (task_bytes i.version) i.app.tasks) (flat_map (isr_bytes i.version) i.app.isrs) (flat_map counter_bytes i.app.counters) (flat_map alarm_bytes i.app.alarms)
    (flat_map (resource_bytes i.version) i.app.resources) (flat_map name_bytes i.app.modes) (flat_map (block_bytes i.version) (zip i.app.blocks i.sites))

-- what is read of all bytes
pub record IsAllOf (bytes : List ℕ) (p : Parts) (rest : List ℕ) : Type 0 where
  pub spelled : bytes ≡ parts_bytes p
  pub good : GoodParts p
  pub none : rest ≡ []

pub all_takes : (bytes : List ℕ) (p : Parts) (rest : List ℕ) → AreBytes bytes → all_at bytes ≡ Ok (p, rest) → IsAllOf bytes p rest
unfolding all_at
all_takes bytes p rest fits e =
    let a = bind_ok (parts_at bytes) (λ q. kept (eqb (length q.1) 0) I6 q.1 q) (p, rest) e in
    let g = kept_ok (eqb (length a.0.1) 0) I6 a.0.1 a.0 (p, rest) a.2 in
    let u = parts_law.takes bytes a.0.0 a.0.1 fits a.1 in
    let nothing : a.0.1 ≡ [] = nil_from_length a.0.1 (eqb-true _ _ g.0) in
    subst (λ (x : Parts × List ℕ). IsAllOf bytes x.0 x.1) g.1
    (record { spelled = u.0.parts ∙ ap (λ (r : List ℕ). parts_bytes a.0.0 ++ r) nothing ∙ append-nil (parts_bytes a.0.0); good = u.1; none = nothing })

pub all_again : (p : Parts) → GoodParts p → all_at (parts_bytes p) ≡ Ok (p, [])
unfolding all_at
all_again p good =
    ap (λ (b : List ℕ). parts_at b >>= λ q. kept (eqb (length q.1) 0) I6 q.1 q) (sym (append-nil (parts_bytes p)))
    ∙ ap (λ (r : Read Parts). r >>= λ q. kept (eqb (length q.1) 0) I6 q.1 q) (parts_law.again p [] good)
