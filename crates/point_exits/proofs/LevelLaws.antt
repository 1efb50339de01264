-- What levels say as the pool grows, that they say it of all numbers of an entry, and what a narrowed entry means.
use Rattle.std.proofs.Common.{◌≡◌, ◌≢◌, ℕ, ◌+◌, ◌<◌, ◌≤◌, Bool, false, ◌&&◌, List, [], ◌∷◌, ◌++◌, length, get_or, set, map, sym, ap, ap₂, subst, ◌∙◌, inl, inr, arith, IsTrue, get_or-set_same, get_or-set_other}
use Rattle.std.proofs.{Math.{ListN.{get_or-map}, Seq.{get_or-append_seam}}, lemmas.Bool.{cases_eq, cases_lt, and_parts}}
use Rattle.std.proofs.lemmas.List.{length-append, length-set, get_or_append_left, map-set, set-get_or}
use Rattle.osek_standard.specs.declared.app.App.{App}
use Rattle.abstract_state.specs.{declared.{value.PartValue.{PartValue, TheVariants.{OfAlarm}}, table.ValueSet.{ValueSet}}, Tables.{set_at, is_member}}
use Rattle.numbered_sets.specs.{declared.numbered_entry.NumberedEntry.{NumberedEntry}, Numbers.{Numbers, has_number}, NumberedEntries.{no_set, numbers_at, number_domains}}
use Rattle.numbered_sets.specs.{Pools.{Values, values_at, IsExtended, IsLonger}, Views.{plain_set, plain_entry, AreNumbersOf}}
use Rattle.numbered_sets.proofs.{PlainLaws.{member_of_plain, plain_set_at}, SiftLaws.{value_sifted}}
use Rattle.block_sets.specs.{declared.sets.BlockSets.{BlockSets}, AtBlocks.{AreBlockSets}}
use Rattle.block_sets.proofs.PutLaws.{sets_longer}
use Rattle.point_exits.specs.{declared.{task_levels.TaskLevels.{TaskLevels}, arrivals.Arrivals.{Arrivals}, levels.Levels.{Levels}}, Arrivals.{AreKnownArrivals}}
use Rattle.point_exits.specs.Levels.{IsLiveAt, IsLiveFrom, AreOf, AreFrom, IsDead, AreTaskLevels, AreInsides, AreLevels, IsNarrowed}
use Rattle.point_exits.proofs.{InsideLevels.{insides_longer}, KnownArrivals.{no_arrivals}}

-- ---- a pool that grew

module _ (vs ws : List PartValue) (longer : IsExtended vs ws) where
  same_at : (n : ℕ) (d : PartValue) → n < length vs → get_or ws n d ≡ get_or vs n d
  same_at n d lt = ap (λ (us : List PartValue). get_or us n d) longer.is ∙ get_or_append_left vs longer.more d n lt

  still_of : (P : PartValue → Type 0) (k : ℕ) (x : Numbers) → k ≤ length vs → AreOf P vs k x → AreOf P ws k x
  still_of P k x few h n d has = (let old = h n d has in (old.0, subst P (sym (same_at n d (omega (arith, old.0, few)))) old.1))

  from_longer : (app : App) (u k p : ℕ) (x : Numbers) → k ≤ length vs → AreFrom app u vs k p x → AreFrom app u ws k p x
  from_longer app u k p x few h = record {
    each = λ n d has. (
        let old = h.each n d has in
        (omega (arith, old.0, ap length longer.is, length-append vs longer.more), subst (IsLiveFrom app u p) (sym (same_at n d old.0)) old.1));
    whole = λ n d lt live. h.whole n d lt (subst (IsLiveFrom app u p) (same_at n d (omega (arith, lt, few))) live);
  }

  pub task_levels_longer : (app : App) (u : ℕ) (x : TaskLevels) → AreTaskLevels app u vs x → AreTaskLevels app u ws x
  task_levels_longer app u x h = record {
    few = omega (arith, h.few, ap length longer.is, length-append vs longer.more);
    dead = still_of IsDead x.judged x.dead h.few h.dead;
    levels = λ level there. still_of (IsLiveAt app u level.priority) x.judged level.numbers h.few (h.levels level there);
    from = λ level there. from_longer app u x.judged level.priority level.from h.few (h.from level there);
    whole = h.whole;
    blocks = sets_longer vs ws x.blocks.sets longer h.blocks;
  }

-- the numbers of further values came to those at their blocks
pub blocks_renewed : (app : App) (u : ℕ) (vs : List PartValue) (x : TaskLevels) (blocks : BlockSets) → AreTaskLevels app u vs x → (AreBlockSets vs x.blocks.sets → AreBlockSets vs blocks.sets) → AreTaskLevels app u vs (record x { blocks = blocks })
blocks_renewed app u vs x blocks h put = record { few = h.few; dead = h.dead; levels = h.levels; from = h.from; whole = h.whole; blocks = put h.blocks }

pub levels_longer : (app : App) (pool after : List Values) (levels : Levels) → IsLonger pool after → AreLevels app pool levels → AreLevels app after levels
levels_longer app pool after levels longer h = record {
  size = h.size;
  each = λ u d lt. task_levels_longer (values_at pool u) (values_at after u) (longer.values u) app u (get_or levels.tasks u d) (h.each u d lt);
  insides = insides_longer app pool after levels.insides longer h.insides;
  arrivals = h.arrivals;
}

-- also with other rules that are kept
pub levels_keeping : (app : App) (pool after : List Values) (levels : Levels) (kept : Arrivals) → IsLonger pool after → AreLevels app pool levels → AreKnownArrivals app kept.known → AreLevels app after (record levels { arrivals = kept })
levels_keeping app pool after levels kept longer h known = (let now = levels_longer app pool after levels longer h in record { size = now.size; each = now.each; insides = now.insides; arrivals = known })

-- ---- the levels of the first tasks

pub record AreLevelsUpTo (app : App) (pool : List Values) (k : ℕ) (tasks : List TaskLevels) : Type 0 where
  pub size : length tasks ≡ k
  pub each : (u : ℕ) (d : TaskLevels) → u < k → AreTaskLevels app u (values_at pool u) (get_or tasks u d)

pub levels_next : (app : App) (pool : List Values) (k : ℕ) (tasks : List TaskLevels) (x : TaskLevels) → AreLevelsUpTo app pool k tasks → ((u : ℕ) (vs : List PartValue) → AreTaskLevels app u vs x) → AreLevelsUpTo app pool (k + 1) (tasks ++ x ∷ [])
levels_next app pool k tasks x h each = record {
  size = omega (arith, length-append tasks (x ∷ []), h.size);
  each = λ u d lt. elim (cases_lt u k) [
    | inl below ↦ subst (AreTaskLevels app u (values_at pool u)) (sym (get_or_append_left tasks (x ∷ []) d u (omega (arith, below, h.size)))) (h.each u d below)
    | inr above ↦
        (let same : u ≡ length tasks = omega (arith, lt, above, h.size) in
        subst (AreTaskLevels app u (values_at pool u)) (sym (ap (λ (n : ℕ). get_or (tasks ++ x ∷ []) n d) same ∙ get_or-append_seam tasks x [] d)) (each u (values_at pool u)))
  ];
}

pub all_levels : (app : App) (pool : List Values) (levels : Levels) (k : ℕ) → AreLevelsUpTo app pool k levels.tasks → k ≡ length app.tasks → AreInsides app pool levels.insides → levels.arrivals.known ≡ [] → AreLevels app pool levels
all_levels app pool levels k h whole insides none = record {
  size = h.size ∙ whole;
  each = λ u d lt. h.each u d (omega (arith, lt, whole));
  insides = insides;
  arrivals = subst (AreKnownArrivals app) (sym none) (no_arrivals app);
}

module _ (app : App) (pool : List Values) (levels after : Levels) (k : ℕ) (x : TaskLevels) (h : AreLevels app pool levels) (known : k < length app.tasks) (write : after.tasks ≡ set levels.tasks k x) (same : after.insides ≡ levels.insides) (kept : after.arrivals ≡ levels.arrivals) (its : AreTaskLevels app k (values_at pool k) x) where
  here : (u : ℕ) (d : TaskLevels) → u ≡ k → get_or after.tasks u d ≡ x
  here u d same = ap₂ (λ (xs : List TaskLevels) (j : ℕ). get_or xs j d) write same ∙ get_or-set_same levels.tasks k x d (omega (arith, known, h.size))

  there : (u : ℕ) (d : TaskLevels) → u ≢ k → get_or after.tasks u d ≡ get_or levels.tasks u d
  there u d differ = ap (λ (xs : List TaskLevels). get_or xs u d) write ∙ get_or-set_other levels.tasks k u x d differ

  pub levels_with : AreLevels app pool after
  levels_with = record {
    size = ap length write ∙ length-set levels.tasks k x ∙ h.size;
    each = λ u d lt. elim (cases_eq u k) [
      | inl at ↦ subst (λ (j : ℕ). AreTaskLevels app j (values_at pool j) (get_or after.tasks u d)) (sym at) (subst (AreTaskLevels app k (values_at pool k)) (sym (here u d at)) its)
      | inr differ ↦ subst (AreTaskLevels app u (values_at pool u)) (sym (there u d differ)) (h.each u d lt)
    ];
    insides = subst (AreInsides app pool) (sym same) h.insides;
    arrivals = subst (λ (x : Arrivals). AreKnownArrivals app x.known) (sym kept) h.arrivals;
  }

  pub judged_with : x.judged ≡ length (values_at pool k) → ((u : ℕ) (d : TaskLevels) → u < k → (get_or levels.tasks u d).judged ≡ length (values_at pool u)) → (u : ℕ) (d : TaskLevels) → u < k + 1 → (get_or after.tasks u d).judged ≡ length (values_at pool u)
  judged_with all so_far u d lt = elim (cases_eq u k) [
    | inl same ↦ ap (λ (y : TaskLevels). y.judged) (here u d same) ∙ all ∙ ap (λ (j : ℕ). length (values_at pool j)) (sym same)
    | inr differ ↦ ap (λ (y : TaskLevels). y.judged) (there u d differ) ∙ so_far u d (omega (arith, lt, differ))
  ]

-- other values inside
pub levels_beside : (app : App) (pool : List Values) (levels after : Levels) → after.tasks ≡ levels.tasks → after.arrivals ≡ levels.arrivals → AreInsides app pool after.insides → AreLevels app pool levels → AreLevels app pool after
levels_beside app pool levels after same kept insides h = record {
  size = ap length same ∙ h.size;
  each = λ u d lt. subst (AreTaskLevels app u (values_at pool u)) (ap (λ (xs : List TaskLevels). get_or xs u d) (sym same)) (h.each u d lt);
  insides = insides;
  arrivals = subst (λ (x : Arrivals). AreKnownArrivals app x.known) (sym kept) h.arrivals;
}

-- ---- what a narrowed entry means

module _ (P : PartValue → Bool) (pool : List Values) (c : ℕ) (entry after : NumberedEntry) (h : IsNarrowed P pool c entry after) where
  -- the numbers of the other components stay
  pub narrowed_elsewhere : (k : ℕ) → k ≢ c → numbers_at after k ≡ numbers_at entry k
  narrowed_elsewhere k differ = ap (λ (xs : List Numbers). get_or xs k no_set) h.rest ∙ get_or-set_other entry.sets c k (numbers_at after c) no_set differ

  pub narrowed_fewer : (k n : ℕ) (d : PartValue) → IsTrue (has_number (numbers_at after k) n) → IsTrue (has_number (numbers_at entry k) n)
  narrowed_fewer k n d has = elim (cases_eq k c) [
    | inl same ↦
        (let left = and_parts (has_number (numbers_at entry c) n) (P (get_or (values_at pool c) n d)) (sym (h.each n d) ∙ ap (λ (j : ℕ). has_number (numbers_at after j) n) (sym same) ∙ has) in
        ap (λ (j : ℕ). has_number (numbers_at entry j) n) same ∙ left.0)
    | inr differ ↦ ap (λ (x : Numbers). has_number x n) (sym (narrowed_elsewhere k differ)) ∙ has
  ]

  pub narrowed_domains : number_domains after ≡ number_domains entry
  narrowed_domains =
      ap (map (λ (x : Numbers). x.domain)) h.rest
      ∙ map-set (λ (x : Numbers). x.domain) entry.sets c (numbers_at after c)
      ∙ ap (set (number_domains entry) c) (h.domain ∙ sym (get_or-map (λ (x : Numbers). x.domain) entry.sets c no_set))
      ∙ set-get_or (number_domains entry) c no_set.domain

  pub narrowed_known : AreNumbersOf pool entry → AreNumbersOf pool after
  narrowed_known known = record {
    domains = narrowed_domains ∙ known.domains;
    known = λ k n has. known.known k n (narrowed_fewer k n (OfAlarm false) has);
  }

  pub narrowed_members : (v : PartValue) → is_member (set_at (plain_entry pool after) c) v ≡ (is_member (set_at (plain_entry pool entry) c) v && P v)
  narrowed_members v =
      let vs = values_at pool c in
      ap (λ (s : ValueSet). is_member s v) (plain_set_at pool after c)
      ∙ member_of_plain vs (numbers_at after c) v
      ∙ value_sifted vs (has_number (numbers_at entry c)) (has_number (numbers_at after c)) P v (λ n d lt. h.each n d)
      ∙ ap (λ (b : Bool). b && P v) (sym (member_of_plain vs (numbers_at entry c) v) ∙ ap (λ (s : ValueSet). is_member s v) (sym (plain_set_at pool entry c)))

  pub narrowed_beside : (k : ℕ) → k ≢ c → set_at (plain_entry pool after) k ≡ set_at (plain_entry pool entry) k
  narrowed_beside k differ = plain_set_at pool after k ∙ ap (plain_set (values_at pool k)) (narrowed_elsewhere k differ) ∙ sym (plain_set_at pool entry k)

  pub narrowed_size : length after.sets ≡ length entry.sets
  narrowed_size = ap length h.rest ∙ length-set entry.sets c (numbers_at after c)
