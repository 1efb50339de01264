-- The values of tasks by what the scheduler reads of them.
use Rattle.std.specs.{Prelude.{◌≡◌, ◌≢◌, ℕ, ◌<◌, ◌≤◌, ◌+◌, ◌&&◌, ◌||◌, Bool, false, List, [], length, map, slice_index_or, slice_set, IsTrue, Some, None, is_some, Contains}, List.{list_any}, declared.option.Option.{Option}}
use Rattle.osek_values.specs.{Numbers.{task_no}, declared.numbers.TaskNo.{TaskNo}}
use Rattle.osek_standard.specs.{declared.app.App.{App}, Internal.{internal_of}}
use Rattle.abstract_state.specs.{declared.value.PartValue.{PartValue}, Concrete.{val_of}, Domains.{IsWithin, domains_of}}
use Rattle.flow_model.specs.declared.change.Update.TheVariants as update
use Rattle.flow_model.specs.{Values.{is_live_value, value_priority}, Tests.{updated}}
use Rattle.numbered_sets.specs.{declared.numbered_entry.NumberedEntry.{NumberedEntry}, Numbers.{Numbers, has_number}, NumberedEntries.{numbers_at}}
use Rattle.numbered_sets.specs.Pools.{Values, values_at, domain_at, pool_domains, IsNumberOf}
use Rattle.block_sets.specs.AtBlocks.{AreBlockSets}
use Rattle.flow_exits.specs.Claims.{is_below}
use Rattle.point_exits.specs.declared.{insides.Insides.{Insides}, task_levels.{Level.{Level}, TaskLevels.{TaskLevels}, TaskValues.{TaskValues}}, levels.Levels.{Levels}}
use Rattle.point_exits.specs.Arrivals.{AreKnownArrivals}

-- with this value task u is Live, at this current priority
pub record IsLiveAt (app : App) (u p : ℕ) (v : PartValue) : Type 0 where
  pub live : IsTrue (is_live_value (val_of v))
  pub priority : value_priority app u (val_of v) ≡ p

-- with this value task u is Live, at this current priority or above
pub record IsLiveFrom (app : App) (u p : ℕ) (v : PartValue) : Type 0 where
  pub live : IsTrue (is_live_value (val_of v))
  pub priority : p ≤ value_priority app u (val_of v)

-- the numbers are those of values with a property, among the first ones
abbrev pub AreOf : (PartValue → Type 0) → List PartValue → ℕ → Numbers → Type 0
AreOf P vs judged x = (n : ℕ) (d : PartValue) → IsTrue (has_number x n) → (n < judged) × P (slice_index_or vs n d)

abbrev pub IsDead : PartValue → Type 0
IsDead v = is_live_value (val_of v) ≡ false

abbrev pub IsLevel : App → ℕ → List PartValue → ℕ → Level → Type 0
IsLevel app u vs judged x = AreOf (IsLiveAt app u x.priority) vs judged x.numbers

-- some level has the number
abbrev pub is_at_level : List Level → ℕ → Bool
is_at_level levels n = list_any (λ (level : Level). has_number level.numbers n) levels

-- The numbers are of values from a priority on, and of the first values all those are there. Of a value that is judged next
-- the number may be there already.
pub record AreFrom (app : App) (u : ℕ) (vs : List PartValue) (judged p : ℕ) (x : Numbers) : Type 0 where
  pub each : AreOf (IsLiveFrom app u p) vs (length vs) x
  pub whole : (n : ℕ) (d : PartValue) → n < judged → IsLiveFrom app u p (slice_index_or vs n d) → IsTrue (has_number x n)

-- The first values of task u, by what the scheduler reads of them: each is dead or at a level, and those from each level's
-- priority on are known. Those at each block are known too, with the next ones maybe.
pub record AreTaskLevels (app : App) (u : ℕ) (vs : List PartValue) (x : TaskLevels) : Type 0 where
  pub few : x.judged ≤ length vs
  pub dead : AreOf IsDead vs x.judged x.dead
  pub levels : (level : Level) → Contains x.levels level → IsLevel app u vs x.judged level
  pub from : (level : Level) → Contains x.levels level → AreFrom app u vs x.judged level.priority level.from
  pub whole : (n : ℕ) → n < x.judged → IsTrue (has_number x.dead n || is_at_level x.levels n)
  pub blocks : AreBlockSets vs x.blocks.sets

-- the first of a task's values
abbrev pub AreLevelsOf : TaskValues → TaskLevels → Type 0
AreLevelsOf values x = AreTaskLevels values.app.now values.task.0 (values_at values.pool.now values.task.0) x

-- there is a next value
pub record HasNext (values : TaskValues) (x : TaskLevels) : Type 0 where
  pub levels : AreLevelsOf values x
  pub next : x.judged < length (values_at values.pool.now values.task.0)

-- the next value was judged too
abbrev pub with_next : TaskLevels → TaskLevels
with_next x = record x { judged = x.judged + 1 }

-- The number of the next value, which is at a priority, came to those from the priorities of the first k levels on.
pub record ArePutFrom (priority : ℕ) (x y : TaskLevels) (k : ℕ) : Type 0 where
  pub judged : y.judged ≡ x.judged
  pub size : length y.levels ≡ length x.levels
  pub priorities : (i : ℕ) (d : Level) → (slice_index_or y.levels i d).priority ≡ (slice_index_or x.levels i d).priority
  pub levels : (app : App) (u : ℕ) (vs : List PartValue) (v : PartValue) → AreTaskLevels app u vs x → IsNumberOf vs v x.judged → IsLiveAt app u priority v → AreTaskLevels app u vs y
  pub next : (app : App) (u : ℕ) (vs : List PartValue) (v : PartValue) → AreTaskLevels app u vs x → IsNumberOf vs v x.judged → IsLiveAt app u priority v →
      (i : ℕ) (d : Level) → i < k → AreFrom app u vs (x.judged + 1) (slice_index_or y.levels i d).priority (slice_index_or y.levels i d).from

-- the place is that of the least of the first k levels from a limit on
abbrev pub IsLeastFrom : List Level → ℕ → ℕ → Option ℕ → Type 0
IsLeastFrom levels limit k None = (i : ℕ) (d : Level) → i < k → (slice_index_or levels i d).priority < limit
IsLeastFrom levels limit k (Some place) = (place < length levels) × ((d : Level) → limit ≤ (slice_index_or levels place d).priority) ×
    ((i : ℕ) (d : Level) → i < k → limit ≤ (slice_index_or levels i d).priority → (slice_index_or levels place d).priority ≤ (slice_index_or levels i d).priority)

-- the first values of a task, each with the number of the same value inside
pub record AreInside (vs : List PartValue) (x : Insides) : Type 0 where
  pub few : length x.numbers ≤ length vs
  pub each : (n : ℕ) (v : PartValue) → n < length x.numbers → IsNumberOf vs v n → IsNumberOf vs (updated update.Inside v) (slice_index_or x.numbers n 0)

-- so it is of a task of the pool, whose values are of its domain inside too
pub record MayComeIn (pool : List Values) (x : Insides) : Type 0 where
  pub known : x.task.0 < length pool
  pub within : (v : PartValue) → IsWithin (domain_at pool x.task.0) v → IsWithin (domain_at pool x.task.0) (updated update.Inside v)
  pub insides : AreInside (values_at pool x.task.0) x

abbrev pub inside_tasks : List Insides → List TaskNo
inside_tasks insides = map (λ (x : Insides). x.task) insides

-- of the tasks below n those that name an INTERNAL resource, none twice
pub record AreNaming (app : App) (n : ℕ) (tasks : List TaskNo) : Type 0 where
  pub each : (t : TaskNo) → Contains tasks t → (t.0 < n) × IsTrue (is_some (internal_of app t.0))
  pub some : (t : ℕ) → t < n → IsTrue (is_some (internal_of app t)) → ∥ Contains tasks (task_no t) ∥₁
  pub once : (i j : ℕ) (d e : TaskNo) → i < j → j < length tasks → (slice_index_or tasks i d).0 ≢ (slice_index_or tasks j e).0

-- nothing was seen yet of these tasks
pub record AreNoInsides (app : App) (insides : List Insides) : Type 0 where
  pub tasks : AreNaming app (length app.tasks) (inside_tasks insides)
  pub none : (i : ℕ) (d : Insides) → i < length insides → (slice_index_or insides i d).numbers ≡ []

-- the values inside of the tasks that name an INTERNAL resource; some that came in since the last time may be missing
pub record AreInsides (app : App) (pool : List Values) (insides : List Insides) : Type 0 where
  pub tasks : AreNaming app (length app.tasks) (inside_tasks insides)
  pub each : (i : ℕ) (d : Insides) → i < length insides → AreInside (values_at pool (slice_index_or insides i d).task.0) (slice_index_or insides i d)

-- none is missing
abbrev pub AreAllInside : List Values → List Insides → Type 0
AreAllInside pool insides = (i : ℕ) (d : Insides) → i < length insides → length (slice_index_or insides i d).numbers ≡ length (values_at pool (slice_index_or insides i d).task.0)

module _ (app : App) (pool : List Values) (levels : Levels) where
  -- So it is for each task. Values that came in since the last time may be missing.
  pub record AreLevels : Type 0 where
    pub size : length levels.tasks ≡ length app.tasks
    pub each : (u : ℕ) (d : TaskLevels) → u < length app.tasks → AreTaskLevels app u (values_at pool u) (slice_index_or levels.tasks u d)
    pub insides : AreInsides app pool levels.insides
    pub arrivals : AreKnownArrivals app levels.arrivals.known

  -- All values of the pool are there.
  pub record AreAllLevels : Type 0 where
    pub are : AreLevels
    pub all : (u : ℕ) (d : TaskLevels) → u < length app.tasks → (slice_index_or levels.tasks u d).judged ≡ length (values_at pool u)
    pub inside : AreAllInside pool levels.insides

-- These are levels of a pool that is for the application's components.
pub record AreOwnLevels (app : App) (pool : List Values) (its : Levels) : Type 0 where
  pub domains : pool_domains pool ≡ domains_of app
  pub levels : AreLevels app pool its

-- some value of these numbers is below the limit, or not Live
pub record HasBelow (app : App) (u limit : ℕ) (vs : List PartValue) (x : Numbers) : Type 0 where
  pub number : ℕ
  pub has : IsTrue (has_number x number)
  pub below : (d : PartValue) → IsTrue (is_below app u limit (val_of (slice_index_or vs number d)))

-- The least limit under which the task is with one of these values.
pub record IsLeastLimit (app : App) (u : ℕ) (vs : List PartValue) (x : Numbers) (need : ℕ) : Type 0 where
  pub least : (limit : ℕ) → HasBelow app u limit vs x → need ≤ limit
  pub enough : (n : ℕ) → IsTrue (has_number x n) → ∥ HasBelow app u need vs x ∥₁

-- The numbers are left that pass, of one component alone.
pub record IsNarrowed (passes : PartValue → Bool) (pool : List Values) (c : ℕ) (entry after : NumberedEntry) : Type 0 where
  pub rest : after.sets ≡ slice_set entry.sets c (numbers_at after c)
  pub domain : (numbers_at after c).domain ≡ (numbers_at entry c).domain
  pub each : (n : ℕ) (d : PartValue) → has_number (numbers_at after c) n ≡ (has_number (numbers_at entry c) n && passes (slice_index_or (values_at pool c) n d))

-- each of the numbers was judged
abbrev pub AreAllJudged : TaskLevels → Numbers → Type 0
AreAllJudged levels x = (n : ℕ) → IsTrue (has_number x n) → n < levels.judged
