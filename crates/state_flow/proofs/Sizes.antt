-- How many points an application has at most, and how high its tables are, so that a count of 64 bits holds the values.
use Rattle.std.proofs.{Common.{◌+◌, ◌^◌, ◌<◌, ◌≤◌, length, All, arith}, Math.Nat.{mul-le-mul}, lemmas.List.Sums.{sum_by-le}}
use Rattle.osek_standard.specs.declared.{app.App.{App}, objects.{Task.{Task}, Isr.{Isr}, Counter.{Counter}}}
use Rattle.osek_standard.specs.Counts.{points, height, task_blocks, routine_blocks}
use Rattle.abstract_state.proofs.HeightLaws.{height_most}
use Rattle.abstract_state.specs.{declared.table.PlainTable.{PlainTable}, Domains.{HasMasks}, Tables.{value_count}, Written.{IsWritten}}
use Rattle.state_flow.proofs.Bounds.{values_few}

module _ (app : App) where
  -- a task's blocks, a routine's and a tick routine's are at most all
  task_few : All (λ (x : Task). x.count ≤ 1056) app.tasks
  task_few k d lt = let owner = app.valid.each_task k d lt in omega (arith, owner.inside, app.valid.few_blocks)

  isr_few : All (λ (x : Isr). x.count ≤ 1056) app.isrs
  isr_few k d lt = let owner = app.valid.each_isr k d lt in omega (arith, owner.inside, app.valid.few_blocks)

  counter_few : All (λ (x : Counter). x.count ≤ 1056) app.counters
  counter_few k d lt = let owner = (app.valid.each_counter k d lt).1 in omega (arith, owner.inside, app.valid.few_blocks)

  task_blocks_few : task_blocks app ≤ 16896
  task_blocks_few = omega (arith, sum_by-le (λ (x : Task). x.count) 1056 app.tasks task_few, app.valid.few_tasks)

  routine_blocks_few : routine_blocks app ≤ 16896
  routine_blocks_few =
      omega (arith, sum_by-le (λ (x : Isr). x.count) 1056 app.isrs isr_few, sum_by-le (λ (x : Counter). x.count) 1056 app.counters counter_few, app.valid.few_isrs, app.valid.few_counters)

  points_few : points app ≤ 304130
  points_few =
      let over : length app.tasks + 1 ≤ 17 = omega (arith, app.valid.few_tasks) in
      omega (arith, task_blocks_few, mul-le-mul {n₁ = routine_blocks app} {m₁ = length app.tasks + 1} {n₂ = 16896} {m₂ = 17} routine_blocks_few over)

  -- a count of 64 bits holds the number of values of a written table
  pub values_fit : HasMasks app → (table : PlainTable) → IsWritten app table → value_count table < 2 ^ 64
  values_fit masks table written =
      let product = mul-le-mul {n₁ = points app} {m₁ = height app} {n₂ = 304130} {m₂ = 58668307712832} points_few (height_most app masks) in
      omega (arith, values_few app table written masks, product)
