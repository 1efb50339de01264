use Rattle.std.proofs.Common.{sym, ◌∙◌, arith}
use Rattle.point_exits.specs.Narrowing.{is_under_limit}
use Rattle.point_exits.proofs.{LeftLaws.{tasks_counted, as_many_left, known_left, unlimited_left, limited_left}, OwnLevels.{own_known, own_levels, all_judged}}
use Rattle.point_exits.proofs.contest.Contest.keep_under.Goals as goal

pub of-requires : goal.of-requires
of-requires c = (let x = c.args.self.now.values.now in own_known x.app.now x.pool.now x.levels.now c.args.task.0 c.requires.known x.decidable.levels)

pub keep_below-requires : goal.keep_below-requires
keep_below-requires c =
    let x = c.args.self.now.values.now in
    let as_many = as_many_left (is_under_limit x.app.now c.args.claim c.args.task.0) x.pool.now x.after c.args.entry.now c.requires.left in
    omega (arith, as_many, tasks_counted x.app.now, c.requires.known, x.decidable.whole.size)

pub returns-in_default : goal.returns-in_default
returns-in_default c = (let x = c.args.self.now.values.now in unlimited_left x.app.now c.args.claim x.pool.now x.after c.args.task.0 c.args.entry.now (sym c.limit.ensures ∙ c.in_default.is) c.requires.left)

pub returns : goal.returns
returns c =
    let x = c.args.self.now.values.now in
    let app = x.app.now in
    let pool = x.pool.now in
    let levels = x.levels.now in
    let entry = c.args.entry.now in
    let t = c.args.task.0 in
    let own = c.of.result.now in
    let all = x.decidable.levels in
    let numbers = known_left (is_under_limit app c.args.claim t) pool x.after entry c.requires.left x.decidable.whole.numbers in
    let narrowed = c.in_ok-keep_below.ensures app pool (own_levels app pool levels t c.requires.known all own c.of.ensures) (all_judged app pool levels t c.requires.known all own c.of.ensures entry numbers) in
    limited_left app c.args.claim pool x.after t entry c.keep_below.new.entry c.in-Some.limit (sym c.limit.ensures ∙ c.in-Some.is) narrowed c.requires.left
