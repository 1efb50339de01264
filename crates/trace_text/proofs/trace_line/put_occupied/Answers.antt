-- the INTERNAL resource and the stack are what the task has, and these are few
use Rattle.std.proofs.Common.{◌≡◌, ℕ, ◌+◌, ◌<◌, ◌≤◌, List, [], ◌++◌, length, take, refl, sym, ap, subst, ◌∙◌, arith, append_assoc, Some, None}
use Rattle.std.specs.{Prelude.{if◌then◌else◌}, List.{flat_map, cons_option}, declared.option.Option.{Option}}
use Rattle.osek_values.specs.{declared.{numbers.ResNo.{ResNo}, limits.TheConstants.{MAX_RESOURCES}}, Numbers.{mask}}
use Rattle.osek_standard.specs.declared.{app.App.{App}, task_state.{TaskState.{TaskState}, Standing.{Standing}, Activity.{Activity, TheVariants.{Live}}}}
use Rattle.osek_standard.specs.{Internal.{internal_of, occupied}, TraceText.{resource_text}, Well.{IsActivityOf}}
use Rattle.osek_standard.proofs.OccupiedLaws.{occupied_few}
use Rattle.trace_text.proofs.trace_line.put_occupied.Goals as goal

texts_together : (f : ResNo → List ℕ) (o : Option ResNo) (h : List ResNo) → flat_map f (cons_option o []) ++ flat_map f h ≡ flat_map f (cons_option o h)
texts_together f None h = refl
texts_together f (Some r) h = append_assoc (f r) [] (flat_map f h)

together : (o : Option ResNo) (h : List ResNo) → length (cons_option o []) + length h ≡ length (cons_option o h)
together None h = omega arith
together (Some r) h = omega arith

-- what a Live task has
module _ (app : App) (t : ℕ) (x : TaskState) (y : Standing) (is : x.activity ≡ Live y) where
  abbrev inner : Option ResNo
  inner = if y.inside then internal_of app t else None

  occupied_is : cons_option inner y.held ≡ occupied app t x
  occupied_is = ap (λ (a : Activity). occupied app t (record x { activity = a })) (sym is)

  few_live : t < length app.tasks → IsActivityOf app t x.activity → length (cons_option inner []) + length y.held ≤ MAX_RESOURCES
  few_live known right = omega (arith, together inner y.held, occupied_few app t (record { activity = Live y; events = mask 0 }) known (subst (IsActivityOf app t) is right))

pub put_resources-requires-clause-room : goal.put_resources-requires-clause-room
put_resources-requires-clause-room c =
    let few = few_live c.args.app.now c.args.task.0 c.args.state.now c.in-Live.standing c.in-Live.is c.requires.known c.requires.right in
    omega (arith, few, c.requires.room, c.put_internal-at.ensures.most, c.put_internal-at.auto.buf, ap (λ (h : List ResNo). length h) c.as_slice.ensures)

pub returns-in-Live-clause-text : goal.returns-in-Live-clause-text
returns-in-Live-clause-text c =
    let app = c.args.app.now in
    let y = c.in-Live.standing in
    let o = inner app c.args.task.0 c.args.state.now y c.in-Live.is in
    let before = take c.args.at c.args.buf.now in
    c.put_resources.ensures.text
    ∙ ap (λ (h : List ResNo). take c.put_internal-at.result c.put_internal-at.new.buf ++ flat_map (resource_text app) h) c.as_slice.ensures
    ∙ ap (λ (l : List ℕ). l ++ flat_map (resource_text app) y.held) c.put_internal-at.ensures.text
    ∙ append_assoc before (flat_map (resource_text app) (cons_option o [])) (flat_map (resource_text app) y.held)
    ∙ ap (λ (l : List ℕ). before ++ l) (texts_together (resource_text app) o y.held)
    ∙ ap (λ (h : List ResNo). before ++ flat_map (resource_text app) h) (occupied_is app c.args.task.0 c.args.state.now y c.in-Live.is)

pub returns-in-Live-clause-most : goal.returns-in-Live-clause-most
returns-in-Live-clause-most c =
    let few = few_live c.args.app.now c.args.task.0 c.args.state.now c.in-Live.standing c.in-Live.is c.requires.known c.requires.right in
    omega (arith, few, c.put_resources.ensures.most, c.put_internal-at.ensures.most, ap (λ (h : List ResNo). length h) c.as_slice.ensures)
