use Rattle.std.proofs.{Common.{◌≡◌, ℕ, ◌<◌, ◌++◌, ◌∷◌, [], List, length, get_or, refl, sym, ap, subst, ◌∙◌, arith}, lemmas.List.{get_or_default}}
use Rattle.numbered_sets.specs.Numbers.{Numbers, numbers, with_number}
use Rattle.osek_standard.specs.declared.point.Point.{Point}
use Rattle.point_exits.specs.declared.group.NumberEnd.{NumberEnd}
use Rattle.point_exits.proofs.NumberPuts.{end_new, some_new, end_there, some_there}
use Rattle.point_exits.proofs.group.put_number.Goals as goal

-- the place of the end at a point
abbrev IsFound : List NumberEnd → Point → ℕ → Type 0
IsFound xs p place = (place < length xs) × ((none : NumberEnd) → (get_or xs place none).target ≡ p)

-- a new end
pub returns-in_default-clause-some : goal.returns-in_default-clause-some
returns-in_default-clause-some c =
    let n = c.args.number in
    let d = c.args.end.domain in
    let xs = c.args.ends.now.items in
    let is : c.put.new.self ≡ with_number (numbers d 0) n = c.in_ok-put.ensures.set ∙ ap (λ (x : Numbers). with_number x n) c.in_ok-numbers.ensures in
    some_new c.args.end.component d c.args.end.target n xs c.push.new.self.items
    (c.in_ok-push.ensures.items ∙ ap (λ (x : Numbers). xs ++ (record { component = c.args.end.component; numbers = x; target = c.args.end.target }) ∷ []) is)

pub returns-in_default-clause-put : goal.returns-in_default-clause-put
returns-in_default-clause-put c =
    let n = c.args.number in
    let d = c.args.end.domain in
    let xs = c.args.ends.now.items in
    let is : c.put.new.self ≡ with_number (numbers d 0) n = c.in_ok-put.ensures.set ∙ ap (λ (x : Numbers). with_number x n) c.in_ok-numbers.ensures in
    end_new c.args.end.component d c.args.end.target n xs c.push.new.self.items
    (c.in_ok-push.ensures.items ∙ ap (λ (x : Numbers). xs ++ (record { component = c.args.end.component; numbers = x; target = c.args.end.target }) ∷ []) is)

-- the end that is there
pub index_mut-requires : goal.index_mut-requires
index_mut-requires c =
    let found = subst (λ (xs : List NumberEnd). IsFound xs c.args.end.target c.in-Some.place) c.as_slice.ensures.value c.in-Some.ensures in
    let there = found.0 in
    omega (arith, there, c.args.ends.now.ok.0)

pub returns-clause-some : goal.returns-clause-some
returns-clause-some c =
    let xs = c.args.ends.now.items in
    let p = c.args.end.target in
    let place = c.in-Some.place in
    let found = subst (λ (ys : List NumberEnd). IsFound ys p place) c.as_slice.ensures.value c.in-Some.ensures in
    let old = c.index_mut.result.now in
    let new : NumberEnd = record old { numbers = c.put-2.new.self } in
    let at : (none : NumberEnd) → get_or xs place none ≡ old = λ none. get_or_default xs place none old found.0 ∙ sym c.index_mut.ensures.value in
    some_there p c.args.number xs place found.0 old new at (ap (λ (e : NumberEnd). e.target) (sym (at old)) ∙ found.1 old) refl refl c.in_ok-put-2.ensures.set c.args.end.component c.args.end.domain _ refl

pub returns-clause-put : goal.returns-clause-put
returns-clause-put c =
    let xs = c.args.ends.now.items in
    let p = c.args.end.target in
    let place = c.in-Some.place in
    let found = subst (λ (ys : List NumberEnd). IsFound ys p place) c.as_slice.ensures.value c.in-Some.ensures in
    let old = c.index_mut.result.now in
    let new : NumberEnd = record old { numbers = c.put-2.new.self } in
    let at : (none : NumberEnd) → get_or xs place none ≡ old = λ none. get_or_default xs place none old found.0 ∙ sym c.index_mut.ensures.value in
    end_there p c.args.number xs place found.0 old new at (ap (λ (e : NumberEnd). e.target) (sym (at old)) ∙ found.1 old) refl refl c.in_ok-put-2.ensures.set _ refl
