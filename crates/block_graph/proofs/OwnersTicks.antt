-- What the blocks of a tick routine keep.
use Rattle.std.proofs.Common.{◌≡◌, ℕ, ◌+◌, ◌-◌, ◌<◌, ◌≤◌, eqb, List, [], ◌∷◌, ◌++◌, length, get_or, refl, sym, ap, ◌∙◌, arith, IsTrue}
use Rattle.std.specs.{Prelude.{All}, List.{enumerate_from, filter}}
use Rattle.std.proofs.{Math.Seq.{get_or-append_seam}, lemmas.{Bool.{and_from, eq-eqb, lt-ltb}, List.{append_assoc, append-nil, length_push}}}
use Rattle.std.proofs.lemmas.List.{Elements.{All-filter, All-head, All-map, All-tail}, FromFn.{get_or-enumerate_from, length-enumerate_from}}
use Rattle.oil_system.specs.declared.{objects.Alarm.{Alarm}, system.System.{System}}
use Rattle.osek_standard.specs.{declared.block.Block.{Block}, Validity.{due_of, tick_may}}
use Rattle.task_code.specs.declared.tree.Body.{Body}
use Rattle.block_graph.specs.Blocks.{expiries, routine}
use Rattle.block_graph.proofs.{OwnersEach.{AllFrom}, OwnersStatements.{Good}}

pub expiries_length : (due : List ℕ) (n : ℕ) → length (expiries due n) ≡ length due + 1
expiries_length [] n = refl
expiries_length (alarm ∷ due) n = omega (arith, expiries_length due (n + 1))

module _ (s : System) (bodies : List Body) (blocks : List Block) (first count : ℕ) where
  pub expiries_are_good : (due : List ℕ) (n : ℕ) → first ≤ n → n + length due < first + count → All (λ (a : ℕ). a < length s.alarms) due → AllFrom (Good s bodies blocks first count) n (expiries due n)
  expiries_are_good [] n low high inside = (record { own_next = eq-eqb n n refl; is_block = record { operands = tt; next = (low, omega arith); other = tt } }, tt)
  expiries_are_good (alarm ∷ due) n low high inside = (
    record { own_next = refl; is_block = record { operands = All-head (λ (a : ℕ). a < length s.alarms) alarm due inside; next = (omega arith, omega arith); other = tt } },
    expiries_are_good due (n + 1) (omega arith) (omega arith) (All-tail (λ (a : ℕ). a < length s.alarms) alarm due inside),
  )

  pub routine_is_good : (due : List ℕ) → length due + 2 ≤ count → All (λ (a : ℕ). a < length s.alarms) due → AllFrom (Good s bodies blocks first count) first (routine due first)
  routine_is_good due room inside = (
    record { own_next = refl; is_block = record { operands = tt; next = (omega arith, omega arith); other = tt } },
    expiries_are_good due (first + 1) (omega arith) (omega arith) inside,
  )

-- what stands at each place
abbrev pub InRoutine : List ℕ → ℕ → ℕ → Block → Type 0
InRoutine due first b x = IsTrue (tick_may due (b - first) x.kind)

-- some of the alarms stand before
expiries_stand : (all gone due : List ℕ) (first n : ℕ) → all ≡ gone ++ due → n ≡ first + length gone + 1 → AllFrom (InRoutine all first) n (expiries due n)
expiries_stand all gone [] first n is at =
    let whole : length all ≡ length gone = ap (λ (xs : List ℕ). length xs) (is ∙ append-nil gone) in
    (eq-eqb (n - first) (length all + 1) (omega arith), tt)
expiries_stand all gone (alarm ∷ due) first n is at =
    let place : (n - first) - 1 ≡ length gone = omega arith in
    let read : get_or all ((n - first) - 1) 256 ≡ alarm = ap (λ (xs : List ℕ). get_or xs ((n - first) - 1) 256) is ∙ ap (λ (k : ℕ). get_or (gone ++ alarm ∷ due) k 256) place ∙ get_or-append_seam gone alarm due 256 in
    let next : n + 1 ≡ first + length (gone ++ alarm ∷ []) + 1 = omega (arith, length_push gone alarm) in (
      and_from _ _ (lt-ltb 0 (n - first) (omega arith)) (eq-eqb (get_or all ((n - first) - 1) 256) alarm read),
      expiries_stand all (gone ++ alarm ∷ []) due first (n + 1) (is ∙ sym (append_assoc gone (alarm ∷ []) due)) next,
    )

pub routine_stands : (due : List ℕ) (first : ℕ) → AllFrom (InRoutine due first) first (routine due first)
routine_stands due first = (eq-eqb (first - first) 0 (omega arith), expiries_stand due [] due first (first + 1) refl (omega arith))

-- each block but the last goes to the next
abbrev pub GoesOn : ℕ → ℕ → Block → Type 0
GoesOn end b x = b + 1 < end → x.next.0 ≡ b + 1

expiries_go_on : (due : List ℕ) (n end : ℕ) → end ≡ n + length due + 1 → AllFrom (GoesOn end) n (expiries due n)
expiries_go_on [] n end e = ((λ more. absurd (omega arith)), tt)
expiries_go_on (alarm ∷ due) n end e = ((λ more. refl), expiries_go_on due (n + 1) end (omega arith))

pub routine_goes_on : (due : List ℕ) (first end : ℕ) → end ≡ first + (length due + 2) → AllFrom (GoesOn end) first (routine due first)
routine_goes_on due first end e = ((λ more. refl), expiries_go_on due (first + 1) end (omega arith))

-- the alarms of a counter are among the alarms
pub due_below : (alarms : List Alarm) (c : ℕ) → All (λ (a : ℕ). a < length alarms) (due_of alarms c)
due_below alarms c =
    let numbered = enumerate_from 0 alarms in
    let all : All (λ (p : ℕ × Alarm). p.0 < length alarms) numbered = λ k d lt.
    let within : k < length alarms = omega (arith, length-enumerate_from 0 alarms) in
    let read : (get_or numbered k d).0 ≡ 0 + k = ap (λ (p : ℕ × Alarm). p.0) (get_or-enumerate_from 0 alarms k d within) in
    omega arith
    in
    All-map (λ (a : ℕ). a < length alarms) (λ (p : ℕ × Alarm). p.0) (filter (λ (p : ℕ × Alarm). eqb p.1.counter.0 c) numbered)
    (All-filter (λ (p : ℕ × Alarm). eqb p.1.counter.0 c) (λ (p : ℕ × Alarm). p.0 < length alarms) numbered all)
