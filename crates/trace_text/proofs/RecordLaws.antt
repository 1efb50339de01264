-- A text of points reads back as these points.
use Rattle.std.proofs.Common.{◌≡◌, ℕ, ◌+◌, ◌<◌, ◌^◌, ◌≤◌, true, cond, not, eqb, List, [], ◌∷◌, ◌++◌, map, length, Some, None, Ok, refl, sym, ◌∙◌, ap, arith}
use Rattle.std.specs.{Prelude.{codes}, Fmt.{decimal}, List.{All, list_all, enumerate_from}, declared.option.Option.{Option}}
use Rattle.std.proofs.lemmas.{Bool.{and_parts, and_from, le-ltb}, Fmt.{length-decimal-le}, List.{append-nil, length-append, Elements.{All-head, All-tail}}}
use Rattle.osek_values.specs.declared.numbers.TaskNo.{TaskNo}
use Rattle.osek_standard.specs.{declared.{app.App.{App}, point.Point.{Point}}, Points.{IsPoint}, TraceText.{task_name}}
use Rattle.osek_standard.specs.declared.point.Point.TheVariants as point
use Rattle.text_pieces.proofs.NameLaws.{name_is}
use Rattle.trace_text.specs.{declared.fault.PointFault.TheVariants.{G4}, EventWords.{is_blank, is_some_word}, EventGrammar.{HasWords}, EventText.{text_lines, numbered_lines}}
use Rattle.trace_text.specs.{PointTexts.{block_text, point_text, task_or_dash}, PointWords.{read_point_line}, RecordText.{faulty_at, with_point, read_points, read_record, record_text}}
use Rattle.trace_text.proofs.{Parting.{Lacks}, PointAnswers.{read}, PointsApart.{IsKnown, named, task_block_fits, routine_block_fits, text_lacks}, TextLaws.{line_then, no_blank_by}}

unblank : (cs : List ℕ) → Lacks 32 cs → Lacks 9 cs → list_all (λ c. not (is_blank c)) cs ≡ true
unblank [] h k = refl
unblank (c ∷ cs) h k =
    let space = and_parts (not (eqb c 32)) (list_all (λ (x : ℕ). not (eqb x 32)) cs) h in
    let tab = and_parts (not (eqb c 9)) (list_all (λ (x : ℕ). not (eqb x 9)) cs) k in
    and_from (not (is_blank c)) (list_all (λ (x : ℕ). not (is_blank x)) cs) (no_blank_by (eqb c 32) (eqb c 9) space.0 tab.0) (unblank cs space.1 tab.1)

module _ (app : App) where
  some_text : (p : Point) → is_some_word (point_text app p) ≡ true
  some_text point.Halted = refl
  some_text point.Idle = refl
  some_text (point.Task b) = refl
  some_text (point.Routine b x) = refl

  block_size : (b : ℕ) → b < 2 ^ 64 → length (block_text b) ≤ 21
  block_size b fits = omega (arith, length-append (codes "b") (decimal b), length-decimal-le 20 b (omega arith) (omega (arith, fits)) fits)

  over_size : (x : Option TaskNo) → IsKnown app x → length (task_or_dash app x) ≤ 64
  over_size None h = omega arith
  over_size (Some t) h = (name_is (task_name app t.0) (named app t.0 h)).short

  short : (p : Point) → IsPoint app p → length (point_text app p) ≤ 256
  short point.Halted h = omega arith
  short point.Idle h = omega arith
  short (point.Task b) h = omega (arith, block_size b.0 (task_block_fits app b h))
  short (point.Routine b x) h =
      let block = block_size b.0 (routine_block_fits app b x h) in
      let over = over_size x h.task in
      omega (arith, block, over, length-append (block_text b.0 ++ codes "/") (task_or_dash app x), length-append (block_text b.0) (codes "/"))

  one_word : (p : Point) → IsPoint app p → HasWords (point_text app p) (point_text app p ∷ [])
  one_word p h = (
    [],
    [],
    record {
      parts = sym (append-nil (point_text app p));
      blanks = refl;
      some = some_text p;
      whole = unblank (point_text app p) (text_lacks app 32 (omega arith) refl p h) (text_lacks app 9 (omega arith) refl p h);
      ends = refl;
    },
    refl,
  )

  pub reads_as_printed : (p : Point) → IsPoint app p → read_point_line app (point_text app p) ≡ Ok (Some p)
  reads_as_printed p h =
      read app (point_text app p) (Ok (Some p))
      (record { short = short p h; words = point_text app p ∷ []; parted = one_word p h; property = record { word = point_text app p; alone = refl; property = (h, refl) } })

  lines_are : (ps : List Point) → All (IsPoint app) ps → text_lines (record_text app ps) ≡ map (point_text app) ps
  lines_are [] h = refl
  lines_are (p ∷ ps) h =
      let known = All-head (IsPoint app) p ps h in
      line_then (point_text app p) (record_text app ps) (text_lacks app 10 (omega arith) refl p known) (text_lacks app 13 (omega arith) refl p known)
      ∙ ap (λ ls. point_text app p ∷ ls) (lines_are ps (All-tail (IsPoint app) p ps h))

  lines_read : (ps : List Point) (n : ℕ) → All (IsPoint app) ps → read_points app (enumerate_from n (map (point_text app) ps)) ≡ record { points = ps; fault = None }
  lines_read [] n h = refl
  lines_read (p ∷ ps) n h =
      let rest = read_points app (enumerate_from (n + 1) (map (point_text app) ps)) in
      ap (λ r. with_point n r rest) (reads_as_printed p (All-head (IsPoint app) p ps h)) ∙ ap (with_point n (Ok (Some p))) (lines_read ps (n + 1) (All-tail (IsPoint app) p ps h))

  pub reads_back : (ps : List Point) → All (IsPoint app) ps → length (record_text app ps) ≤ 16777216 → read_record app (record_text app ps) ≡ record { points = ps; fault = None }
  reads_back ps h size =
      let text = record_text app ps in
      ap (λ b. cond b (faulty_at 0 G4) (read_points app (numbered_lines text))) (le-ltb 16777216 (length text) size)
      ∙ ap (λ ls. read_points app (enumerate_from 1 ls)) (lines_are ps h) ∙ lines_read ps 1 h
